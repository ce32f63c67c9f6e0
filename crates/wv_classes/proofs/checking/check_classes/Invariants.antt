use Rattle.wv_classes.specs.Checking.{IsCheckingOf}
use Rattle.wv_classes.proofs.checking.check_classes.Given as goal

-- the class files so far are checked
abbrev pub invariant-loop-class : goal.invariant-loop-class
invariant-loop-class l = IsCheckingOf l.yielded l.checking
