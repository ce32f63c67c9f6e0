use Rattle.std.proofs.Common.{◌≡◌, ◌++◌, map, take}
use Rattle.wv_class.specs.StartFrame.{verification_type}
use Rattle.wv_class.proofs.start_frame.push_parameters.Given as goal

abbrev pub invariant-loop-parameter : goal.invariant-loop-parameter
invariant-loop-parameter l = l.locals ≡ l.fn.locals ++ map verification_type (take l.parameter-index l.parameters)
