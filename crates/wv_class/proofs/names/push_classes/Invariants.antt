use Rattle.std.proofs.Common.{◌++◌, ℕ, List, take}
use Rattle.wv_class.specs.Meaning.{AreClasses}
use Rattle.wv_class.proofs.names.push_classes.Given as goal

abbrev pub invariant-loop-number : goal.invariant-loop-number
invariant-loop-number l = (before : List ℕ) → AreClasses l.pool before l.initial.names.items → AreClasses l.pool (before ++ take l.number-index l.numbers) l.names.items
