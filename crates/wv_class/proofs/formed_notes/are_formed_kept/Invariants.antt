use Rattle.std.proofs.Common.{take}
use Rattle.std.specs.List.{AllByRecursion}
use Rattle.wv_class.specs.Formed.{IsFormedKept}
use Rattle.wv_class.proofs.formed_notes.are_formed_kept.Given as goal

abbrev pub invariant-loop-attribute : goal.invariant-loop-attribute
invariant-loop-attribute l = AllByRecursion (IsFormedKept l.pool l.place) (take l.attribute-index l.kept)
