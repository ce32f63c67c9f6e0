use Rattle.std.proofs.Common.{take}
use Rattle.std.specs.List.{AllByRecursion}
use Rattle.wv_code.specs.FormedBody.{IsFormedKept}
use Rattle.wv_code.proofs.formed_body.are_formed_kept.Given as goal

abbrev pub invariant-loop-attribute : goal.invariant-loop-attribute
invariant-loop-attribute l = AllByRecursion (IsFormedKept l.pool) (take l.attribute-index l.kept)
