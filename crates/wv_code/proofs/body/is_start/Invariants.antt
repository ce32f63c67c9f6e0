use Rattle.std.proofs.Common.{take}
use Rattle.std.specs.List.{AllByRecursion}
use Rattle.wv_code.specs.Body.{IsPlaced}
use Rattle.wv_code.proofs.body.is_start.Given as goal

abbrev pub invariant-loop-local : goal.invariant-loop-local
invariant-loop-local l = AllByRecursion IsPlaced (take l.local-index l.local-items)
