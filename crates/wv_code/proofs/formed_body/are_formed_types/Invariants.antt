use Rattle.std.proofs.Common.{take}
use Rattle.std.specs.List.{AllByRecursion}
use Rattle.wv_code.specs.FormedBody.{IsFormedType}
use Rattle.wv_code.proofs.formed_body.are_formed_types.Given as goal

abbrev pub invariant-loop-kind : goal.invariant-loop-kind
invariant-loop-kind l = AllByRecursion (IsFormedType l.insns) (take l.kind-index l.kinds)
