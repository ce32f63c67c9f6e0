use Rattle.std.proofs.Common.{take}
use Rattle.std.specs.List.{AllByRecursion}
use Rattle.wv_merge.specs.Plain.{IsReturn}
use Rattle.wv_merge.proofs.plain.ends_with_return.Given as goal

abbrev pub invariant-loop-place : goal.invariant-loop-place
invariant-loop-place l = AllByRecursion (λ insn. IsReturn insn → ⊥) (take l.place l.insns)
