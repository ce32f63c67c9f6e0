use Rattle.std.proofs.Common.{take, All}
use Rattle.wv_model.specs.PlainMethod.{AreSame}
use Rattle.wv_merge.proofs.overwrite.place_of.Given as goal

abbrev pub invariant-loop-place : goal.invariant-loop-place
invariant-loop-place l = All (λ other. AreSame other l.method → ⊥) (take l.place l.other-items)
