use Rattle.std.proofs.Common.{take}
use Rattle.std.specs.List.{AllByRecursion}
use Rattle.wv_merge.specs.ThinClass.{IsOverwriteNote}
use Rattle.wv_merge.proofs.note.has_overwrite.Given as goal

abbrev pub invariant-loop-place : goal.invariant-loop-place
invariant-loop-place l = AllByRecursion (λ note. IsOverwriteNote note → ⊥) (take l.place l.notes)
