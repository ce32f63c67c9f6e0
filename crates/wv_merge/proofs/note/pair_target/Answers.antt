use Rattle.wv_base.specs.declared.note.NamedElement.{NamedElement}
use Rattle.std.proofs.Common.{[], ◌∷◌}
use Rattle.wv_merge.specs.ThinClass.{AreMixinElements, before, behind, IsTargetElement}
use Rattle.wv_merge.proofs.NoteTests.{before_in, behind_in, found_so}
use Rattle.wv_merge.proofs.note.pair_target.Goals as goal

pub returns-then-is_priority : goal.returns-then-is_priority
returns-then-is_priority c =
    let first = c.args.first.now in
    let second = c.args.second.now in
    let other = c.is_priority.ensures.0 c.if-is_priority.true in
    found_so c.target_in.result (λ r. r.now) (λ d. IsTargetElement d first) (λ d. AreMixinElements d (first ∷ second ∷ [])) (λ d is. before is other)
    (λ d are. before_in d first second other are) c.target_in.ensures

pub returns-then-is_priority-2 : goal.returns-then-is_priority-2
returns-then-is_priority-2 c =
    let first = c.args.first.now in
    let second = c.args.second.now in
    let other = c.is_priority-2.ensures.0 c.if-is_priority-2.true in
    found_so c.target_in-then-is_priority-2.result (λ r. r.now) (λ d. IsTargetElement d second) (λ d. AreMixinElements d (first ∷ second ∷ []))
    (λ d is. behind is other) (λ d are. behind_in d first second other are) c.target_in-then-is_priority-2.ensures
