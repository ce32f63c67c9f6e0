use Rattle.std.proofs.Common.{◌≡◌, List, ◌++◌, subst, ◌∙◌}
use Rattle.wv_base.specs.declared.constant.Const.{Const}
use Rattle.wv_base.specs.declared.note.Note.{Note}
use Rattle.wv_class.specs.Enterable.{PutsAll}
use Rattle.wv_class.specs.Needs.{parts_of, annotations_need, member_constants}
use Rattle.wv_class.proofs.Growth.{puts_then, puts_failed}
use Rattle.wv_class.proofs.entering.enter_member.Goals as goal

pub returns-in_err-enter_each : goal.returns-in_err-enter_each
returns-in_err-enter_each c =
    let m = c.args.member.now in
    let result = c.from_residual-in_err-enter_each.result in
    let found : c.as_slice-2.result.now ≡ member_constants m = c.as_slice-2.ensures ∙ c.in_ok-member_constants.ensures in
    subst (λ (cs : List Const). PutsAll c.args.pool.now c.enter_each.new.pool (annotations_need m.notes ++ parts_of cs) result) found
    (puts_failed c.args.pool.now c.enter_each.new.pool (parts_of c.as_slice-2.result.now) (annotations_need m.notes) c.in_err-enter_each.field-0.0 result c.from_residual-in_err-enter_each.ensures.1 c.in_err-enter_each.ensures)

pub returns : goal.returns
returns c =
    let m = c.args.member.now in
    let found : c.as_slice-2.result.now ≡ member_constants m = c.as_slice-2.ensures ∙ c.in_ok-member_constants.ensures in
    subst (λ (cs : List Const). PutsAll c.args.pool.now c.enter_annotations.new.pool (annotations_need m.notes ++ parts_of cs) c.enter_annotations.result) found
    (puts_then c.args.pool.now c.enter_each.new.pool c.enter_annotations.new.pool (parts_of c.as_slice-2.result.now) (annotations_need m.notes) c.enter_annotations.result c.in_ok-enter_each.ensures
    (subst (λ (notes : List Note). PutsAll c.enter_each.new.pool c.enter_annotations.new.pool (annotations_need notes) c.enter_annotations.result) c.as_slice-3.ensures c.enter_annotations.ensures))
