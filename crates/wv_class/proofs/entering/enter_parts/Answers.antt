use Rattle.std.proofs.Common.{◌≡◌, ◌++◌, Err, refl, sym, subst, ◌∙◌}
use Rattle.std.specs.List.{AllByRecursion}
use Rattle.wv_pool.specs.Allowed.{IsAllowed}
use Rattle.wv_class.specs.Enterable.{IsEnterable, AreWritableTables}
use Rattle.wv_class.specs.Needs.{parts_of, members_need, head_constants}
use Rattle.wv_class.proofs.EnterableMembers.{head_allowed, fields_enterable, methods_enterable, notes_writable}
use Rattle.wv_class.proofs.Growth.{puts_then}
use Rattle.wv_class.proofs.ClassPut.{head_failed, fields_failed, methods_failed, two_put, all_put}
use Rattle.wv_class.proofs.entering.enter_parts.Goals as goal

pub enter_each-requires : goal.enter_each-requires
enter_each-requires c = subst (AllByRecursion IsAllowed) (sym (c.as_slice-2.ensures ∙ c.in_ok-head_constants.ensures)) (head_allowed c.args.class.now c.requires)

pub returns-in_err-enter_each : goal.returns-in_err-enter_each
returns-in_err-enter_each c =
    let class = c.args.class.now in
    let head : c.as_slice-2.result.now ≡ head_constants class = c.as_slice-2.ensures ∙ c.in_ok-head_constants.ensures in
    head_failed class c.as_slice-2.result.now class.fields class.methods class.notes head refl refl refl c.args.pool.now c.enter_each.new.pool c.in_err-enter_each.field-0.0 c.from_residual-in_err-enter_each.result c.from_residual-in_err-enter_each.ensures.1
    c.in_err-enter_each.ensures

pub enter_members-requires : goal.enter_members-requires
enter_members-requires c = subst (AllByRecursion IsEnterable) (sym c.as_slice-3.ensures) (fields_enterable c.args.class.now c.requires)

pub returns-in_err-enter_members : goal.returns-in_err-enter_members
returns-in_err-enter_members c =
    let class = c.args.class.now in
    let head : c.as_slice-2.result.now ≡ head_constants class = c.as_slice-2.ensures ∙ c.in_ok-head_constants.ensures in
    let failed = c.in_err-enter_members.field-0.0 in
    fields_failed class c.as_slice-2.result.now c.as_slice-3.result.now class.methods class.notes head c.as_slice-3.ensures refl refl c.args.pool.now c.enter_members.new.pool failed c.from_residual-in_err-enter_members.result
    c.from_residual-in_err-enter_members.ensures.1
    (puts_then c.args.pool.now c.enter_each.new.pool c.enter_members.new.pool (parts_of c.as_slice-2.result.now) (members_need c.as_slice-3.result.now) (Err failed) c.in_ok-enter_each.ensures c.in_err-enter_members.ensures)

pub enter_members-requires-2 : goal.enter_members-requires-2
enter_members-requires-2 c = subst (AllByRecursion IsEnterable) (sym c.as_slice-4.ensures) (methods_enterable c.args.class.now c.requires)

pub returns-in_err-enter_members-2 : goal.returns-in_err-enter_members-2
returns-in_err-enter_members-2 c =
    let class = c.args.class.now in
    let hs = c.as_slice-2.result.now in
    let fs = c.as_slice-3.result.now in
    let ms = c.as_slice-4.result.now in
    let head : hs ≡ head_constants class = c.as_slice-2.ensures ∙ c.in_ok-head_constants.ensures in
    let failed = c.in_err-enter_members-2.field-0.0 in
    let two = two_put class hs fs ms class.notes head c.as_slice-3.ensures c.as_slice-4.ensures refl c.args.pool.now c.enter_each.new.pool c.enter_members.new.pool c.enter_members.new.pool c.enter_members.new.pool c.in_ok-enter_each.ensures c.in_ok-enter_members.ensures in
    methods_failed class hs fs ms class.notes head c.as_slice-3.ensures c.as_slice-4.ensures refl c.args.pool.now c.enter_members-2.new.pool failed c.from_residual-in_err-enter_members-2.result c.from_residual-in_err-enter_members-2.ensures.1
    (puts_then c.args.pool.now c.enter_members.new.pool c.enter_members-2.new.pool (members_need fs ++ parts_of hs) (members_need ms) (Err failed) two c.in_err-enter_members-2.ensures)

pub enter_annotations-requires : goal.enter_annotations-requires
enter_annotations-requires c = subst AreWritableTables (sym c.as_slice-5.ensures) (notes_writable c.args.class.now c.requires)

pub returns : goal.returns
returns c =
    let class = c.args.class.now in
    let head : c.as_slice-2.result.now ≡ head_constants class = c.as_slice-2.ensures ∙ c.in_ok-head_constants.ensures in
    all_put class c.as_slice-2.result.now c.as_slice-3.result.now c.as_slice-4.result.now c.as_slice-5.result.now head c.as_slice-3.ensures c.as_slice-4.ensures c.as_slice-5.ensures c.args.pool.now c.enter_each.new.pool c.enter_members.new.pool
    c.enter_members-2.new.pool c.enter_annotations.new.pool c.in_ok-enter_each.ensures c.in_ok-enter_members.ensures c.enter_annotations.result c.in_ok-enter_members-2.ensures c.enter_annotations.ensures
