use Rattle.std.proofs.Common.{refl}
use Rattle.wv_pool.proofs.Lacking.{grows_start}
use Rattle.wv_class.specs.Needs.{member_needs, members_need}
use Rattle.wv_class.proofs.Growth.{next_put, next_failed}
use Rattle.wv_class.proofs.entering.enter_members.Goals as goal

pub loop-member-init : goal.loop-member-init
loop-member-init c = grows_start c.args.pool.now

pub returns-in_err-enter_member : goal.returns-in_err-enter_member
returns-in_err-enter_member c =
    let l = c.loop-member in
    next_failed member_needs members_need refl (λ x xs. refl) c.args.pool.now l.pool c.enter_member.new.pool c.args.members.now l.member-index c.member-item.result c.loop-member-test.true c.member-item.is l.invariant c.in_err-enter_member.field-0.0 c.from_residual.result c.from_residual.ensures.1 c.in_err-enter_member.ensures

pub loop-member-preserved : goal.loop-member-preserved
loop-member-preserved c =
    let l = c.loop-member in
    next_put member_needs members_need refl (λ x xs. refl) c.args.pool.now l.pool c.enter_member.new.pool c.args.members.now l.member-index c.member-item.result c.loop-member-test.true c.member-item.is l.invariant c.in_ok-enter_member.ensures
