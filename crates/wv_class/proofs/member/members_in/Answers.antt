use Rattle.std.proofs.Common.{◌≡◌}
use Rattle.wv_class.specs.Layout.{SpellsMember}
use Rattle.wv_class.proofs.Exits.{fails}
use Rattle.wv_class.proofs.Times.{none_taken, one_more, one_stops}
use Rattle.wv_class.proofs.MemberReads.{member_grammar}
use Rattle.wv_class.proofs.member.members_in.Goals as goal

pub loop-init : goal.loop-init
loop-init c = rw c.new-members.ensures (none_taken (SpellsMember c.args.pool.now c.args.place) c.args.bytes.now)

pub returns-in_err-member : goal.returns-in_err-member
returns-in_err-member c =
    fails c.loop.rest.now c.args.bytes.now (λ left s. one_stops (SpellsMember c.args.pool.now c.args.place) (member_grammar c.args.pool.now c.args.place) c.args.count c.loop.counter c.args.bytes.now c.loop.members c.loop.rest.now left c.loop-test.true c.loop.invariant s) c.from_residual.result c.in_err-member.field-0.0 c.from_residual.ensures.1 c.in_err-member.ensures

pub loop-preserved : goal.loop-preserved
loop-preserved c = rw c.in_ok-push.ensures.ok (one_more (SpellsMember c.args.pool.now c.args.place) (member_grammar c.args.pool.now c.args.place) c.loop.counter c.args.bytes.now c.loop.members c.loop.rest.now c.in_ok-member.member c.in_ok-member.after.now c.loop.invariant c.in_ok-member.ensures)
