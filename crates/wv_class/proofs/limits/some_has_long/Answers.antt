use Rattle.wv_class.proofs.LongLists.{none_more, none_long, never}
use Rattle.wv_class.proofs.limits.some_has_long.Goals as goal

pub loop-member-preserved : goal.loop-member-preserved
loop-member-preserved c =
    none_more c.args.members.now c.loop-member.member-index c.member-item.result c.loop-member-test.true c.member-item.is c.loop-member.invariant (λ h. never (c.if-has_long.ensures.1 h))

pub returns : goal.returns
returns c = (λ e. absurd (never e), λ some. absurd (none_long c.args.members.now c.loop-member.member-index c.loop-member-test.false c.loop-member.invariant some))
