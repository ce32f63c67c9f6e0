use Rattle.wv_merge.proofs.PlainTests.{ends_here, ends_nowhere}
use Rattle.wv_merge.proofs.plain.ends_with_return.Goals as goal

pub returns-then-is_return : goal.returns-then-is_return
returns-then-is_return c =
    ends_here c.args.insns.now c.loop-place.place c.index-insns-place.result c.loop-place-test.true c.index-insns-place.is c.loop-place.invariant (c.is_return.ensures.0 c.if-is_return.true)

pub returns : goal.returns
returns c =
    (λ t. absurd cc, λ ends. absurd (ends_nowhere c.args.insns.now c.loop-place.place c.loop-place-test.false c.loop-place.invariant ends))
