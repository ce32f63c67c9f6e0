use Rattle.std.proofs.Common.{rules}
use Rattle.std.specs.Prelude.{pos}
use Rattle.wv_code.proofs.Shapes.{ascends_to, not_ascending}
use Rattle.wv_code.proofs.formed.keys_ascend.Goals as goal

pub returns-then-not-is_key_below : goal.returns-then-not-is_key_below
returns-then-not-is_key_below c =
    (λ t. search rules, λ ascend. absurd (not_ascending c.args.cases.now c.loop-place.place (record { key = pos 0; to = 0 }) c.loop-place.auto.place c.loop-place-test.true (λ below. search (rules, c.if-not-is_key_below.ensures.1 below)) ascend))

pub loop-place-preserved : goal.loop-place-preserved
loop-place-preserved c =
    ascends_to c.args.cases.now c.loop-place.place (record { key = pos 0; to = 0 }) c.loop-place.auto.place c.loop-place-test.true c.loop-place.invariant (c.if-not-is_key_below.ensures.0 (search rules))
