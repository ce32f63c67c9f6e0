use Rattle.std.proofs.Common.{◌≡◌, List, ℕ, subst, sym}
use Rattle.wv_class.specs.Numbers.{SpellsShort, SpellsTimes}
use Rattle.wv_class.specs.Reading.{Taken}
use Rattle.wv_class.proofs.Exits.{fails}
use Rattle.wv_class.proofs.Shorts.{short_grammar}
use Rattle.wv_class.proofs.Times.{none_taken, one_more, one_stops}
use Rattle.wv_class.proofs.number.shorts_in.Goals as goal

pub loop-init : goal.loop-init
loop-init c = rw c.new-shorts.ensures (none_taken SpellsShort c.args.bytes.now)

pub returns-in_err-short : goal.returns-in_err-short
returns-in_err-short c =
    fails c.loop.rest.now c.args.bytes.now (λ left s. one_stops SpellsShort short_grammar c.args.count c.loop.counter c.args.bytes.now c.loop.shorts c.loop.rest.now left c.loop-test.true c.loop.invariant s) c.from_residual.result c.in_err-short.field-0.0 c.from_residual.ensures.1 c.in_err-short.ensures

pub loop-preserved : goal.loop-preserved
loop-preserved c = rw c.in_ok-push.ensures.ok (one_more SpellsShort short_grammar c.loop.counter c.args.bytes.now c.loop.shorts c.loop.rest.now c.in_ok-short.short c.in_ok-short.after.now c.loop.invariant c.in_ok-short.ensures)
