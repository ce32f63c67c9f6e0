use Rattle.std.proofs.Common.{◌≡◌}
use Rattle.wv_class.specs.Layout.{SpellsAttribute}
use Rattle.wv_class.proofs.Exits.{fails}
use Rattle.wv_class.proofs.Times.{none_taken, one_more, one_stops}
use Rattle.wv_class.proofs.AttributeReads.{attribute_grammar}
use Rattle.wv_class.proofs.attribute.attributes_in.Goals as goal

pub loop-init : goal.loop-init
loop-init c = rw c.new-attributes.ensures (none_taken (SpellsAttribute c.args.pool.now c.args.place) c.args.bytes.now)

pub returns-in_err-attribute : goal.returns-in_err-attribute
returns-in_err-attribute c =
    fails c.loop.rest.now c.args.bytes.now (λ left s. one_stops (SpellsAttribute c.args.pool.now c.args.place) (attribute_grammar c.args.pool.now c.args.place) c.args.count c.loop.counter c.args.bytes.now c.loop.attributes c.loop.rest.now left c.loop-test.true c.loop.invariant s) c.from_residual.result c.in_err-attribute.field-0.0 c.from_residual.ensures.1 c.in_err-attribute.ensures

pub loop-preserved : goal.loop-preserved
loop-preserved c = rw c.in_ok-push.ensures.ok (one_more (SpellsAttribute c.args.pool.now c.args.place) (attribute_grammar c.args.pool.now c.args.place) c.loop.counter c.args.bytes.now c.loop.attributes c.loop.rest.now c.in_ok-attribute.attribute c.in_ok-attribute.after.now c.loop.invariant c.in_ok-attribute.ensures)
