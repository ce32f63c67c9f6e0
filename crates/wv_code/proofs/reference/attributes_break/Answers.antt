use Rattle.std.proofs.Common.{take, subst, arith, ◌↔◌, ◌⊎◌}
use Rattle.std.specs.Prelude.{IsTrue}
use Rattle.wv_pool.proofs.Entire.{flat_map-more}
use Rattle.wv_code.specs.declared.raw_body.RawAttribute.{RawAttribute}
use Rattle.wv_code.specs.Content.{attribute_bytes, IsAttribute}
use Rattle.wv_code.specs.Checking.{IsTable, AttributeAtBreaks}
use Rattle.wv_code.proofs.Lists.{AllByRecursion-at}
use Rattle.wv_code.proofs.LeastPlaces.{items_more}
use Rattle.wv_code.proofs.ContentPlaces.{attribute_at_least, table_more}
use Rattle.wv_code.proofs.reference.attributes_break.Goals as goal

pub attribute_len-place-requires : goal.attribute_len-place-requires
attribute_len-place-requires c = (
  c.args.pool.now,
  rw c.attribute-item.is (AllByRecursion-at (IsAttribute c.args.pool.now) c.args.attributes.now c.loop-attribute.attribute-index c.attribute-item.result c.loop-attribute-test.true c.requires.attributes),
)

pub loop-attribute-preserved : goal.loop-attribute-preserved
loop-attribute-preserved c =
    let before = take c.loop-attribute.attribute-index c.args.attributes.now in
    let more = flat_map-more attribute_bytes c.args.attributes.now c.loop-attribute.attribute-index c.attribute-item.result c.loop-attribute-test.true in
    record {
      least = items_more (AttributeAtBreaks c.args.pool.now c.args.first.now c.args.code.now c.args.attributes.now c.args.base) c.args.attributes.now c.loop-attribute.attribute-index c.attribute-item.result c.loop-attribute-test.true c.lesser-found.ensures
          c.loop-attribute.invariant.least
          (attribute_at_least c.args.pool.now c.args.first.now c.args.code.now c.args.attributes.now c.args.base c.loop-attribute.attribute-index c.loop-attribute.place c.attribute-item.result c.loop-attribute.invariant.place c.attribute-item.is
          (c.in_ok-one.ensures before c.loop-attribute.invariant.seen));
      seen = table_more c.args.attributes.now c.loop-attribute.attribute-index c.attribute-item.result c.loop-attribute.seen c.sees_table-seen.result c.loop-attribute-test.true c.loop-attribute.invariant.seen
          (subst (λ (a : RawAttribute). IsTrue c.sees_table-seen.result ↔ (IsTrue c.loop-attribute.seen ⊎ IsTable a)) c.attribute-item.is c.sees_table-seen.ensures);
      place = omega (arith, (rw (← c.attribute-item.is) at more), c.loop-attribute.invariant.place, c.attribute_len-place.ensures.len);
      small = omega (arith, c.loop-attribute.invariant.small, c.attribute_len-place.ensures.small);
    }
