use Rattle.std.proofs.Common.{◌+◌, take, arith}
use Rattle.std.specs.List.{sum_by}
use Rattle.std.proofs.lemmas.List.Sums.{sum_by_more}
use Rattle.wv_code.specs.Least.{Behind}
use Rattle.wv_code.proofs.Lists.{AllByRecursion-at}
use Rattle.wv_code.proofs.LeastPlaces.{items_none, items_more, items_all}
use Rattle.wv_class.specs.Breaks.{attribute_len, PartsBreak}
use Rattle.wv_class.specs.Checking.{IsSpelledAttribute}
use Rattle.wv_class.proofs.Lengths.{attribute_content}
use Rattle.wv_class.proofs.Places.{behind_behind, item_least}
use Rattle.wv_class.proofs.attribute_break.class_attributes_break.Goals as goal

pub parts_break-one-requires-clause-spelled : goal.parts_break-one-requires-clause-spelled
parts_break-one-requires-clause-spelled c =
    attribute_content c.args.pool.now c.attribute-item.result (rw c.attribute-item.is (AllByRecursion-at (IsSpelledAttribute c.args.pool.now) c.args.attributes.now c.loop-attribute.attribute-index c.attribute-item.result c.loop-attribute-test.true c.requires.spelled))

pub attribute_len-place-requires : goal.attribute_len-place-requires
attribute_len-place-requires c = (
  c.args.pool.now,
  rw c.attribute-item.is (AllByRecursion-at (IsSpelledAttribute c.args.pool.now) c.args.attributes.now c.loop-attribute.attribute-index c.attribute-item.result c.loop-attribute-test.true c.requires.spelled),
)

pub loop-attribute-preserved : goal.loop-attribute-preserved
loop-attribute-preserved c =
    let all = c.args.attributes.now in
    let i = c.loop-attribute.attribute-index in
    let one = c.attribute-item.result in
    let more = sum_by_more attribute_len all i one c.loop-attribute-test.true in
    record {
      least = items_more (λ k a. Behind (c.args.base + sum_by attribute_len (take k all)) (Behind 6 (PartsBreak c.args.pool.now a.content))) all i one c.loop-attribute-test.true c.lesser-found.ensures
          c.loop-attribute.invariant.least
          (item_least attribute_len c.args.base all (λ k a. Behind 6 (PartsBreak c.args.pool.now a.content)) i c.loop-attribute.place one c.loop-attribute.invariant.place c.attribute-item.is
          (behind_behind (PartsBreak c.args.pool.now one.content) c.loop-attribute.place 6 c.parts_break-one.ensures));
      place = omega (arith, (rw (← c.attribute-item.is) at more), c.loop-attribute.invariant.place, c.attribute_len-place.ensures.len);
      small = omega (arith, c.loop-attribute.invariant.small, c.attribute_len-place.ensures.small);
    }

pub returns : goal.returns
returns c =
    let all = c.args.attributes.now in
    items_all (λ k a. Behind (c.args.base + sum_by attribute_len (take k all)) (Behind 6 (PartsBreak c.args.pool.now a.content))) all c.loop-attribute.attribute-index c.loop-attribute-test.false c.loop-attribute.invariant.least
