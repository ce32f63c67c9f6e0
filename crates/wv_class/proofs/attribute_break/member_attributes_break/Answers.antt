use Rattle.std.proofs.Common.{◌≡◌, ◌+◌, ◌<◌, ◌≤◌, ◌||◌, length, take, get_or, subst, arith}
use Rattle.std.specs.List.{sum_by}
use Rattle.std.proofs.lemmas.List.Sums.{sum_by_more}
use Rattle.wv_code.specs.Least.{Behind}
use Rattle.wv_code.proofs.LeastPlaces.{items_more, items_all}
use Rattle.wv_class.specs.declared.raw_class.RawAttribute.{RawAttribute}
use Rattle.wv_class.specs.Breaks.{attribute_len, is_value, AttributeBreaks}
use Rattle.wv_class.proofs.Attributes.{has_more, attribute_least}
use Rattle.wv_class.proofs.Places.{item_least}
use Rattle.wv_class.proofs.attribute_break.member_attributes_break.Goals as goal

pub loop-attribute-preserved : goal.loop-attribute-preserved
loop-attribute-preserved c =
    let all = c.args.member.now.attributes in
    let i = c.loop-attribute.attribute-index in
    let one = c.attribute-item.result in
    let lt : i < length all = rw c.as_slice-attribute-items.ensures at c.loop-attribute-test.true in
    let is : one ≡ get_or all i one = rw c.as_slice-attribute-items.ensures at c.attribute-item.is in
    let more = sum_by_more attribute_len all i one lt in
    record {
      least = items_more (λ k a. Behind (c.args.base + sum_by attribute_len (take k all)) (AttributeBreaks c.args.pool.now c.args.class c.args.member.now (take k all) a)) all i one lt c.lesser-found.ensures
          c.loop-attribute.invariant.least
          (item_least attribute_len c.args.base all (λ k a. AttributeBreaks c.args.pool.now c.args.class c.args.member.now (take k all) a) i c.loop-attribute.place one c.loop-attribute.invariant.place is
          (attribute_least c.args.pool.now c.args.class c.args.member.now (take i all) one c.loop-attribute.has_value c.loop-attribute.place c.loop-attribute.invariant.seen c.lesser.ensures (rw c.is_second.ensures at c.unless-again.ensures) c.in_ok-inner.ensures));
      seen = has_more all i one c.loop-attribute.has_value c.sees_value-has_value.result lt c.loop-attribute.invariant.seen
          (subst (λ (a : RawAttribute). c.sees_value-has_value.result ≡ (c.loop-attribute.has_value || is_value a.content)) is c.sees_value-has_value.ensures);
      place = omega (arith, (rw (← is) at more), c.loop-attribute.invariant.place, c.attribute_len-place.ensures.len);
      small = omega (arith, c.loop-attribute.invariant.small, c.attribute_len-place.ensures.small);
    }

pub returns : goal.returns
returns c =
    let all = c.args.member.now.attributes in
    let end : length all ≤ c.loop-attribute.attribute-index = rw c.as_slice-attribute-items.ensures at c.loop-attribute-test.false in
    items_all (λ k a. Behind (c.args.base + sum_by attribute_len (take k all)) (AttributeBreaks c.args.pool.now c.args.class c.args.member.now (take k all) a)) all c.loop-attribute.attribute-index end c.loop-attribute.invariant.least
