use Rattle.std.proofs.Common.{◌≡◌, ◌↔◌, ◌+◌, ◌*◌, ◌^◌, ◌≤◌, take}
use Rattle.std.specs.Prelude.{IsTrue}
use Rattle.std.specs.List.{sum_by}
use Rattle.wv_code.specs.Least.{IsLeastOf, Behind, InItems}
use Rattle.wv_class.specs.Breaks.{attribute_len, is_value, Has, AttributeBreaks}
use Rattle.wv_class.proofs.attribute_break.member_attributes_break.Given as goal

abbrev pub invariant-loop-attribute : goal.invariant-loop-attribute
invariant-loop-attribute l =
    let all = l.member.attributes in
    record {
      least : IsLeastOf (InItems (take l.attribute-index all) (λ k a. Behind (l.base + sum_by attribute_len (take k all)) (AttributeBreaks l.pool l.class l.member (take k all) a))) l.found;
      seen : IsTrue l.has_value ↔ Has is_value (take l.attribute-index all);
      place : l.place ≡ l.base + sum_by attribute_len (take l.attribute-index all);
      small : l.place ≤ l.base + 2 ^ 33 * l.attribute-index;
    }
