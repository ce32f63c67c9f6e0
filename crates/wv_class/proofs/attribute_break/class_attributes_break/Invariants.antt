use Rattle.std.proofs.Common.{◌≡◌, ◌+◌, ◌*◌, ◌^◌, ◌≤◌, take}
use Rattle.std.specs.List.{sum_by}
use Rattle.wv_code.specs.Least.{IsLeastOf, Behind, InItems}
use Rattle.wv_class.specs.Breaks.{attribute_len, PartsBreak}
use Rattle.wv_class.proofs.attribute_break.class_attributes_break.Given as goal

abbrev pub invariant-loop-attribute : goal.invariant-loop-attribute
invariant-loop-attribute l = record {
  least : IsLeastOf (InItems (take l.attribute-index l.attributes) (λ k a. Behind (l.base + sum_by attribute_len (take k l.attributes)) (Behind 6 (PartsBreak l.pool a.content)))) l.found;
  place : l.place ≡ l.base + sum_by attribute_len (take l.attribute-index l.attributes);
  small : l.place ≤ l.base + 2 ^ 33 * l.attribute-index;
}
