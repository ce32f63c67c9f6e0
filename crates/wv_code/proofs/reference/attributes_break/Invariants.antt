use Rattle.std.proofs.Common.{◌≡◌, ◌+◌, ◌*◌, ◌≤◌, ◌^◌, ◌↔◌, length, take}
use Rattle.std.specs.Prelude.{IsTrue}
use Rattle.std.specs.List.{flat_map}
use Rattle.wv_code.specs.Content.{attribute_bytes}
use Rattle.wv_code.specs.Least.{IsLeastOf, InItems}
use Rattle.wv_code.specs.Checking.{HasTable, AttributeAtBreaks}
use Rattle.wv_code.proofs.reference.attributes_break.Given as goal

abbrev pub invariant-loop-attribute : goal.invariant-loop-attribute
invariant-loop-attribute l = record {
  least : IsLeastOf (InItems (take l.attribute-index l.attributes) (AttributeAtBreaks l.pool l.first l.code l.attributes l.base)) l.found;
  seen : IsTrue l.seen ↔ HasTable (take l.attribute-index l.attributes);
  place : l.place ≡ l.base + length (flat_map attribute_bytes (take l.attribute-index l.attributes));
  small : l.place ≤ l.base + 2 ^ 33 * l.attribute-index;
}
