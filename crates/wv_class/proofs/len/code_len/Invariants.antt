use Rattle.std.proofs.Common.{◌≡◌, ◌+◌, ◌*◌, ◌^◌, ◌≤◌, length, take}
use Rattle.std.specs.List.{flat_map}
use Rattle.wv_code.specs.Breaks.{attribute_place}
use Rattle.wv_class.proofs.len.code_len.Given as goal

abbrev pub invariant-loop-attribute : goal.invariant-loop-attribute
invariant-loop-attribute l = record {
  len : l.len ≡ attribute_place l.raw l.attribute-index;
  small : l.len ≤ 2 ^ 34 + 2 ^ 33 * l.attribute-index;
}
