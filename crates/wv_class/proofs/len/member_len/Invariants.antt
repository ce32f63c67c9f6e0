use Rattle.std.proofs.Common.{◌≡◌, ◌+◌, ◌*◌, ◌^◌, ◌≤◌, take}
use Rattle.std.specs.List.{sum_by}
use Rattle.wv_class.specs.Breaks.{attribute_len}
use Rattle.wv_class.proofs.len.member_len.Given as goal

abbrev pub invariant-loop-attribute : goal.invariant-loop-attribute
invariant-loop-attribute l = record {
  len : l.len ≡ 8 + sum_by attribute_len (take l.attribute-index l.member.attributes);
  small : l.len ≤ 8 + 2 ^ 33 * l.attribute-index;
}
