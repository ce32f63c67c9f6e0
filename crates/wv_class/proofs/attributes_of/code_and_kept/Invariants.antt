use Rattle.std.proofs.Common.{◌≡◌, ◌≤◌, ◌++◌, length, reverse}
use Rattle.std.specs.List.{flat_map}
use Rattle.wv_class.specs.Meaning.{kept_in, codes_in}
use Rattle.wv_class.specs.MemberRead.{in_list}
use Rattle.wv_class.proofs.attributes_of.code_and_kept.Given as goal

abbrev pub invariant-loop-attribute : goal.invariant-loop-attribute
invariant-loop-attribute l = record {
  kept : flat_map (kept_in l.pool) l.initial.attributes ≡ flat_map (kept_in l.pool) l.attributes ++ reverse l.kept.items;
  code : length (codes_in l.initial.attributes) ≤ 1 → codes_in l.initial.attributes ≡ codes_in l.attributes ++ in_list l.code;
}

abbrev pub decreases-loop-attribute : goal.decreases-loop-attribute
decreases-loop-attribute l = length l.attributes
