use Rattle.std.proofs.Common.{◌≡◌, ◌++◌, take}
use Rattle.std.specs.List.{flat_map}
use Rattle.wv_attr.specs.Pieces.{value_pieces, pair_pieces}
use Rattle.wv_attr.proofs.flattening.+flattening.Given as goal

abbrev pub invariant-put_values-loop-value : goal.invariant-put_values-loop-value
invariant-put_values-loop-value l = l.out.items ≡ l.initial.out.items ++ flat_map value_pieces (take l.value-index l.values)

abbrev pub invariant-put_pairs-loop-pair : goal.invariant-put_pairs-loop-pair
invariant-put_pairs-loop-pair l = l.out.items ≡ l.initial.out.items ++ flat_map pair_pieces (take l.pair-index l.pairs)
