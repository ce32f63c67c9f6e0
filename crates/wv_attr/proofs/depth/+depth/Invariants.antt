use Rattle.std.proofs.Common.{◌≤◌, take}
use Rattle.std.specs.List.{AllByRecursion}
use Rattle.wv_base.specs.declared.note.Element.{Element}
use Rattle.wv_base.specs.declared.note.NamedElement.{NamedElement}
use Rattle.wv_attr.specs.Pieces.{value_depth, pair_depth}
use Rattle.wv_attr.proofs.depth.+depth.Given as goal

abbrev pub invariant-are_within-loop-value : goal.invariant-are_within-loop-value
invariant-are_within-loop-value l = AllByRecursion (λ (e : Element). value_depth e ≤ l.left) (take l.value-index l.values)

abbrev pub invariant-pairs_are_within-loop-pair : goal.invariant-pairs_are_within-loop-pair
invariant-pairs_are_within-loop-pair l = AllByRecursion (λ (p : NamedElement). pair_depth p ≤ l.left) (take l.pair-index l.pairs)
