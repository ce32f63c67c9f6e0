use Rattle.std.proofs.Common.{◌+◌, ◌-◌, ◌*◌, ◌≤◌, [], ◌∷◌, length, reverse}
use Rattle.wv_attr.specs.Steps.{padded}
use Rattle.wv_attr.proofs.Places.{Reading}
use Rattle.wv_attr.proofs.layout.marks_in.Given as goal

abbrev pub invariant-loop-group : goal.invariant-loop-group
invariant-loop-group l = record {
  inside : l.at ≤ length l.bytes;
  reading : Reading (l.fn.first ∷ []) (padded l.bytes l.missing) l.marks.items l.at (reverse l.groups.items) l.due;
}

abbrev pub decreases-loop-group : goal.decreases-loop-group
decreases-loop-group l = 2 * (length l.bytes - l.at) + length l.groups.items
