use Rattle.std.proofs.Common.{◌≡◌, ◌+◌, ◌*◌, ◌≤◌, length, take, Some}
use Rattle.std.specs.List.{flat_map}
use Rattle.wv_frames.specs.Spelling.{type_bytes}
use Rattle.wv_frames.specs.Whole.{types_of}
use Rattle.wv_frames.proofs.whole.whole_types.Given as goal

abbrev pub invariant-loop-one : goal.invariant-loop-one
invariant-loop-one l = record {
  found : types_of l.pool (take l.one-index l.raw) ≡ Some l.types;
  place : l.at ≡ l.base + length (flat_map type_bytes (take l.one-index l.raw));
  small : l.at ≤ l.base + 3 * l.one-index;
}
