use Rattle.std.proofs.Common.{◌≡◌, ◌+◌, ◌*◌, ◌≤◌, length, take}
use Rattle.std.specs.List.{flat_map}
use Rattle.wv_frames.specs.Spelling.{type_bytes}
use Rattle.wv_code.specs.Least.{IsLeastOf, InItems}
use Rattle.wv_code.specs.Checking.{TypeAtBreaks}
use Rattle.wv_code.proofs.frame_break.types_break.Given as goal

abbrev pub invariant-loop-one : goal.invariant-loop-one
invariant-loop-one l = record {
  least : IsLeastOf (InItems (take l.one-index l.types) (TypeAtBreaks l.code l.types l.base)) l.first;
  place : l.place ≡ l.base + length (flat_map type_bytes (take l.one-index l.types));
  small : l.place ≤ l.base + 3 * l.one-index;
}
