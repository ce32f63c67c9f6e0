use Rattle.std.proofs.Common.{◌≡◌, ◌*◌, ◌≤◌, length, take}
use Rattle.std.specs.List.{flat_map}
use Rattle.wv_frames.specs.Spelling.{type_bytes}
use Rattle.wv_code.proofs.frame_break.types_len.Given as goal

abbrev pub invariant-loop-one : goal.invariant-loop-one
invariant-loop-one l = record {
  len : l.len ≡ length (flat_map type_bytes (take l.one-index l.types));
  small : l.len ≤ 3 * l.one-index;
}
