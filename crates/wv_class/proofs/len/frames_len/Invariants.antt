use Rattle.std.proofs.Common.{◌≡◌, ◌+◌, ◌*◌, ◌≤◌, length, take}
use Rattle.std.specs.List.{flat_map}
use Rattle.wv_frames.specs.Spelling.{frame_bytes}
use Rattle.wv_class.proofs.len.frames_len.Given as goal

abbrev pub invariant-loop-frame : goal.invariant-loop-frame
invariant-loop-frame l = record {
  len : l.len ≡ 2 + length (flat_map frame_bytes (take l.frame-index l.frames));
  small : l.len ≤ 2 + 393217 * l.frame-index;
}
