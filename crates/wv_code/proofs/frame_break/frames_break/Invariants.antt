use Rattle.std.proofs.Common.{◌≡◌, ◌+◌, ◌*◌, ◌≤◌, length, take}
use Rattle.std.specs.List.{flat_map}
use Rattle.wv_frames.specs.Spelling.{frame_bytes}
use Rattle.wv_code.specs.Breaks.{next_offset}
use Rattle.wv_code.specs.Least.{IsLeastOf, InItems}
use Rattle.wv_code.specs.Checking.{FrameAtBreaks}
use Rattle.wv_code.proofs.frame_break.frames_break.Given as goal

abbrev pub invariant-loop-frame : goal.invariant-loop-frame
invariant-loop-frame l = record {
  least : IsLeastOf (InItems (take l.frame-index l.frames) (FrameAtBreaks l.code l.frames l.base)) l.first;
  next : l.next ≡ next_offset 0 (take l.frame-index l.frames);
  few : l.next ≤ 65536 * l.frame-index;
  place : l.place ≡ l.base + length (flat_map frame_bytes (take l.frame-index l.frames));
  small : l.place ≤ l.base + 393217 * l.frame-index;
}
