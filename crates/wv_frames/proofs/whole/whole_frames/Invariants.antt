use Rattle.std.proofs.Common.{◌≡◌, ◌+◌, ◌*◌, ◌≤◌, length, take, Some}
use Rattle.std.specs.List.{flat_map}
use Rattle.wv_frames.specs.Spelling.{frame_bytes}
use Rattle.wv_frames.specs.Whole.{frames_from}
use Rattle.wv_frames.proofs.WholeFrames.{next_behind}
use Rattle.wv_frames.proofs.whole.whole_frames.Given as goal

abbrev pub invariant-loop-one : goal.invariant-loop-one
invariant-loop-one l = record {
  found : frames_from l.pool 0 l.first.locals (take l.one-index l.raw) ≡ Some l.frames;
  next : l.next ≡ next_behind 0 l.frames;
  few : l.next ≤ 65536 * l.one-index;
  place : l.place ≡ 2 + length (flat_map frame_bytes (take l.one-index l.raw));
  small : l.place ≤ 2 + 393217 * l.one-index;
}
