use Rattle.std.proofs.Common.{◌≡◌, ◌-◌, ◌≤◌, length}
use Rattle.wv_frames.specs.Reading.{frames_in}
use Rattle.wv_frames.proofs.Loops.{with_front}
use Rattle.wv_frames.proofs.layout.frames_in.Given as goal

abbrev pub invariant-loop-place : goal.invariant-loop-place
invariant-loop-place l = record {
  gives : with_front l.frames.items (frames_in l.missing (l.count - l.place) l.rest) ≡ frames_in l.missing l.count l.bytes;
  shorter : length l.rest ≤ length l.bytes;
}
