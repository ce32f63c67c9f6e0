use Rattle.std.proofs.Common.{◌≡◌, ◌-◌, ◌≤◌, length}
use Rattle.wv_frames.specs.Reading.{types_in}
use Rattle.wv_frames.proofs.Loops.{with_front}
use Rattle.wv_frames.proofs.layout.types_in.Given as goal

abbrev pub invariant-loop-place : goal.invariant-loop-place
invariant-loop-place l = record {
  gives : with_front l.types (types_in l.missing (l.count - l.place) l.behind l.rest) ≡ types_in l.missing l.count l.behind l.bytes;
  shorter : length l.rest ≤ length l.bytes;
}
