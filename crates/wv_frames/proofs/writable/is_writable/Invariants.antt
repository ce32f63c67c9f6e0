use Rattle.std.proofs.Common.{drop}
use Rattle.wv_frames.specs.Writing.{AreFrom}
use Rattle.wv_frames.proofs.writable.is_writable.Given as goal

abbrev pub invariant-loop-one : goal.invariant-loop-one
invariant-loop-one l = record {
  whole : AreFrom l.next (drop l.one-index l.frames) → AreFrom 0 l.frames;
  part : AreFrom 0 l.frames → AreFrom l.next (drop l.one-index l.frames);
}
