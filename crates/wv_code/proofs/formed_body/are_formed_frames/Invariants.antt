use Rattle.std.proofs.Common.{drop}
use Rattle.wv_code.specs.FormedBody.{AreFormedFrom}
use Rattle.wv_code.proofs.formed_body.are_formed_frames.Given as goal

abbrev pub invariant-loop-one : goal.invariant-loop-one
invariant-loop-one l = record {
  whole : AreFormedFrom l.insns l.next (drop l.one-index l.frames) → AreFormedFrom l.insns 0 l.frames;
  part : AreFormedFrom l.insns 0 l.frames → AreFormedFrom l.insns l.next (drop l.one-index l.frames);
}
