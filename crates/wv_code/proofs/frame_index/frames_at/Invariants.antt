use Rattle.std.proofs.Common.{take}
use Rattle.wv_code.specs.Body.{AreFramesOf}
use Rattle.wv_code.proofs.frame_index.frames_at.Given as goal

abbrev pub invariant-loop-raw : goal.invariant-loop-raw
invariant-loop-raw l = AreFramesOf l.offsets (take l.raw-index l.raws) l.frames
