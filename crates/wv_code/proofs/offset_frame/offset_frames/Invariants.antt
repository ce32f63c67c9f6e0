use Rattle.std.proofs.Common.{take}
use Rattle.wv_code.specs.Body.{AreFramesOf}
use Rattle.wv_code.proofs.offset_frame.offset_frames.Given as goal

abbrev pub invariant-loop-one : goal.invariant-loop-one
invariant-loop-one l = AreFramesOf l.offsets l.raws (take l.one-index l.frames)
