use Rattle.wv_code.proofs.OffsetFrames.{frames_on}
use Rattle.wv_code.proofs.offset_frame.offset_frames.Goals as goal

pub loop-one-preserved : goal.loop-one-preserved
loop-one-preserved c =
    rw c.in_ok-push.ensures.ok (frames_on c.args.offsets.now c.loop-one.raws c.args.frames.now c.loop-one.one-index c.in_ok-offset_frame.field-0 c.one-item.result c.loop-one-test.true c.loop-one.invariant (rw (← c.one-item.is) c.in_ok-offset_frame.ensures))
