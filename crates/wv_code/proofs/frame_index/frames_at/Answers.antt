use Rattle.wv_code.proofs.Framed.{frames_on}
use Rattle.wv_code.proofs.frame_index.frames_at.Goals as goal

pub loop-raw-preserved : goal.loop-raw-preserved
loop-raw-preserved c =
    rw c.in_ok-push.ensures.ok
    (frames_on c.args.offsets.now c.args.raws.now c.loop-raw.raw-index c.raw-item.result c.loop-raw.frames c.in_ok-frame_at.field-0 c.loop-raw-test.true c.raw-item.is c.loop-raw.invariant c.in_ok-frame_at.ensures)
