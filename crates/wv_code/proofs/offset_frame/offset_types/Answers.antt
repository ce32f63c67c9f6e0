use Rattle.wv_code.proofs.OffsetFrames.{types_on}
use Rattle.wv_code.proofs.offset_frame.offset_types.Goals as goal

pub loop-kind-preserved : goal.loop-kind-preserved
loop-kind-preserved c =
    rw c.in_ok-push.ensures.ok (types_on c.args.offsets.now c.loop-kind.raws c.args.kinds.now c.loop-kind.kind-index c.in_ok-offset_type.field-0 c.kind-item.result c.loop-kind-test.true c.loop-kind.invariant (rw (← c.kind-item.is) c.in_ok-offset_type.ensures))
