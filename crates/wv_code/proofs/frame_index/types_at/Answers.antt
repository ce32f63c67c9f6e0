use Rattle.wv_code.proofs.Framed.{types_on}
use Rattle.wv_code.proofs.frame_index.types_at.Goals as goal

pub loop-kind-preserved : goal.loop-kind-preserved
loop-kind-preserved c =
    rw c.in_ok-push.ensures.ok
    (types_on c.args.offsets.now c.args.kinds.now c.loop-kind.kind-index c.kind-item.result c.loop-kind.types c.in_ok-type_at.field-0 c.loop-kind-test.true c.kind-item.is c.loop-kind.invariant c.in_ok-type_at.ensures)
