use Rattle.wv_class.proofs.AttributeMeanings.{classes_more}
use Rattle.wv_class.proofs.names.push_classes.Goals as goal

pub loop-number-preserved : goal.loop-number-preserved
loop-number-preserved c before h =
    rw c.in_ok-push.ensures.items (classes_more c.args.pool.now before c.args.numbers.now c.loop-number.names.items c.loop-number.number-index c.in_ok-class_at.field-0 c.loop-number-test.true (c.loop-number.invariant before h) c.in_ok-class_at.ensures)
