use Rattle.wv_mod.proofs.Mixing.{mixins-none, mixins-push}
use Rattle.wv_mod.proofs.mixin.read_list.Goals as goal

pub returns-in_default : goal.returns-in_default
returns-in_default c = mixins-none c.args.list.now c.loop-item.item-index c.item-item.result c.loop-item-test.true c.item-item.is (rw c.in_default.is at c.in_ok-mixin.ensures)

pub loop-item-preserved : goal.loop-item-preserved
loop-item-preserved c =
    rw c.in_ok-push.ensures.ok
    (mixins-push c.args.list.now c.loop-item.item-index c.loop-item.mixins c.item-item.result c.in-Some.mixin c.loop-item-test.true c.item-item.is c.loop-item.invariant (rw c.in-Some.is at c.in_ok-mixin.ensures))
