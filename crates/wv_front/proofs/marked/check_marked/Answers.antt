use Rattle.wv_resolve.proofs.Entries.{first-at}
use Rattle.wv_front.specs.Marked.{IsMarked, IsMarkless}
use Rattle.wv_front.proofs.marked.check_marked.Goals as goal

pub returns-in-Some-clause-markless : goal.returns-in-Some-clause-markless
returns-in-Some-clause-markless c = (
  c.mixin-item.result,
  first-at (IsMarked c.args.classes.now) (IsMarkless c.args.classes.now c.in_ok-refused.field-0) c.args.mixins.now c.loop-mixin.mixin-index c.mixin-item.result c.loop-mixin-test.true c.mixin-item.is c.loop-mixin.invariant
      (c.in-Some.class.now, c.in-Some.ensures, c.in_ok-refused.ensures),
)
