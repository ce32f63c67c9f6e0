use Rattle.wv_resolve.specs.Dependency.{Keeps, Fails}
use Rattle.wv_resolve.proofs.Lists.{each-more}
use Rattle.wv_resolve.proofs.Entries.{first-at, kept-at-true, fails-at-false, all-looked-at}
use Rattle.wv_resolve.proofs.check.first_failing.Goals as goal

pub returns-then-not-keeps-clause-fail : goal.returns-then-not-keeps-clause-fail
returns-then-not-keeps-clause-fail c = λ list h.
    first-at (Keeps c.args.kind list) (Fails c.args.kind list) c.args.entries.now c.loop-dependency.dependency-index c.dependency-item.result c.loop-dependency-test.true c.dependency-item.is (c.loop-dependency.invariant list h)
    (fails-at-false c.args.kind list c.dependency-item.result c.keeps.result c.if-not-keeps.true (c.keeps.ensures list h))

pub loop-dependency-preserved : goal.loop-dependency-preserved
loop-dependency-preserved c = λ list h.
    each-more (Keeps c.args.kind list) c.args.entries.now c.loop-dependency.dependency-index c.dependency-item.result c.loop-dependency-test.true c.dependency-item.is (c.loop-dependency.invariant list h)
    (kept-at-true c.args.kind list c.dependency-item.result c.keeps.result c.if-not-keeps.false (c.keeps.ensures list h))

pub returns-clause-keep : goal.returns-clause-keep
returns-clause-keep c = λ list h. all-looked-at (Keeps c.args.kind list) c.args.entries.now c.loop-dependency.dependency-index c.loop-dependency-test.false (c.loop-dependency.invariant list h)
