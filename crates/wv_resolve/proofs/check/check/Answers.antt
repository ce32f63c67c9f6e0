use Rattle.wv_resolve.proofs.Entries.{entries-more, entry-broken, all-mods}
use Rattle.wv_resolve.proofs.check.check.Goals as goal

pub returns-in-Some-clause-fault : goal.returns-in-Some-clause-fault
returns-in-Some-clause-fault c = λ list h.
    entry-broken c.args.kind list c.args.mods.now c.loop-info.info-index c.info-item.result c.in-Some.dependency.now c.in_ok-broken.broken c.loop-info-test.true c.info-item.is (c.loop-info.invariant list h)
    (rw c.entries.ensures at (c.in-Some.ensures.fail list h))
    (c.in_ok-broken.ensures list h)

pub loop-info-preserved : goal.loop-info-preserved
loop-info-preserved c = λ list h.
    entries-more c.args.kind list c.args.mods.now c.loop-info.info-index c.info-item.result c.loop-info-test.true c.info-item.is (c.loop-info.invariant list h)
    (rw c.entries.ensures at (c.in_default.ensures.keep list h))

pub returns-clause-keep : goal.returns-clause-keep
returns-clause-keep c = λ list h. all-mods c.args.kind list c.args.mods.now c.loop-info.info-index c.loop-info-test.false (c.loop-info.invariant list h)
