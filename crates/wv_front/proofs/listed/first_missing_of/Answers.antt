use Rattle.wv_front.proofs.Firsts.{missing-test, found-test}
use Rattle.wv_front.proofs.Missing.{one-more, missing-here}
use Rattle.wv_front.proofs.listed.first_missing_of.Goals as goal

pub returns-then-is_none : goal.returns-then-is_none
returns-then-is_none c = λ names h.
    rw c.in_ok-name.ensures
    (missing-here names c.args.config.now c.args.entries.now c.loop-entry.entry-index c.entry-item.result c.loop-entry-test.true c.entry-item.is (c.loop-entry.invariant names h)
    (rw c.in_ok-name.ensures at (missing-test names c.in_ok-name.name c.place.result c.is_none.result c.is_none.ensures c.if-is_none.true (c.place.ensures names h))))

pub loop-entry-preserved : goal.loop-entry-preserved
loop-entry-preserved c = λ names h.
    one-more names c.args.config.now c.args.entries.now c.loop-entry.entry-index c.entry-item.result c.loop-entry-test.true c.entry-item.is (c.loop-entry.invariant names h)
    (rw c.in_ok-name.ensures at (found-test names c.in_ok-name.name c.place.result c.is_none.result c.is_none.ensures c.if-is_none.false (c.place.ensures names h)))
