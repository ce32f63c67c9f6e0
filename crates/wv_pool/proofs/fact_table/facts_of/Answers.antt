use Rattle.std.proofs.lemmas.List.{take_more}
use Rattle.wv_pool.proofs.FactTables.{AreAllFacts-push}
use Rattle.wv_pool.proofs.fact_table.facts_of.Goals as goal

pub loop-entry-preserved : goal.loop-entry-preserved
loop-entry-preserved c =
    rw (c.in_ok-push.ensures.items, take_more c.args.pool.now c.loop-entry.entry-index c.entry-item.result c.loop-entry-test.true, ← c.entry-item.is)
    (AreAllFacts-push _ _ _ _ c.loop-entry.invariant c.facts_of_entry.ensures)
