use Rattle.std.proofs.lemmas.List.{take_more}
use Rattle.wv_attr.proofs.TypeTables.{AreTypes-push}
use Rattle.wv_attr.proofs.types.Types.of.Goals as goal

pub loop-entry-preserved : goal.loop-entry-preserved
loop-entry-preserved c =
    rw (c.in_ok-push.ensures.items, take_more c.entries-entries.result.now c.loop-entry.entry-index c.entry-item.result c.loop-entry-test.true, ← c.entry-item.is)
    (AreTypes-push _ _ _ _ c.loop-entry.invariant c.in_ok-found.ensures)
