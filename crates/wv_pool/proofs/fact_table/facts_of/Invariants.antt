use Rattle.std.proofs.Common.{take}
use Rattle.wv_pool.specs.Facts.{AreAllFacts}
use Rattle.wv_pool.proofs.fact_table.facts_of.Given as goal

abbrev pub invariant-loop-entry : goal.invariant-loop-entry
invariant-loop-entry l = AreAllFacts (take l.entry-index l.pool) l.all.items
