use Rattle.std.proofs.Common.{false, drop}
use Rattle.wv_pool.specs.Entries.{AreSlots}
use Rattle.wv_class.proofs.pool_layout.is_layout.Given as goal

abbrev pub invariant-loop-entry : goal.invariant-loop-entry
invariant-loop-entry l = record {
  whole : AreSlots l.wide (drop l.entry-index l.pool) → AreSlots false l.pool;
  part : AreSlots false l.pool → AreSlots l.wide (drop l.entry-index l.pool);
}
