use Rattle.std.proofs.Common.{◌≡◌}
use Rattle.wv_pool.specs.Index.{number_in}
use Rattle.wv_pool.specs.Building.{IsBuilt}
use Rattle.wv_pool.proofs.building.enter_level.Given as goal

abbrev pub invariant-loop-entry : goal.invariant-loop-entry
invariant-loop-entry l = record {
  number : l.number ≡ l.entry-index;
  built : IsBuilt l.pool l.level l.number l.firsts.items (number_in l.index);
}
