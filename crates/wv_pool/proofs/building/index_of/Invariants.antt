use Rattle.wv_pool.specs.Index.{number_in}
use Rattle.wv_pool.specs.Building.{IsBuilt}
use Rattle.wv_pool.proofs.building.index_of.Given as goal

abbrev pub invariant-loop-level : goal.invariant-loop-level
invariant-loop-level l = record {
  built : IsBuilt l.pool l.level 0 l.firsts.items (number_in l.index);
}
