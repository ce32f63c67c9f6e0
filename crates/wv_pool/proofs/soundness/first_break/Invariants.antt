use Rattle.std.proofs.Common.{◌≡◌, ◌+◌, ◌*◌, ◌≤◌, length, take}
use Rattle.std.specs.List.{flat_map, AllByRecursion}
use Rattle.wv_pool.specs.Entries.{entry_bytes}
use Rattle.wv_pool.specs.References.{IsSound}
use Rattle.wv_pool.proofs.soundness.first_break.Given as goal

abbrev pub invariant-loop-entry : goal.invariant-loop-entry
invariant-loop-entry l = record {
  sound : AllByRecursion (IsSound l.pool) (take l.entry-index l.pool);
  place : l.at ≡ 2 + length (flat_map entry_bytes (take l.entry-index l.pool));
  small : l.at ≤ 2 + 65538 * l.entry-index;
}
