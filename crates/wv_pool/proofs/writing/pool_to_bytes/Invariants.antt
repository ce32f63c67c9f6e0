use Rattle.std.proofs.Common.{◌≡◌, ◌+◌, ◌++◌, length, take}
use Rattle.std.specs.List.{flat_map}
use Rattle.wv_pool.specs.Entries.{number_bytes, entry_bytes}
use Rattle.wv_pool.proofs.writing.pool_to_bytes.Given as goal

abbrev pub invariant-loop-entry : goal.invariant-loop-entry
invariant-loop-entry l = l.out.items ≡ number_bytes (length l.pool + 1) ++ flat_map entry_bytes (take l.entry-index l.pool)
