-- Where the bytes first break the layout of a pool.
use Rattle.std.specs.Prelude.{◌≡◌, ℕ, ◌+◌, ◌<◌, ◌≤◌, List, ◌++◌, length, take}
use Rattle.wv_base.specs.declared.class_file.PoolEntry.{PoolEntry}
use Rattle.wv_pool.specs.Entries.{IsLayout, pool_bytes}

-- the bytes of a pool, whatever its numbers name, and bytes behind it
abbrev pub StartsWithPool : List ℕ → Type 0
StartsWithPool bytes = (pool : List PoolEntry) × (rest : List ℕ) × IsLayout pool × (bytes ≡ pool_bytes pool ++ rest)

-- the bytes go on as those of a pool
abbrev pub BeginsPool : List ℕ → Type 0
BeginsPool front = (more : List ℕ) × StartsWithPool (front ++ more)

-- The bytes start with no pool, and this is where that shows: each shorter front begins one, and none begins with one byte
-- more, or the input ends here.
pub record IsLayoutFault (bytes : List ℕ) (at : ℕ) : Type 0 where
  pub within : at ≤ length bytes
  pub no_pool : StartsWithPool bytes → ⊥
  pub begins : (k : ℕ) → k ≤ at → BeginsPool (take k bytes)
  pub none : at < length bytes → BeginsPool (take (at + 1) bytes) → ⊥
