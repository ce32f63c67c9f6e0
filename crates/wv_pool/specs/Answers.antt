-- What the calls that read a pool answer.
use Rattle.std.specs.Prelude.{◌≡◌, ℕ, ◌++◌, List, Result, Ok, Err, length}
use Rattle.wv_base.specs.declared.fault.ClassFault.{ClassFault}
use Rattle.wv_base.specs.declared.fault.ClassFault.TheVariants as faults
use Rattle.wv_base.specs.declared.class_file.PoolEntry.{PoolEntry}
use Rattle.wv_pool.specs.Entries.{IsLayout, pool_bytes}
use Rattle.wv_pool.specs.Layout.{IsLayoutFault}
use Rattle.wv_pool.specs.References.{FirstBreaks}

-- a pool and where it ends, unless memory ran out
abbrev pub GivesPool : Result (List PoolEntry × ℕ) ClassFault → List PoolEntry → Type 0
GivesPool (Ok found) pool = (found.0 ≡ pool) × (found.1 ≡ length (pool_bytes pool))
GivesPool (Err faults.Memory) pool = Unit {0}
GivesPool (Err (faults.Layout at)) pool = ⊥
GivesPool (Err (faults.Reference at)) pool = ⊥

-- the bytes start with the layout of a pool, in which a field first breaks what it must meet at the place
pub record IsReferenceFault (bytes : List ℕ) (at : ℕ) : Type 0 where
  pub pool : List PoolEntry
  pub rest : List ℕ
  pub layout : IsLayout pool
  pub starts : bytes ≡ pool_bytes pool ++ rest
  pub breaks : FirstBreaks pool at

-- the cause of a fault of the layout alone
abbrev pub LayoutBreaks : List ℕ → ClassFault → Type 0
LayoutBreaks bytes faults.Memory = Unit {0}
LayoutBreaks bytes (faults.Layout at) = IsLayoutFault bytes at
LayoutBreaks bytes (faults.Reference at) = ⊥

-- the cause of a fault
abbrev pub PoolBreaks : List ℕ → ClassFault → Type 0
PoolBreaks bytes faults.Memory = Unit {0}
PoolBreaks bytes (faults.Layout at) = IsLayoutFault bytes at
PoolBreaks bytes (faults.Reference at) = IsReferenceFault bytes at
