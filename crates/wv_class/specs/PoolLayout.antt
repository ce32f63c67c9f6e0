-- The entries of a pool, one by one (JVM Specification 4.4).
use Rattle.std.specs.Prelude.{◌≡◌, ◌^◌, ◌<◌, Bool, true, false}
use Rattle.wv_base.specs.declared.class_file.PoolEntry.{PoolEntry}
use Rattle.wv_base.specs.declared.class_file.PoolEntry.TheVariants as entries
use Rattle.wv_pool.specs.Entries.{IsEntry}

-- an entry with two numbers, which have room in their fields
abbrev pub IsPair : PoolEntry → Type 0
IsPair (entries.Field class pair) = (class < 2 ^ 16) × (pair < 2 ^ 16)
IsPair (entries.Method class pair) = (class < 2 ^ 16) × (pair < 2 ^ 16)
IsPair (entries.InterfaceMethod class pair) = (class < 2 ^ 16) × (pair < 2 ^ 16)
IsPair (entries.NameAndType name descriptor) = (name < 2 ^ 16) × (descriptor < 2 ^ 16)
IsPair (entries.InvokeDynamic bootstrap pair) = (bootstrap < 2 ^ 16) × (pair < 2 ^ 16)
IsPair _ = ⊥

-- what may stand behind a long or a double, or elsewhere
abbrev pub IsSlot : Bool → PoolEntry → Type 0
IsSlot true entry = entry ≡ entries.Unusable
IsSlot false entry = IsEntry entry
