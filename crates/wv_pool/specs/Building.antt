-- Entering a pool's constants into an index, those that others stand on first.
use Rattle.std.specs.Prelude.{◌≡◌, ℕ, ◌+◌, ◌<◌, ◌≤◌, List, length, slice_index_or, Option, Some, None, ◌⊎◌}
use Rattle.wv_base.specs.declared.class_file.PoolEntry.{PoolEntry}
use Rattle.wv_base.specs.declared.class_file.PoolEntry.TheVariants as entries
use Rattle.wv_base.specs.declared.constant.Const.{Const}
use Rattle.wv_pool.specs.declared.key.Key.{Key}
use Rattle.wv_pool.specs.declared.key.Key.TheVariants as keys
use Rattle.wv_pool.specs.References.{entry_of}
use Rattle.wv_pool.specs.Constants.{constant_of}
use Rattle.wv_pool.specs.Numbers.{Enters, number_for}

-- how many entries stand behind an entry, one on the other; what isn't usable comes last
abbrev pub level_in : PoolEntry → ℕ
level_in (entries.Utf8 _) = 0
level_in (entries.Integer _) = 0
level_in (entries.Float _) = 0
level_in (entries.Long _) = 0
level_in (entries.Double _) = 0
level_in (entries.Class _) = 1
level_in (entries.String _) = 1
level_in (entries.Field _ _) = 2
level_in (entries.Method _ _) = 2
level_in (entries.InterfaceMethod _ _) = 2
level_in (entries.NameAndType _ _) = 1
level_in (entries.MethodHandle _ _) = 3
level_in (entries.MethodType _) = 1
level_in (entries.InvokeDynamic _ _) = 2
level_in entries.Unusable = 4

abbrev pub level_at : Option PoolEntry → ℕ
level_at (Some entry) = level_in entry
level_at None = 5

-- the numbers of lower levels, and those of this one up to a number
abbrev pub IsDone : List PoolEntry → (level last : ℕ) → ℕ → Type 0
IsDone pool level last n = (level_at (entry_of pool n) < level) ⊎ ((level_at (entry_of pool n) ≡ level) × (n ≤ last))

-- the least number of what a number names, in a table
abbrev pub first_of : List ℕ → ℕ → ℕ
first_of table n = slice_index_or table n 0

-- an entry's key, with the least number of each part; one that isn't usable has none
abbrev pub key_with : (ℕ → ℕ) → PoolEntry → Option Key
key_with first (entries.Utf8 name) = Some (keys.Utf8 name)
key_with first (entries.Integer value) = Some (keys.Integer value)
key_with first (entries.Float bits) = Some (keys.Float bits)
key_with first (entries.Long value) = Some (keys.Long value)
key_with first (entries.Double bits) = Some (keys.Double bits)
key_with first (entries.Class name) = Some (keys.Class (first name))
key_with first (entries.String text) = Some (keys.String (first text))
key_with first (entries.Field class pair) = Some (keys.Field (first class) (first pair))
key_with first (entries.Method class pair) = Some (keys.Method (first class) (first pair))
key_with first (entries.InterfaceMethod class pair) = Some (keys.InterfaceMethod (first class) (first pair))
key_with first (entries.NameAndType name descriptor) = Some (keys.NameAndType (first name) (first descriptor))
key_with first (entries.MethodHandle kind reference) = Some (keys.MethodHandle kind (first reference))
key_with first (entries.MethodType descriptor) = Some (keys.MethodType (first descriptor))
key_with first (entries.InvokeDynamic bootstrap pair) = Some (keys.InvokeDynamic bootstrap (first pair))
key_with first entries.Unusable = None

-- an index into which the numbers up to here were entered, and the first of each
pub record IsBuilt (pool : List PoolEntry) (level last : ℕ) (table : List ℕ) (number : Key → Option ℕ) : Type 0 where
  pub long : length table ≡ length pool + 1
  pub right : Enters pool (IsDone pool level last) number
  pub firsts : (n : ℕ) (c : Const) → IsDone pool level last n → constant_of pool n ≡ Some c → number_for number c ≡ Some (first_of table n)
