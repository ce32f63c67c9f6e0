-- The bytes of a pool and of its entries (JVM Specification 4.1 and 4.4).
use Rattle.std.specs.Prelude.{◌≡◌, ℕ, ◌+◌, ◌^◌, ◌<◌, Bool, true, false, List, [], ◌∷◌, ◌++◌, length, FitsSigned}
use Rattle.std.specs.List.{flat_map}
use Rattle.std.specs.Int.{w16, w32, w64, to_be_bytes, cast_unsigned}
use Rattle.wv_base.specs.declared.class_file.PoolEntry.{PoolEntry}
use Rattle.wv_base.specs.declared.class_file.PoolEntry.TheVariants as entries
use Rattle.wv_base.specs.Modified.{spelling, IsName}
use Rattle.wv_pool.specs.Reading.{is_wide}

abbrev pub number_bytes : ℕ → List ℕ
number_bytes n = to_be_bytes w16 n

-- an entry: its tag and its fields (4.4.1 to 4.4.10); a second number of a long or a double has no bytes
abbrev pub entry_bytes : PoolEntry → List ℕ
entry_bytes (entries.Utf8 name) = 1 ∷ (number_bytes (length (spelling name)) ++ spelling name)
entry_bytes (entries.Integer value) = 3 ∷ to_be_bytes w32 (cast_unsigned w32 value)
entry_bytes (entries.Float bits) = 4 ∷ to_be_bytes w32 bits
entry_bytes (entries.Long value) = 5 ∷ to_be_bytes w64 (cast_unsigned w64 value)
entry_bytes (entries.Double bits) = 6 ∷ to_be_bytes w64 bits
entry_bytes (entries.Class name) = 7 ∷ number_bytes name
entry_bytes (entries.String text) = 8 ∷ number_bytes text
entry_bytes (entries.Field class pair) = 9 ∷ (number_bytes class ++ number_bytes pair)
entry_bytes (entries.Method class pair) = 10 ∷ (number_bytes class ++ number_bytes pair)
entry_bytes (entries.InterfaceMethod class pair) = 11 ∷ (number_bytes class ++ number_bytes pair)
entry_bytes (entries.NameAndType name descriptor) = 12 ∷ (number_bytes name ++ number_bytes descriptor)
entry_bytes (entries.MethodHandle kind reference) = 15 ∷ (kind ∷ number_bytes reference)
entry_bytes (entries.MethodType descriptor) = 16 ∷ number_bytes descriptor
entry_bytes (entries.InvokeDynamic bootstrap pair) = 18 ∷ (number_bytes bootstrap ++ number_bytes pair)
entry_bytes entries.Unusable = []

-- an entry that has a layout: its numbers have room in their fields, and its text takes at most 65,535 bytes
abbrev pub IsEntry : PoolEntry → Type 0
IsEntry (entries.Utf8 name) = IsName name × (length (spelling name) < 2 ^ 16)
IsEntry (entries.Integer value) = FitsSigned w32 value
IsEntry (entries.Float bits) = bits < 2 ^ 32
IsEntry (entries.Long value) = FitsSigned w64 value
IsEntry (entries.Double bits) = bits < 2 ^ 64
IsEntry (entries.Class name) = name < 2 ^ 16
IsEntry (entries.String text) = text < 2 ^ 16
IsEntry (entries.Field class pair) = (class < 2 ^ 16) × (pair < 2 ^ 16)
IsEntry (entries.Method class pair) = (class < 2 ^ 16) × (pair < 2 ^ 16)
IsEntry (entries.InterfaceMethod class pair) = (class < 2 ^ 16) × (pair < 2 ^ 16)
IsEntry (entries.NameAndType name descriptor) = (name < 2 ^ 16) × (descriptor < 2 ^ 16)
IsEntry (entries.MethodHandle kind reference) = (kind < 256) × (reference < 2 ^ 16)
IsEntry (entries.MethodType descriptor) = descriptor < 2 ^ 16
IsEntry (entries.InvokeDynamic bootstrap pair) = (bootstrap < 2 ^ 16) × (pair < 2 ^ 16)
IsEntry entries.Unusable = ⊥

-- the entries from the next number on, behind a long or a double or not: what stands behind one isn't usable
abbrev pub AreSlots : Bool → List PoolEntry → Type 0
AreSlots wide [] = wide ≡ false
AreSlots true (entry ∷ others) = (entry ≡ entries.Unusable) × AreSlots false others
AreSlots false (entry ∷ others) = IsEntry entry × AreSlots (is_wide entry) others

-- the layout of a pool, the first entry having number 1
abbrev pub IsLayout : List PoolEntry → Type 0
IsLayout pool = (length pool + 1 < 2 ^ 16) × AreSlots false pool

-- the count is one more than the number of the last entry
abbrev pub pool_bytes : List PoolEntry → List ℕ
pool_bytes pool = number_bytes (length pool + 1) ++ flat_map entry_bytes pool
