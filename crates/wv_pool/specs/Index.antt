-- The number that an index has for a key.
use Rattle.std.specs.Prelude.{◌≡◌, ℕ, List, Option, Some, None, ◌⊎◌}
use Rattle.std.specs.Ordering.{nat_cmp}
use Rattle.std.specs.declared.cmp.Ordering.{Ordering}
use Rattle.std.specs.Cmp.Lexicographic.{slice_cmp}
use Rattle.std.specs.BTreeMap.{get}
use Rattle.wv_pool.specs.declared.key.Key.{Key}
use Rattle.wv_pool.specs.declared.key.Key.TheVariants as keys
use Rattle.wv_pool.specs.declared.index.Index.{Index}
use Rattle.wv_pool.specs.Keys.{words_of}

abbrev pub list_cmp : List ℕ → List ℕ → Ordering
list_cmp a b = slice_cmp nat_cmp a b

abbrev pub number_in : Index → Key → Option ℕ
number_in index (keys.Utf8 name) = get list_cmp index.texts name
number_in index key = get list_cmp index.others (words_of key)

-- the key has the number, and every other one keeps its own
pub record Inserts (old new : Key → Option ℕ) (key : Key) (number : ℕ) : Type 0 where
  pub here : new key ≡ Some number
  pub others : (other : Key) → (other ≡ key) ⊎ (new other ≡ old other)

-- the number that the key had, or the new one where it had none
abbrev pub HasOrInserts : (old new : Key → Option ℕ) → Key → (number given : ℕ) → Type 0
HasOrInserts old new key number given = ((old key ≡ Some given) × ((other : Key) → new other ≡ old other)) ⊎ ((old key ≡ None) × (given ≡ number) × Inserts old new key number)
