-- Numbers, one behind the other or of which not every value is allowed.
use Rattle.std.specs.Prelude.{◌≡◌, ℕ, ◌^◌, ◌<◌, List, ◌++◌, length}
use Rattle.std.specs.List.{AllByRecursion}
use Rattle.wv_room.specs.Number.{number_of}
use Rattle.wv_pool.specs.Entries.{number_bytes}
use Rattle.wv_class.specs.declared.number.Three.{Three}
use Rattle.wv_class.specs.Layout.{SpellsAll}

-- the bytes are this number
abbrev pub SpellsShort : ℕ → ℕ → List ℕ → Type 0
SpellsShort near n bytes = (n < 2 ^ 16) × (bytes ≡ number_bytes n)

pub record SpellsThree (near : ℕ) (three : Three) (bytes : List ℕ) : Type 0 where
  pub first : three.first < 2 ^ 16
  pub second : three.second < 2 ^ 16
  pub third : three.third < 2 ^ 16
  pub spelled : bytes ≡ number_bytes three.first ++ (number_bytes three.second ++ number_bytes three.third)

-- the bytes, so many, are a number that is allowed
pub record SpellsAllowed (width : ℕ) (allows : ℕ → Type 0) (near n : ℕ) (bytes : List ℕ) : Type 0 where
  pub wide : length bytes ≡ width
  pub small : AllByRecursion (λ b. b < 256) bytes
  pub spelled : n ≡ number_of bytes
  pub allowed : allows n

abbrev pub SpellsExactly : (width number : ℕ) → (near n : ℕ) → List ℕ → Type 0
SpellsExactly width number = SpellsAllowed width (λ n. n ≡ number)

-- the bytes are so many items
pub record SpellsTimes {X : Type 0} (S : ℕ → X → List ℕ → Type 0) (count near : ℕ) (xs : List X) (bytes : List ℕ) : Type 0 where
  pub many : length xs ≡ count
  pub all : SpellsAll S near xs bytes
