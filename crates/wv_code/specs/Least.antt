-- The least of a set of places.
use Rattle.std.specs.Prelude.{◌≡◌, ℕ, ◌+◌, ◌≤◌, min, Bool, List, slice_get, Option, Some, None, IfSome, IsSomeAnd, if◌then◌else◌}

-- What is found is in the set, and no number of the set is below it; nothing is found where the set is empty.
pub record IsLeastOf (P : ℕ → Type 0) (found : Option ℕ) : Type 0 where
  pub holds : IfSome found P
  pub least : (n : ℕ) → P n → IsSomeAnd found (λ m. m ≤ n)

-- the lesser of two numbers, where there are any
abbrev pub lesser : Option ℕ → Option ℕ → Option ℕ
lesser None b = b
lesser (Some a) None = Some a
lesser (Some a) (Some b) = Some (min a b)

-- the place, unless what is asked there holds
abbrev pub unless : Bool → ℕ → Option ℕ
unless holds place = if holds then None else Some place

-- the number is the place, and what is asked there doesn't hold
abbrev pub Broken : Type 0 → ℕ → ℕ → Type 0
Broken asked place n = (n ≡ place) × (asked → ⊥)

-- places that are counted from a base on
abbrev pub Behind : ℕ → (ℕ → Type 0) → ℕ → Type 0
Behind base P n = (m : ℕ) × P m × (n ≡ base + m)

-- the places of the items of a list
abbrev pub InItems : {X : Type 0} → List X → (ℕ → X → ℕ → Type 0) → ℕ → Type 0
InItems {X} xs P n = (k : ℕ) × (x : X) × (slice_get xs k ≡ Some x) × P k x n
