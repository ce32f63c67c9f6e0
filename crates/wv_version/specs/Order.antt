-- The order of versions, by the first place of difference (our own, after Fabric Loader).
use Rattle.std.specs.Prelude.{◌≡◌, ℕ, ◌<◌, List, Option, Some, None, slice_get}

-- at the first place where first and second differ, first is the lower one
pub record IsFirstLower {A : Type 0} (Lower : A → A → Type 0) (first second : ℕ → A) : Type 0 where
  pub place : ℕ
  pub before : (i : ℕ) → i < place → first i ≡ second i
  pub lower : Lower (first place) (second place)

-- nothing is lower than something
abbrev pub IsPlaceLower : {A : Type 0} → (A → A → Type 0) → Option A → Option A → Type 0
IsPlaceLower Lower None None = ⊥
IsPlaceLower Lower None (Some y) = Unit {0}
IsPlaceLower Lower (Some x) None = ⊥
IsPlaceLower Lower (Some x) (Some y) = Lower x y

-- the first difference decides, and a proper prefix is lower
abbrev pub IsListLower : {A : Type 0} → (A → A → Type 0) → List A → List A → Type 0
IsListLower Lower xs ys = IsFirstLower (IsPlaceLower Lower) (slice_get xs) (slice_get ys)
