-- A list of pieces with dots between them (our own).
use Rattle.std.specs.Prelude.{◌≡◌, ℕ, ◌<◌, List, [], ◌∷◌, length}
use Rattle.std.specs.List.{join_with_byte}

-- there are as many pieces as values, and each piece spells its value
abbrev pub SpellsEach : {A : Type 0} → (List ℕ → A → Type 0) → List (List ℕ) → List A → Type 0
SpellsEach Spells [] [] = Unit {0}
SpellsEach Spells [] (x ∷ xs) = ⊥
SpellsEach Spells (piece ∷ pieces) [] = ⊥
SpellsEach Spells (piece ∷ pieces) (x ∷ xs) = Spells piece x × SpellsEach Spells pieces xs

-- the text is one or more pieces with a dot between each two, which spell these values (own)
pub record IsDotJoined {A : Type 0} (Spells : List ℕ → A → Type 0) (text : List ℕ) (values : List A) : Type 0 where
  pub pieces : List (List ℕ)
  pub joined : text ≡ join_with_byte 46 pieces
  pub not_empty : 0 < length pieces
  pub each : SpellsEach Spells pieces values
