-- A text in two parts, at a mark (our own).
use Rattle.std.specs.Prelude.{◌≡◌, ◌≢◌, ℕ, List, [], ◌∷◌, ◌++◌, Option, Some, None}
use Rattle.std.specs.List.{AllByRecursion}

-- a part that may be missing, behind its mark
abbrev pub led_by : ℕ → Option (List ℕ) → List ℕ
led_by mark None = []
led_by mark (Some part) = mark ∷ part

-- no byte of the text is the mark
abbrev pub IsFree : ℕ → List ℕ → Type 0
IsFree mark text = AllByRecursion (λ byte. byte ≢ mark) text

-- front is what stands before the first mark, and rest what stands behind it
pub record IsCut (mark : ℕ) (text front : List ℕ) (rest : Option (List ℕ)) : Type 0 where
  pub whole : text ≡ front ++ led_by mark rest
  pub free : IsFree mark front
