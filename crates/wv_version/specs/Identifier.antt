-- The identifiers of a pre-release part (our own, after Fabric Loader).
use Rattle.std.specs.Prelude.{◌≡◌, ℕ, ◌<◌, ◌||◌, ◌==◌, Bool, IsTrue, List, [], ◌∷◌, length}
use Rattle.std.specs.List.{AllByRecursion}
use Rattle.std.specs.Char.{is_ascii_alphanumeric}
use Rattle.wv_version.specs.declared.identifier.Identifier.{Identifier}
use Rattle.wv_version.specs.declared.identifier.Identifier.TheVariants.{Number, Word}
use Rattle.wv_version.specs.Numeral.{IsNumeral}
use Rattle.wv_version.specs.Dots.{IsDotJoined}
use Rattle.wv_version.specs.Order.{IsListLower}

-- an ASCII letter, a digit or a dash
abbrev pub is_word_byte : ℕ → Bool
is_word_byte byte = is_ascii_alphanumeric byte || byte == 45

-- one or more letters, digits and dashes
pub record IsWord (text : List ℕ) : Type 0 where
  pub not_empty : 0 < length text
  pub each : AllByRecursion (λ byte. IsTrue (is_word_byte byte)) text

-- 1 to 18 digits spell their number, and every other word spells itself (own)
abbrev pub IsIdentifier : List ℕ → Identifier → Type 0
IsIdentifier text (Number number) = IsNumeral text number
IsIdentifier text (Word word) = IsWord text × ((number : ℕ) → IsNumeral text number → ⊥) × (word ≡ text)

-- a pre-release part is empty, or identifiers between dots (own)
abbrev pub IsPreRelease : List ℕ → List Identifier → Type 0
IsPreRelease text [] = text ≡ []
IsPreRelease text (identifier ∷ more) = IsDotJoined IsIdentifier text (identifier ∷ more)

-- numbers by value, and below all words; words by their bytes (own)
abbrev pub IsIdentifierLower : Identifier → Identifier → Type 0
IsIdentifierLower (Number m) (Number n) = m < n
IsIdentifierLower (Number m) (Word t) = Unit {0}
IsIdentifierLower (Word s) (Number n) = ⊥
IsIdentifierLower (Word s) (Word t) = IsListLower ◌<◌ s t
