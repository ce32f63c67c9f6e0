-- Versions of the dotted form, as they are spelled (our own, after Fabric Loader).
use Rattle.std.specs.Prelude.{◌≡◌, ◌⊎◌, ℕ, ◌<◌, ◌||◌, ◌==◌, IsTrue, List, [], ◌∷◌, ◌++◌, length, Option, Some, None, IfSome, slice_index}
use Rattle.std.specs.List.{AllByRecursion}
use Rattle.wv_version.specs.declared.dotted.Dotted.{Dotted}
use Rattle.wv_version.specs.declared.identifier.Identifier.{Identifier}
use Rattle.wv_version.specs.Cut.{led_by}
use Rattle.wv_version.specs.Numeral.{IsNumeral}
use Rattle.wv_version.specs.Dots.{IsDotJoined}
use Rattle.wv_version.specs.Identifier.{is_word_byte, IsPreRelease, IsIdentifierLower}
use Rattle.wv_version.specs.Order.{IsFirstLower, IsListLower}

-- one or more letters, digits, dashes and dots
pub record IsBuild (text : List ℕ) : Type 0 where
  pub not_empty : 0 < length text
  pub each : AllByRecursion (λ byte. IsTrue (is_word_byte byte || byte == 46)) text

-- both are missing, or the text spells the identifiers
abbrev pub IsPreReleasePart : Option (List ℕ) → Option (List Identifier) → Type 0
IsPreReleasePart None None = Unit {0}
IsPreReleasePart None (Some identifiers) = ⊥
IsPreReleasePart (Some text) None = ⊥
IsPreReleasePart (Some text) (Some identifiers) = IsPreRelease text identifiers

-- numbers between dots, then optionally '-' and a pre-release part, then optionally '+' and a build
-- part, which says nothing of the version (own, after Fabric Loader)
pub record IsDotted (text : List ℕ) (version : Dotted) : Type 0 where
  pub numbers : List ℕ
  pub pre_release : Option (List ℕ)
  pub build : Option (List ℕ)
  pub whole : text ≡ (numbers ++ led_by 45 pre_release) ++ led_by 43 build
  pub of_numbers : IsDotJoined IsNumeral numbers version.numbers
  pub of_pre_release : IsPreReleasePart pre_release version.pre_release
  pub of_build : IfSome build IsBuild

-- the first number that differs is the lower one, where a missing number counts as 0
abbrev pub IsNumbersLower : List ℕ → List ℕ → Type 0
IsNumbersLower xs ys = IsFirstLower ◌<◌ (slice_index xs) (slice_index ys)

-- no number differs, where a missing number counts as 0
abbrev pub HasSameNumbers : List ℕ → List ℕ → Type 0
HasSameNumbers xs ys = (place : ℕ) → slice_index xs place ≡ slice_index ys place

-- by the identifiers; no pre-release part is the greatest
abbrev pub IsPreReleaseLower : Option (List Identifier) → Option (List Identifier) → Type 0
IsPreReleaseLower None other = ⊥
IsPreReleaseLower (Some xs) None = Unit {0}
IsPreReleaseLower (Some xs) (Some ys) = IsListLower IsIdentifierLower xs ys

-- v comes before w: by the numbers, and where they agree by the pre-release parts (own)
abbrev pub IsLower : Dotted → Dotted → Type 0
IsLower v w = IsNumbersLower v.numbers w.numbers
    ⊎ (HasSameNumbers v.numbers w.numbers × IsPreReleaseLower v.pre_release w.pre_release)

-- v and w take the same place in the order
abbrev pub IsSame : Dotted → Dotted → Type 0
IsSame v w = HasSameNumbers v.numbers w.numbers × (v.pre_release ≡ w.pre_release)

-- v doesn't come after w
abbrev pub IsAtMost : Dotted → Dotted → Type 0
IsAtMost v w = IsLower v w ⊎ IsSame v w

-- v is from low up to but without high
abbrev pub IsBetween : Dotted → Dotted → Dotted → Type 0
IsBetween low v high = IsAtMost low v × IsLower v high

-- the version with one more number, 0
abbrev pub with_zero : Dotted → Dotted
with_zero v = record { numbers = v.numbers ++ 0 ∷ []; pre_release = v.pre_release }

-- these numbers and an empty pre-release part, as in `2-`
abbrev pub least_of : List ℕ → Dotted
least_of numbers = record { numbers = numbers; pre_release = Some [] }
