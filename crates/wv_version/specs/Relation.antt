-- What stands before the version in a term, and which versions that allows (our own, after Fabric Loader).
use Rattle.std.specs.Prelude.{◌≡◌, ◌≢◌, ℕ, List, ◌∷◌, ◌++◌, codes, slice_index}
use Rattle.wv_version.specs.declared.dotted.Dotted.{Dotted}
use Rattle.wv_version.specs.declared.relation.Relation.{Relation}
use Rattle.wv_version.specs.declared.relation.Relation.TheVariants.{Below, AtMost, Above, AtLeast, Caret, Tilde}
use Rattle.wv_version.specs.Dotted.{IsLower, IsAtMost}

-- what stands before the version in a predicate (own, after Fabric Loader)
abbrev pub sign : Relation → List ℕ
sign Below = codes "<"
sign AtMost = codes "<="
sign Above = codes ">"
sign AtLeast = codes ">="
sign Caret = codes "^"
sign Tilde = codes "~"

-- v stands so to w, where a missing number counts as 0 (own, after Fabric Loader)
abbrev pub Holds : Relation → Dotted → Dotted → Type 0
Holds Below v w = IsLower v w
Holds AtMost v w = IsAtMost v w
Holds Above v w = IsLower w v
Holds AtLeast v w = IsAtMost w v
Holds Caret v w = IsAtMost w v × (slice_index v.numbers 0 ≡ slice_index w.numbers 0)
Holds Tilde v w = IsAtMost w v × (slice_index v.numbers 0 ≡ slice_index w.numbers 0)
    × (slice_index v.numbers 1 ≡ slice_index w.numbers 1)

-- no sign begins the text
abbrev pub HasNoSign : List ℕ → Type 0
HasNoSign text = (relation : Relation) (rest : List ℕ) → text ≢ sign relation ++ rest

-- '=' doesn't begin the rest of a '<' or a '>'
abbrev pub IsWholeSign : Relation → List ℕ → Type 0
IsWholeSign Below rest = (more : List ℕ) → rest ≢ 61 ∷ more
IsWholeSign Above rest = (more : List ℕ) → rest ≢ 61 ∷ more
IsWholeSign relation rest = Unit {0}

-- the longest sign that begins the text, and the rest
pub record IsSigned (text : List ℕ) (relation : Relation) (rest : List ℕ) : Type 0 where
  pub whole : text ≡ sign relation ++ rest
  pub longest : IsWholeSign relation rest
