-- The terms of a predicate (our own, after Fabric Loader).
use Rattle.std.specs.Prelude.{◌≡◌, ◌≢◌, ◌⊎◌, ℕ, List, [], ◌∷◌, ◌++◌, codes, slice_index, EachIndex}
use Rattle.wv_version.specs.declared.version.Version.{Version}
use Rattle.wv_version.specs.declared.version.Version.TheVariants as version
use Rattle.wv_version.specs.declared.term.Term.{Term}
use Rattle.wv_version.specs.declared.term.Term.TheVariants as term
use Rattle.wv_version.specs.Numeral.{IsNumeral}
use Rattle.wv_version.specs.Dots.{IsDotJoined}
use Rattle.wv_version.specs.Dotted.{IsDotted}
use Rattle.wv_version.specs.Version.{IsVersion, IsVersionSame}
use Rattle.wv_version.specs.Relation.{sign, Holds, HasNoSign}

-- 'x', 'X' or '*'
abbrev pub IsWildcardMark : ℕ → Type 0
IsWildcardMark mark = (mark ≡ 120) ⊎ (mark ≡ 88) ⊎ (mark ≡ 42)

-- the text is front, a dot and a wildcard
pub record IsBeforeWildcard (text front : List ℕ) : Type 0 where
  pub mark : ℕ
  pub is_mark : IsWildcardMark mark
  pub whole : text ≡ front ++ 46 ∷ mark ∷ []

abbrev pub HasNoWildcard : List ℕ → Type 0
HasNoWildcard text = (front : List ℕ) → IsBeforeWildcard text front → ⊥

-- numbers between dots, and a wildcard behind one more dot (own, after Fabric Loader)
pub record IsWildcard (text : List ℕ) (numbers : List ℕ) : Type 0 where
  pub front : List ℕ
  pub before : IsBeforeWildcard text front
  pub of_numbers : IsDotJoined IsNumeral front numbers

-- no other kind of term: not '*', no sign, no wildcard
pub record IsBare (text : List ℕ) : Type 0 where
  pub not_any : text ≢ codes "*"
  pub not_equal : (rest : List ℕ) → text ≢ codes "=" ++ rest
  pub no_sign : HasNoSign text
  pub no_wildcard : (numbers : List ℕ) → IsWildcard text numbers → ⊥

-- '=' and a version
pub record IsEqualTerm (text : List ℕ) (v : Version) : Type 0 where
  pub rest : List ℕ
  pub whole : text ≡ codes "=" ++ rest
  pub of_version : IsVersion rest v

-- the text of a term (own, after Fabric Loader)
abbrev pub IsTerm : List ℕ → Term → Type 0
IsTerm text term.Any = text ≡ codes "*"
IsTerm text (term.Is v) = IsEqualTerm text v ⊎ (IsBare text × IsVersion text v)
IsTerm text (term.Compared relation v) = (rest : List ℕ) × (text ≡ sign relation ++ rest) × IsDotted rest v
IsTerm text (term.Wildcard numbers) = IsWildcard text numbers

-- the first numbers are these, where a missing number counts as 0
abbrev pub BeginsWith : List ℕ → List ℕ → Type 0
BeginsWith numbers front = EachIndex front (λ i. slice_index numbers i ≡ slice_index front i)

-- the version meets the term (own, after Fabric Loader)
abbrev pub MeetsTerm : Version → Term → Type 0
MeetsTerm v term.Any = Unit {0}
MeetsTerm v (term.Is w) = IsVersionSame v w
MeetsTerm (version.Dotted v) (term.Compared relation w) = Holds relation v w
MeetsTerm (version.Plain t) (term.Compared relation w) = ⊥
MeetsTerm (version.Dotted v) (term.Wildcard numbers) = BeginsWith v.numbers numbers
MeetsTerm (version.Plain t) (term.Wildcard numbers) = ⊥
