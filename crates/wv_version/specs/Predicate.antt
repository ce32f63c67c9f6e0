-- Predicates: the terms that a version has to meet (our own, after Fabric Loader).
use Rattle.std.specs.Prelude.{◌≡◌, ℕ, List, length, nat_lt, filter, All}
use Rattle.std.specs.List.{join_with_byte, AllByRecursion}
use Rattle.wv_version.specs.declared.version.Version.{Version}
use Rattle.wv_version.specs.declared.predicate.Predicate.{Predicate}
use Rattle.wv_version.specs.Cut.{IsFree}
use Rattle.wv_version.specs.Dots.{SpellsEach}
use Rattle.wv_version.specs.Term.{IsTerm, MeetsTerm}

-- the pieces that aren't empty
abbrev pub words : List (List ℕ) → List (List ℕ)
words pieces = filter (λ piece. nat_lt 0 (length piece)) pieces

-- the text is pieces without spaces, with one space between each two, and those that aren't empty
-- spell the terms (own, after Fabric Loader)
pub record IsPredicate (text : List ℕ) (predicate : Predicate) : Type 0 where
  pub pieces : List (List ℕ)
  pub joined : text ≡ join_with_byte 32 pieces
  pub free : AllByRecursion (IsFree 32) pieces
  pub each : SpellsEach IsTerm (words pieces) predicate.terms

-- the version meets every term
abbrev pub Meets : Version → Predicate → Type 0
Meets version predicate = All (MeetsTerm version) predicate.terms
