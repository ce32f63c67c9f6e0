-- One rule is the first that is broken, where each is broken in one way at a path.
use Rattle.std.proofs.Common.{◌≡◌, inl, inr, List}
use Rattle.std.specs.List.{AllByRecursion}
use Rattle.wv_base.specs.declared.broken.Broken.{Broken}
use Rattle.wv_base.specs.declared.rule.Rule.{Rule}
use Rattle.wv_mod.specs.FirstBroken.{IsKept, IsFirstBreak, IsFirstOf, here, behind}
use Rattle.wv_resolve.proofs.Paths.{sides}

-- a rule is broken in one way at a path
abbrev pub IsOneAt : (Broken → Type 0) → Type 0
IsOneAt IsBroken = (broken other : Broken) → IsBroken broken → IsBroken other → broken.place.file ≡ other.place.file → broken ≡ other

one-break : (IsBroken : Broken → Type 0) (broken other : Broken) → IsOneAt IsBroken → IsFirstBreak IsBroken broken → IsFirstBreak IsBroken other → broken ≡ other
one-break IsBroken broken other one g h = elim (sides broken.place.file other.place.file) [
  | inl same ↦ one broken other g.here h.here same
  | inr (inl before) ↦ absurd (h.first broken g.here before)
  | inr (inr after) ↦ absurd (g.first other h.here after)
]

module _ (IsBroken : Rule → Broken → Type 0) where
  pub one-first_of : ((rule : Rule) → IsOneAt (IsBroken rule)) → (rules : List Rule) (broken other : Broken) → IsFirstOf IsBroken rules broken → IsFirstOf IsBroken rules other → broken ≡ other
  one-first_of one _ broken other (here {rule} g) (here h) = one-break (IsBroken rule) broken other (one rule) g h
  one-first_of one _ broken other (here {rule} g) (behind kept h) = absurd (kept broken g.here)
  one-first_of one _ broken other (behind kept g) (here h) = absurd (kept other h.here)
  one-first_of one _ broken other (behind {rule} {later} kept g) (behind again h) = one-first_of one later broken other g h

  -- where all are kept, none is the first that is broken
  pub kept-not_first : (rules : List Rule) (broken : Broken) → AllByRecursion (λ rule. IsKept (IsBroken rule)) rules → IsFirstOf IsBroken rules broken → ⊥
  kept-not_first _ broken kept (here g) = kept.0 broken g.here
  kept-not_first _ broken kept (behind {rule} {later} one g) = kept-not_first later broken kept.1 g
