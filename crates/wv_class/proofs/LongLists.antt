-- The members with a list that passes 65,535.
use Rattle.std.proofs.Common.{◌≡◌, ℕ, zero, suc, ◌+◌, ◌<◌, ◌≤◌, false, List, [], ◌∷◌, length, get_or, Some, sym, subst, ◌∙◌, ◌⊎◌, inl, inr, arith}
use Rattle.std.specs.Prelude.{slice_get, IsTrue}
use Rattle.std.proofs.lemmas.Bool.{cases_lt}
use Rattle.std.proofs.lemmas.Option.{slice_get-get_or}
use Rattle.wv_base.specs.declared.class_file.Member.{Member}
use Rattle.wv_pool.proofs.Behind.{some_is}
use Rattle.wv_class.specs.Limits.{HasLong, SomeHasLong}

-- none of the first members has one
abbrev pub NoneHasLong : List Member → ℕ → Type 0
NoneHasLong members i = (k : ℕ) (m : Member) → k < i → slice_get members k ≡ Some m → HasLong m → ⊥

module _ (members : List Member) (i : ℕ) (m : Member) (within : i < length members) (is : m ≡ get_or members i m) where
  found : slice_get members i ≡ Some m
  found = rw is (slice_get-get_or members i m within)

  pub some_long : HasLong m → SomeHasLong members
  some_long h = (i, m, found, h)

  pub none_more : NoneHasLong members i → (HasLong m → ⊥) → NoneHasLong members (i + 1)
  none_more before not k n lt e h = elim (cases_lt k i) [
    | inl less ↦ before k n less e h
    | inr more ↦
        let here : k ≡ i = omega arith in
        not (subst HasLong (some_is n m (sym e ∙ subst (λ (j : ℕ). slice_get members j ≡ Some m) (sym here) found)) h)
  ]

get_within : (members : List Member) (k : ℕ) (m : Member) → slice_get members k ≡ Some m → k < length members
get_within [] k m e = absurd cc
get_within (n ∷ members) zero m e = omega arith
get_within (n ∷ members) (suc k) m e = omega (arith, get_within members k m e)

pub none_long : (members : List Member) (i : ℕ) → length members ≤ i → NoneHasLong members i → SomeHasLong members → ⊥
none_long members i all none (k, m, e, h) = none k m (omega (arith, all, get_within members k m e)) e h

pub never : IsTrue false → ⊥
never e = absurd cc
