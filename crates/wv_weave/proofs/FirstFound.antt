-- What is found first in a list.
use Rattle.std.proofs.Common.{◌≡◌, inl, inr, ℕ, Bool, true, false, true≢false, List, [], ◌∷◌, Contains, Option, Some, None, cond, refl, ap, sym, ◌∙◌, subst, arith}
use Rattle.std.specs.List.{find}
use Rattle.wv_resolve.proofs.OneMods.{contains-cases, contains-head, contains-later}

module _ {A : Type 0} (test : A → Bool) where
  pub found-none : (xs : List A) → ((x : A) → Contains xs x → test x ≡ true → ⊥) → find test xs ≡ None
  found-none [] fails = refl
  found-none (x ∷ xs) fails = by (found-none xs (λ y there. fails y (contains-later x xs y there))) (test x) refl
    where
      by : find test xs ≡ None → (t : Bool) → test x ≡ t → find test (x ∷ xs) ≡ None
      by tail true e = absurd (fails x (contains-head x xs) e)
      by tail false e = ap (λ t. cond t (Some x) (find test xs)) e ∙ tail

  -- where one passes, and each that passes is this one
  pub found-some : (xs : List A) (x z : A) → Contains xs x → test x ≡ true → ((y : A) → Contains xs y → test y ≡ true → y ≡ z) → find test xs ≡ Some z
  found-some [] x z (k, inside, at) passes one = absurd (omega arith)
  found-some (y ∷ xs) x z there passes one = by (λ later. found-some xs x z later passes (λ w inside. one w (contains-later y xs w inside))) (test y) refl
    where
      behind : test y ≡ false → Contains xs x
      behind e = elim (contains-cases y xs x there) [
        | inl same ↦ absurd (true≢false (sym passes ∙ ap test (sym same) ∙ e))
        | inr later ↦ later
      ]

      by : (Contains xs x → find test xs ≡ Some z) → (t : Bool) → test y ≡ t → find test (y ∷ xs) ≡ Some z
      by tail true e = ap (λ t. cond t (Some y) (find test xs)) e ∙ ap (λ w. Some w) (one y (contains-head y xs) e)
      by tail false e = ap (λ t. cond t (Some y) (find test xs)) e ∙ tail (behind e)
