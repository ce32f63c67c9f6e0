-- The least of several sets of places.
use Rattle.std.proofs.Common.{◌≡◌, ℕ, zero, suc, ◌+◌, ◌<◌, ◌≤◌, ◌↔◌, min, Bool, true, false, List, [], ◌∷◌, length, get_or, take, Option, Some, None, refl, sym, subst, ◌∙◌, arith, inl, inr, ◌⊎◌}
use Rattle.std.specs.Prelude.{slice_get, IsTrue}
use Rattle.std.proofs.lemmas.Bool.{cases_lt}
use Rattle.std.proofs.lemmas.List.{take_all}
use Rattle.std.proofs.lemmas.Option.{none-some, slice_get-get_or, get_or_from_slice_get}
use Rattle.wv_code.specs.Least.{IsLeastOf, lesser, unless, Broken, InItems}

pub none_of : {P : ℕ → Type 0} → ((n : ℕ) → P n → ⊥) → IsLeastOf P None
none_of h = record { holds = tt; least = λ n p. h n p }

-- sets with the same numbers
pub same : {P Q : ℕ → Type 0} {o : Option ℕ} → ((n : ℕ) → P n → Q n) → ((n : ℕ) → Q n → P n) → IsLeastOf P o → IsLeastOf Q o
same {o = None} f g h = record { holds = tt; least = λ n q. h.least n (g n q) }
same {o = Some a} f g h = record { holds = f a h.holds; least = λ n q. h.least n (g n q) }

lesser_there : (P Q : ℕ → Type 0) (a b : ℕ) → P a → Q b → P (min a b) ⊎ Q (min a b)
lesser_there P Q a b p q = elim (cases_lt b a) [
  | inl lt ↦ let e : b ≡ min a b = omega arith in inr (subst Q e q)
  | inr le ↦ let e : a ≡ min a b = omega arith in inl (subst P e p)
]

both_least : {P Q : ℕ → Type 0} {a b : Option ℕ} → IsLeastOf P a → IsLeastOf Q b → IsLeastOf (λ n. P n ⊎ Q n) (lesser a b)
both_least {a = None} {b = None} h k = record { holds = tt; least = λ n e. elim e [ inl p ↦ h.least n p | inr q ↦ k.least n q ] }
both_least {a = None} {b = Some b} h k = record { holds = inr k.holds; least = λ n e. elim e [ inl p ↦ absurd (h.least n p) | inr q ↦ k.least n q ] }
both_least {a = Some a} {b = None} h k = record { holds = inl h.holds; least = λ n e. elim e [ inl p ↦ h.least n p | inr q ↦ absurd (k.least n q) ] }
both_least {P = P} {Q = Q} {a = Some a} {b = Some b} h k = record {
  holds = lesser_there P Q a b h.holds k.holds;
  least = λ n e. elim e [ inl p ↦ omega (arith, h.least n p) | inr q ↦ omega (arith, k.least n q) ];
}

-- two sets together
pub either : {P Q : ℕ → Type 0} {a b o : Option ℕ} → o ≡ lesser a b → IsLeastOf P a → IsLeastOf Q b → IsLeastOf (λ n. P n ⊎ Q n) o
either {P = P} {Q = Q} e h k = subst (IsLeastOf (λ n. P n ⊎ Q n)) (sym e) (both_least h k)

asked_there : (A : Type 0) (b : Bool) (place : ℕ) → IsTrue b ↔ A → IsLeastOf (Broken A place) (unless b place)
asked_there A true place h = none_of (λ n k. k.1 (h.0 refl))
asked_there A false place h = record { holds = (refl, λ a. let never : false ≡ true = h.1 a in absurd cc); least = λ n k. omega (arith, k.0) }

-- one place
pub asked : (A : Type 0) {b : Bool} {place : ℕ} {o : Option ℕ} → o ≡ unless b place → IsTrue b ↔ A → IsLeastOf (Broken A place) o
asked A {b = b} {place = place} e h = subst (IsLeastOf (Broken A place)) (sym e) (asked_there A b place h)

-- a place that is broken
pub broken_at : (A : Type 0) (place : ℕ) → (A → ⊥) → IsLeastOf (Broken A place) (Some place)
broken_at A place h = record { holds = (refl, h); least = λ n k. omega (arith, k.0) }

-- ---- the items of a list

pub taken_front : {X : Type 0} (xs : List X) (i k : ℕ) → k < i → slice_get (take i xs) k ≡ slice_get xs k
taken_front [] zero k lt = refl
taken_front [] (suc i) k lt = refl
taken_front (x ∷ xs) zero k lt = absurd (omega arith)
taken_front (x ∷ xs) (suc i) zero lt = refl
taken_front (x ∷ xs) (suc i) (suc k) lt = taken_front xs i k (omega arith)

pub taken_within : {X : Type 0} (xs : List X) (i k : ℕ) (x : X) → slice_get (take i xs) k ≡ Some x → k < i
taken_within [] zero k x e = absurd (none-some x e)
taken_within [] (suc i) k x e = absurd (none-some x e)
taken_within (y ∷ xs) zero k x e = absurd (none-some x e)
taken_within (y ∷ xs) (suc i) zero x e = omega arith
taken_within (y ∷ xs) (suc i) (suc k) x e = let below : k < i = taken_within xs i k x e in omega arith

pub items_none : {X : Type 0} (P : ℕ → X → ℕ → Type 0) → IsLeastOf (InItems [] P) None
items_none P = none_of (λ n h. none-some h.1 h.2)

pub items_more : {X : Type 0} (P : ℕ → X → ℕ → Type 0) (xs : List X) (i : ℕ) (d : X) {a b o : Option ℕ} → i < length xs → o ≡ lesser a b → IsLeastOf (InItems (take i xs) P) a → IsLeastOf (P i (get_or xs i d)) b → IsLeastOf (InItems (take (i + 1) xs) P) o
items_more {X = X} P xs i d lt e h k = same (λ n q. to n q) (λ n q. from n q) (either e h k)
  where
    here : slice_get xs i ≡ Some (get_or xs i d)
    here = slice_get-get_or xs i d lt

    to : (n : ℕ) → InItems (take i xs) P n ⊎ P i (get_or xs i d) n → InItems (take (i + 1) xs) P n
    to n (inl q) = (
      q.0,
      q.1,
      (let below : q.0 < i = taken_within xs i q.0 q.1 q.2 in taken_front xs (i + 1) q.0 (omega arith) ∙ sym (taken_front xs i q.0 below) ∙ q.2),
      q.3,
    )
    to n (inr q) = (i, get_or xs i d, taken_front xs (i + 1) i (omega arith) ∙ here, q)

    last : (n k : ℕ) (x : X) → k ≡ i → slice_get (take (i + 1) xs) k ≡ Some x → P k x n → InItems (take i xs) P n ⊎ P i (get_or xs i d) n
    last n k x e is p =
        let there : slice_get xs i ≡ Some x = sym (taken_front xs (i + 1) i (omega arith)) ∙ subst (λ (z : ℕ). slice_get (take (i + 1) xs) z ≡ Some x) e is in
        let one : x ≡ get_or xs i d = sym (get_or_from_slice_get xs i x d there) in
        inr (subst (λ z. P i z n) one (subst (λ (z : ℕ). P z x n) e p))

    from : (n : ℕ) → InItems (take (i + 1) xs) P n → InItems (take i xs) P n ⊎ P i (get_or xs i d) n
    from n q = elim (cases_lt q.0 i) [
      | inl lt ↦ inl (q.0, q.1, (taken_front xs i q.0 lt ∙ sym (taken_front xs (i + 1) q.0 (omega arith)) ∙ q.2), q.3)
      | inr le ↦ let within : q.0 < i + 1 = taken_within xs (i + 1) q.0 q.1 q.2 in let e : q.0 ≡ i = omega arith in last n q.0 q.1 e q.2 q.3
    ]

pub items_all : {X : Type 0} (P : ℕ → X → ℕ → Type 0) (xs : List X) (i : ℕ) {o : Option ℕ} → length xs ≤ i → IsLeastOf (InItems (take i xs) P) o → IsLeastOf (InItems xs P) o
items_all P xs i {o = o} le h = subst (λ zs. IsLeastOf (InItems zs P) o) (take_all i xs le) h
