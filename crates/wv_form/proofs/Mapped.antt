-- What is among the elements that a list is mapped to.
use Rattle.std.proofs.Common.{◌≡◌, inl, inr, List, [], ◌∷◌, ◌++◌, map, flat_map, Contains, sym, subst, arith}
use Rattle.std.proofs.lemmas.List.Concat.{flat_map-cons}
use Rattle.std.proofs.lemmas.List.Elements.{Contains-append_left, Contains-append_right, Contains-append_cases}
use Rattle.wv_resolve.proofs.OneMods.{contains-cases, contains-head, contains-later}

module _ {A B : Type 0} (f : A → B) where
  pub mapped-contains : (xs : List A) (x : A) → Contains xs x → Contains (map f xs) (f x)
  mapped-contains [] x (k, inside, at) = absurd (omega arith)
  mapped-contains (w ∷ xs) x found = elim (contains-cases w xs x found) [
    | inl same ↦ subst (λ (z : A). Contains (f w ∷ map f xs) (f z)) same (contains-head (f w) (map f xs))
    | inr later ↦ contains-later (f w) (map f xs) (f x) (mapped-contains xs x later)
  ]

  pub contains-mapped : (xs : List A) (y : B) → Contains (map f xs) y → (x : A) × Contains xs x × (f x ≡ y)
  contains-mapped [] y (k, inside, at) = absurd (omega arith)
  contains-mapped (w ∷ xs) y found = elim (contains-cases (f w) (map f xs) y found) [
    | inl same ↦ (w, contains-head w xs, same)
    | inr later ↦
        let behind = contains-mapped xs y later in
        (behind.0, contains-later w xs behind.0 behind.1, behind.2)
  ]

module _ {A B : Type 0} (f : A → List B) where
  pub flat-contains : (xs : List A) (x : A) (y : B) → Contains xs x → Contains (f x) y → Contains (flat_map f xs) y
  flat-contains [] x y (k, inside, at) here = absurd (omega arith)
  flat-contains (w ∷ xs) x y found here =
      subst (λ (ys : List B). Contains ys y) (sym (flat_map-cons f w xs)) (elim (contains-cases w xs x found) [
        | inl same ↦ Contains-append_left (f w) (flat_map f xs) y (subst (λ (z : A). Contains (f z) y) (sym same) here)
        | inr later ↦ Contains-append_right (f w) (flat_map f xs) y (flat-contains xs x y later here)
      ])

  pub contains-flat : (xs : List A) (y : B) → Contains (flat_map f xs) y → (x : A) × Contains xs x × Contains (f x) y
  contains-flat [] y (k, inside, at) = absurd (omega arith)
  contains-flat (w ∷ xs) y found = elim (Contains-append_cases (f w) (flat_map f xs) y (subst (λ (ys : List B). Contains ys y) (flat_map-cons f w xs) found)) [
    | inl here ↦ (w, contains-head w xs, here)
    | inr later ↦
        let behind = contains-flat xs y later in
        (behind.0, contains-later w xs behind.0 behind.1, behind.2)
  ]
