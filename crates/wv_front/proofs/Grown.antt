-- Lists that grow by just what has a property.
use Rattle.std.proofs.Common.{◌≡◌, ◌↔◌, ◌⊎◌, inl, inr, ℕ, ◌+◌, ◌-◌, ◌<◌, ◌≤◌, List, [], ◌∷◌, ◌++◌, length, get_or, Contains, refl, ap, sym, ◌∙◌, subst, arith, length-append}
use Rattle.std.proofs.lemmas.Bool.{cases_lt}
use Rattle.std.proofs.lemmas.List.{get_or_default, get_or_append_left, get_or-append_right, get_or-append-add}
use Rattle.std.proofs.lemmas.List.Elements.{Contains-push, Contains-push_cases, Contains-append_left}
use Rattle.wv_front.specs.MixinOrder.{StandsAt}
use Rattle.wv_front.specs.Naming.{Grows, IsOfSome, IsOfFront}

-- one element stands at a place
pub stands-one : {A : Type 0} (list : List A) (j k : ℕ) (x y : A) → j ≡ k → StandsAt list j x → StandsAt list k y → x ≡ y
stands-one list j k x y same h g = sym h.1 ∙ get_or_default list j x y h.0 ∙ ap (λ i. get_or list i y) same ∙ g.1

module _ {A : Type 0} where
  pub grows-not : (xs : List A) (P : A → Type 0) → ((x : A) → P x → ⊥) → Grows xs xs P
  grows-not xs P none x = (λ h. inl h, from)
    where
      from : Contains xs x ⊎ P x → Contains xs x
      from (inl h) = h
      from (inr p) = absurd (none x p)

  pub grows-push : (xs : List A) (y : A) (P : A → Type 0) → P y → ((x : A) → P x → x ≡ y) → Grows xs (xs ++ y ∷ []) P
  grows-push xs y P here one x = (into, from)
    where
      into : Contains (xs ++ y ∷ []) x → Contains xs x ⊎ P x
      into h = elim (Contains-push_cases xs y x h) [
        | inl old ↦ inl old
        | inr same ↦ inr (subst P same here)
      ]

      from : Contains xs x ⊎ P x → Contains (xs ++ y ∷ []) x
      from (inl old) = Contains-append_left xs (y ∷ []) x old
      from (inr p) = subst (Contains (xs ++ y ∷ [])) (sym (one x p)) (Contains-push xs y)

  pub grows-both : (xs ys zs : List A) (P Q R : A → Type 0) → Grows xs ys P → Grows ys zs Q → ((x : A) → R x ↔ (P x ⊎ Q x)) → Grows xs zs R
  grows-both xs ys zs P Q R g h is x = (into, from)
    where
      into : Contains zs x → Contains xs x ⊎ R x
      into there = elim ((h x).0 there) [
        | inl mid ↦ elim ((g x).0 mid) [
          | inl old ↦ inl old
          | inr p ↦ inr ((is x).1 (inl p))
        ]
        | inr q ↦ inr ((is x).1 (inr q))
      ]

      from : Contains xs x ⊎ R x → Contains zs x
      from (inl old) = (h x).1 (inl ((g x).1 (inl old)))
      from (inr r) = elim ((is x).0 r) [
        | inl p ↦ (h x).1 (inl ((g x).1 (inr p)))
        | inr q ↦ (h x).1 (inr q)
      ]

  pub grows-same : (xs ys : List A) (P Q : A → Type 0) → ((x : A) → Q x ↔ P x) → Grows xs ys P → Grows xs ys Q
  grows-same xs ys P Q is g x = (into, from)
    where
      into : Contains ys x → Contains xs x ⊎ Q x
      into h = elim ((g x).0 h) [
        | inl old ↦ inl old
        | inr p ↦ inr ((is x).1 p)
      ]

      from : Contains xs x ⊎ Q x → Contains ys x
      from (inl old) = (g x).1 (inl old)
      from (inr q) = (g x).1 (inr ((is x).0 q))

module _ {A B : Type 0} (IsOf : ℕ → A → B → Type 0) (list : List A) where
  -- of no element at first
  pub front-none : (xs : List B) → Grows xs xs (IsOfFront IsOf list 0)
  front-none xs = grows-not xs (IsOfFront IsOf list 0) (λ y (k, x, below, stands, is). omega arith)

  -- of one element more
  front-cases : (i : ℕ) (x : A) → i < length list → x ≡ get_or list i x → (y : B) → IsOfFront IsOf list (i + 1) y ↔ (IsOfFront IsOf list i y ⊎ IsOf i x y)
  front-cases i x inside at y = (into, from)
    where
      into : IsOfFront IsOf list (i + 1) y → IsOfFront IsOf list i y ⊎ IsOf i x y
      into (k, z, below, stands, is) = elim (cases_lt k i) [
        | inl lt ↦ inl (k, z, lt, stands, is)
        | inr ge ↦
            let last : k ≡ i = omega arith in
            inr (subst (λ (n : ℕ). IsOf n x y) last (subst (λ (w : A). IsOf k w y) (stands-one list k i z x last stands (inside, sym at)) is))
      ]

      from : IsOfFront IsOf list i y ⊎ IsOf i x y → IsOfFront IsOf list (i + 1) y
      from (inl (k, z, below, stands, is)) = (k, z, omega arith, stands, is)
      from (inr is) = (i, x, omega arith, (inside, sym at), is)

  pub front-more : (xs ys zs : List B) (i : ℕ) (x : A) → i < length list → x ≡ get_or list i x → Grows xs ys (IsOfFront IsOf list i) → Grows ys zs (IsOf i x) → Grows xs zs (IsOfFront IsOf list (i + 1))
  front-more xs ys zs i x inside at g h = grows-both xs ys zs (IsOfFront IsOf list i) (IsOf i x) (IsOfFront IsOf list (i + 1)) g h (front-cases i x inside at)

  pub front-all : (xs ys : List B) (i : ℕ) → length list ≤ i → Grows xs ys (IsOfFront IsOf list i) → Grows xs ys (IsOfSome IsOf list)
  front-all xs ys i past g = grows-same xs ys (IsOfFront IsOf list i) (IsOfSome IsOf list) is g
    where
      is : (y : B) → IsOfSome IsOf list y ↔ IsOfFront IsOf list i y
      is y = (λ (k, x, stands, of). (k, x, (let within = stands.0 in omega arith), stands, of), λ (k, x, below, stands, of). (k, x, stands, of))

-- of one list behind the other
pub of-append : {A B : Type 0} (IsOf : ℕ → A → B → Type 0) (xs ys : List A) (y : B) → IsOfSome IsOf (xs ++ ys) y ↔ (IsOfSome (λ k. IsOf (0 + k)) xs y ⊎ IsOfSome (λ k. IsOf (length xs + k)) ys y)
of-append {A} {B} IsOf xs ys y = (into, from)
  where
    into : IsOfSome IsOf (xs ++ ys) y → IsOfSome (λ k. IsOf (0 + k)) xs y ⊎ IsOfSome (λ k. IsOf (length xs + k)) ys y
    into (k, x, (inside, at), is) = elim (cases_lt k (length xs)) [
      | inl lt ↦
          let same : k ≡ 0 + k = omega arith in
          inl (k, x, (lt, sym (get_or_append_left xs ys x k lt) ∙ at), subst (λ (n : ℕ). IsOf n x y) same is)
      | inr ge ↦
          let back : k ≡ length xs + (k - length xs) = omega arith in
          let within : k - length xs < length ys = omega (arith, length-append xs ys) in
          inr (k - length xs, x, (within, sym (get_or-append_right xs ys (length xs) k x refl ge) ∙ at), subst (λ (n : ℕ). IsOf n x y) back is)
    ]

    from : IsOfSome (λ k. IsOf (0 + k)) xs y ⊎ IsOfSome (λ k. IsOf (length xs + k)) ys y → IsOfSome IsOf (xs ++ ys) y
    from (inl (k, x, (inside, at), is)) =
        let same : 0 + k ≡ k = omega arith in
        (k, x, ((omega (arith, length-append xs ys)), get_or_append_left xs ys x k inside ∙ at), subst (λ (n : ℕ). IsOf n x y) same is)
    from (inr (k, x, (inside, at), is)) =
        (length xs + k, x, ((omega (arith, length-append xs ys)), get_or-append-add xs ys k x ∙ at), is)
