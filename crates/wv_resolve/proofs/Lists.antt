-- Lists that are gone over in turn.
use Rattle.std.proofs.Common.{◌≡◌, inl, inr, ℕ, ◌+◌, ◌<◌, List, [], ◌∷◌, ◌++◌, length, get_or, take, drop, map, flat_map, All, Any, AllPairs, Option, Some, None, MatchOption, ap, sym, ◌∙◌, subst, arith, length-append, length-take}
use Rattle.std.specs.List.{AllByRecursion}
use Rattle.std.proofs.lemmas.Bool.{cases_order}
use Rattle.std.proofs.lemmas.Grind.{flat_map-append}
use Rattle.std.proofs.lemmas.List.{take_more, take-append-drop, get_or_default, get_or-take, get_or_append_left, append-nil}
use Rattle.std.proofs.lemmas.List.Concat.{flat_map-cons}

-- one more of the front
pub front-more : {A : Type 0} (list : List A) (i : ℕ) (x : A) → i < length list → x ≡ get_or list i x → take (i + 1) list ≡ take i list ++ x ∷ []
front-more list i x inside at = take_more list i x inside ∙ ap (λ w. take i list ++ w ∷ []) (sym at)

-- what the front is mapped to, with one more
pub flat-more : {A B : Type 0} (f : A → List B) (list : List A) (i : ℕ) (x : A) → i < length list → x ≡ get_or list i x → flat_map f (take (i + 1) list) ≡ flat_map f (take i list) ++ f x
flat-more f list i x inside at = ap (flat_map f) (front-more list i x inside at) ∙ flat_map-append f (take i list) (x ∷ []) ∙ ap (λ ys. flat_map f (take i list) ++ ys) (flat_map-cons f x [] ∙ append-nil (f x))

-- what a list is mapped to, cut at a place
pub flat-cut : {A B : Type 0} (f : A → List B) (list : List A) (i : ℕ) (x : A) → i < length list → x ≡ get_or list i x → flat_map f list ≡ (flat_map f (take i list) ++ f x) ++ flat_map f (drop (i + 1) list)
flat-cut f list i x inside at = ap (flat_map f) (sym (take-append-drop (i + 1) list)) ∙ flat_map-append f (take (i + 1) list) (drop (i + 1) list) ∙ ap (λ ys. ys ++ flat_map f (drop (i + 1) list)) (flat-more f list i x inside at)

pub each-append : {A : Type 0} (Has : A → Type 0) (xs ys : List A) → AllByRecursion Has xs → AllByRecursion Has ys → AllByRecursion Has (xs ++ ys)
each-append Has [] ys h k = k
each-append Has (x ∷ xs) ys h k = (h.0, each-append Has xs ys h.1 k)

-- one more that has the property
pub each-more : {A : Type 0} (Has : A → Type 0) (list : List A) (i : ℕ) (x : A) → i < length list → x ≡ get_or list i x → AllByRecursion Has (take i list) → Has x → AllByRecursion Has (take (i + 1) list)
each-more Has list i x inside at h one = subst (AllByRecursion Has) (sym (front-more list i x inside at)) (each-append Has (take i list) (x ∷ []) h (one, tt))

pub each-map : {A B : Type 0} (Has : B → Type 0) (f : A → B) (xs : List A) → AllByRecursion (λ x. Has (f x)) xs → AllByRecursion Has (map f xs)
each-map Has f [] h = tt
each-map Has f (x ∷ xs) h = (h.0, each-map Has f xs h.1)

pub any-append : {A : Type 0} (P : A → Type 0) (xs ys : List A) → Any P xs → Any P (xs ++ ys)
any-append P xs ys (k, x, lt, at, h) = (k, x, (omega (arith, length-append xs ys)), (get_or_append_left xs ys x k lt ∙ at), h)

pub match-weaker : {A P P' : Type 0} (Q Q' : A → Type 0) (o : Option A) → (P → P') → ((x : A) → Q x → Q' x) → MatchOption o P Q → MatchOption o P' Q'
match-weaker Q Q' None f g h = f h
match-weaker Q Q' (Some x) f g h = g x h

-- of two that no pair of the list tells apart, one is the other
pub same-of-pairs : {A : Type 0} (R : A → A → Type 0) (xs : List A) → AllPairs R xs → (i j : ℕ) (x y : A) → i < length xs → j < length xs → get_or xs i x ≡ x → get_or xs j y ≡ y → (R x y → ⊥) → (R y x → ⊥) → x ≡ y
same-of-pairs {A} R xs pairs i j x y in_i in_j at_i at_j no_xy no_yx = elim (cases_order i j) [
  | inl same ↦ sym at_i ∙ get_or_default xs i x y in_i ∙ ap (λ k. get_or xs k y) same ∙ at_j
  | inr (inl below) ↦ absurd (no_xy (subst (λ (a : A). R a y) at_i (subst (λ (b : A). R (get_or xs i x) b) (get_or_default xs j x y in_j ∙ at_j) (pairs i j x below in_j))))
  | inr (inr above) ↦ absurd (no_yx (subst (λ (a : A). R a x) at_j (subst (λ (b : A). R (get_or xs j y) b) (get_or_default xs i y x in_i ∙ at_i) (pairs j i y above in_i))))
]

-- where each stands so to all later ones, those before a place stand so to the one there
pub all-before : {A : Type 0} (R : A → A → Type 0) (xs : List A) (i : ℕ) (x : A) → AllPairs R xs → i < length xs → x ≡ get_or xs i x → All (λ y. R y x) (take i xs)
all-before {A} R xs i x pairs inside at k d below =
    let early : k < i = omega (arith, length-take i xs) in
    subst (λ (y : A). R y x) (sym (get_or-take i xs k d early))
    (subst (R (get_or xs k d)) (get_or_default xs i d x inside ∙ sym at) (pairs k i d early inside))
