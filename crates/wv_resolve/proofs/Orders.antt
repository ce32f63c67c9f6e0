-- A list has one stable order.
use Rattle.std.proofs.Common.{◌≡◌, ℕ, suc, Bool, true, false, not, ◌&&◌, List, [], ◌∷◌, filter, Contains, arith, refl, ap, sym, ◌∙◌, subst, true≢false, add-one, inl, inr}
use Rattle.std.specs.Cmp.{IsStrictWeakOrder}
use Rattle.std.specs.Cmp.Lexicographic.{slice_cmp}
use Rattle.std.specs.Ordering.{nat_cmp, is_lt}
use Rattle.std.specs.List.Sorted.{IsSortedBy, ties}
use Rattle.std.proofs.lemmas.Bool.{cases_Bool}
use Rattle.std.proofs.lemmas.Cmp.{nat_list_cmp_total}
use Rattle.std.proofs.lemmas.List.Sorted.{ranks_by, sorted_far}
use Rattle.wv_resolve.specs.Resolution.{IsOrderedBy}

pub filter-here : {A : Type 0} (p : A → Bool) (x : A) (xs : List A) → p x ≡ true → filter p (x ∷ xs) ≡ x ∷ filter p xs
filter-here p x xs e = rw e

pub filter-skip : {A : Type 0} (p : A → Bool) (x : A) (xs : List A) → p x ≡ false → filter p (x ∷ xs) ≡ filter p xs
filter-skip p x xs e = rw e

same-head : {A : Type 0} (x y : A) (xs ys : List A) → x ∷ xs ≡ y ∷ ys → x ≡ y
same-head x y xs ys e = cc

same-tail : {A : Type 0} (x y : A) (xs ys : List A) → x ∷ xs ≡ y ∷ ys → xs ≡ ys
same-tail x y xs ys e = cc

no-head : {A : Type 0} (x : A) (xs : List A) → [] ≡ x ∷ xs → ⊥
no-head x xs e = cc

-- what a filter leaves is of the list
in-filter : {A : Type 0} (p : A → Bool) (x : A) (rest ys : List A) → filter p ys ≡ x ∷ rest → Contains ys x
in-filter p x rest [] e = absurd (no-head x rest e)
in-filter p x rest (z ∷ ys) e = elim (cases_Bool (p z)) [
  | inl passes ↦ (0, omega arith, same-head z x (filter p ys) rest (sym (filter-here p z ys passes) ∙ e))
  | inr fails ↦ later (in-filter p x rest ys (sym (filter-skip p z ys fails) ∙ e))
]
  where
    later : Contains ys x → Contains (z ∷ ys) x
    later (k, inside, at) = (suc k, omega arith, at)

both : (a b : Bool) → a ≡ false → b ≡ false → (not a && not b) ≡ true
both true b e f = absurd (true≢false e)
both false true e f = absurd (true≢false f)
both false false e f = refl

not-below-itself : {A : Type 0} (lt : A → A → Bool) → IsStrictWeakOrder lt → (x : A) → lt x x ≡ false
not-below-itself lt weak x = elim (cases_Bool (lt x x)) [ inl e ↦ weak.one_way x x e | inr e ↦ e ]

ties-itself : {A : Type 0} (lt : A → A → Bool) → IsStrictWeakOrder lt → (x : A) → ties lt x x ≡ true
ties-itself lt weak x = both (lt x x) (lt x x) (not-below-itself lt weak x) (not-below-itself lt weak x)

sorted-tail : {A : Type 0} (lt : A → A → Bool) (x : A) (xs : List A) → IsSortedBy lt (x ∷ xs) → IsSortedBy lt xs
sorted-tail lt x xs sorted = λ k d p q. rw add-one (rw add-one at (sorted (suc k) d (omega arith) (omega arith)))

-- nothing of a sorted list is below its head
not-below-head : {A : Type 0} (lt : A → A → Bool) → IsStrictWeakOrder lt → (y : A) (ys : List A) (x : A) → IsSortedBy lt (y ∷ ys) → Contains (y ∷ ys) x → lt x y ≡ false
not-below-head {A} lt weak y ys x sorted (k, inside, at) = subst (λ (z : A). lt z y ≡ false) at (sorted_far lt weak (y ∷ ys) sorted 0 k x (omega arith) inside)

-- of sorted lists with the same elements of each key, in one order, one is the other
same-sorted : {A : Type 0} (lt : A → A → Bool) → IsStrictWeakOrder lt → (xs ys : List A) → IsSortedBy lt xs → IsSortedBy lt ys → ((z : A) → filter (ties lt z) xs ≡ filter (ties lt z) ys) → xs ≡ ys
same-sorted lt weak [] [] up up' same = refl
same-sorted lt weak [] (y ∷ ys) up up' same = absurd (no-head y _ (same y ∙ filter-here (ties lt y) y ys (ties-itself lt weak y)))
same-sorted lt weak (x ∷ xs) [] up up' same = absurd (no-head x _ (sym (same x) ∙ filter-here (ties lt x) x xs (ties-itself lt weak x)))
same-sorted {A} lt weak (x ∷ xs) (y ∷ ys) up up' same = ap (λ zs. x ∷ zs) (same-sorted lt weak xs ys (sorted-tail lt x xs up) (sorted-tail lt y ys up') tails) ∙ ap (λ z. z ∷ ys) heads
  where
    x-within : Contains (y ∷ ys) x
    x-within = in-filter (ties lt x) x (filter (ties lt x) xs) (y ∷ ys) (sym (same x) ∙ filter-here (ties lt x) x xs (ties-itself lt weak x))

    y-within : Contains (x ∷ xs) y
    y-within = in-filter (ties lt y) y (filter (ties lt y) ys) (x ∷ xs) (same y ∙ filter-here (ties lt y) y ys (ties-itself lt weak y))

    tied : ties lt x y ≡ true
    tied = both (lt x y) (lt y x) (not-below-head lt weak y ys x up' x-within) (not-below-head lt weak x xs y up y-within)

    heads : x ≡ y
    heads = same-head x y (filter (ties lt x) xs) (filter (ties lt x) ys) (sym (filter-here (ties lt x) x xs (ties-itself lt weak x)) ∙ same x ∙ filter-here (ties lt x) y ys tied)

    moved : (z : A) → filter (ties lt z) (x ∷ xs) ≡ filter (ties lt z) (x ∷ ys)
    moved z = same z ∙ ap (λ w. filter (ties lt z) (w ∷ ys)) (sym heads)

    tails : (z : A) → filter (ties lt z) xs ≡ filter (ties lt z) ys
    tails z = elim (cases_Bool (ties lt z x)) [
      | inl e ↦ same-tail x x (filter (ties lt z) xs) (filter (ties lt z) ys) (sym (filter-here (ties lt z) x xs e) ∙ moved z ∙ filter-here (ties lt z) x ys e)
      | inr e ↦ sym (filter-skip (ties lt z) x xs e) ∙ moved z ∙ filter-skip (ties lt z) x ys e
    ]

pub one-order : {A : Type 0} (key : A → List ℕ) (list xs ys : List A) → IsOrderedBy key list xs → IsOrderedBy key list ys → xs ≡ ys
one-order key list xs ys h k = same-sorted (λ a b. is_lt (slice_cmp nat_cmp (key a) (key b))) (ranks_by nat_list_cmp_total key) xs ys h.ordered k.ordered (λ z. h.stable z ∙ sym (k.stable z))
