-- The order by the first place of difference.
use Rattle.std.proofs.Common.{◌≡◌, ◌⊎◌, inl, inr, ℕ, zero, suc, ◌<◌, List, [], ◌∷◌, Option, Some, None, slice_get, refl, ap, sym, ◌∙◌, subst, arith}
use Rattle.std.specs.declared.cmp.Ordering.{Ordering}
use Rattle.std.specs.declared.cmp.Ordering.TheVariants.{Less, Equal, Greater}
use Rattle.std.specs.Ordering.{MatchOrdering, nat_cmp, ordering_then}
use Rattle.std.specs.Cmp.Lexicographic.{slice_cmp}
use Rattle.std.proofs.lemmas.Cmp.{ranked}
use Rattle.wv_version.specs.Order.{IsFirstLower, IsPlaceLower, IsListLower}

-- a strict order whose incomparable items are equal
pub record IsStrict {A : Type 0} (Lower : A → A → Type 0) : Type 0 where
  pub apart : (x : A) → Lower x x → ⊥
  pub step : (x y z : A) → Lower x y → Lower y z → Lower x z

-- one of two numbers is lower, or they are one
which : (i j : ℕ) → (i < j) ⊎ ((i ≡ j) ⊎ (j < i))
which zero zero = inr (inl refl)
which zero (suc j) = inl (omega arith)
which (suc i) zero = inr (inr (omega arith))
which (suc i) (suc j) = elim (which i j) [ inl h ↦ inl (omega arith) | inr k ↦ elim k [ inl e ↦ inr (inl (ap suc e)) | inr h ↦ inr (inr (omega arith)) ] ]

pub IsFirstLower-apart : {A : Type 0} (Lower : A → A → Type 0) → IsStrict Lower → (f g : ℕ → A) → ((i : ℕ) → f i ≡ g i) → IsFirstLower Lower f g → ⊥
IsFirstLower-apart Lower strict f g same h =
    strict.apart (g h.place) (subst (λ x. Lower x (g h.place)) (same h.place) h.lower)

pub IsFirstLower-step : {A : Type 0} (Lower : A → A → Type 0) → IsStrict Lower → (f g h : ℕ → A) → IsFirstLower Lower f g → IsFirstLower Lower g h → IsFirstLower Lower f h
IsFirstLower-step Lower strict f g h a b = elim (which a.place b.place) [
  | inl low ↦ record {
    place = a.place;
    before = λ i below. a.before i below ∙ b.before i (omega arith);
    lower = subst (λ x. Lower (f a.place) x) (b.before a.place low) a.lower;
  }
  | inr k ↦ elim k [
    | inl same ↦ record {
      place = a.place;
      before = λ i below. a.before i below ∙ b.before i (omega arith);
      lower = strict.step (f a.place) (g a.place) (h a.place) a.lower (subst (λ n. Lower (g n) (h n)) (sym same) b.lower);
    }
    | inr low ↦ record {
      place = b.place;
      before = λ i below. a.before i (omega arith) ∙ b.before i below;
      lower = subst (λ x. Lower x (h b.place)) (sym (a.before b.place low)) b.lower;
    }
  ]
]

-- what agrees everywhere may stand for the other
pub IsFirstLower-left : {A : Type 0} (Lower : A → A → Type 0) (f g h : ℕ → A) → ((i : ℕ) → f i ≡ g i) → IsFirstLower Lower g h → IsFirstLower Lower f h
IsFirstLower-left Lower f g h same a = record {
  place = a.place;
  before = λ i below. same i ∙ a.before i below;
  lower = subst (λ x. Lower x (h a.place)) (sym (same a.place)) a.lower;
}

pub IsFirstLower-right : {A : Type 0} (Lower : A → A → Type 0) (f g h : ℕ → A) → ((i : ℕ) → g i ≡ h i) → IsFirstLower Lower f g → IsFirstLower Lower f h
IsFirstLower-right Lower f g h same a = record {
  place = a.place;
  before = λ i below. a.before i below ∙ same i;
  lower = subst (λ x. Lower (f a.place) x) (same a.place) a.lower;
}

-- one place further on
pub IsFirstLower-more : {A : Type 0} (Lower : A → A → Type 0) (f g : ℕ → A) → f 0 ≡ g 0 → IsFirstLower Lower (λ i. f (suc i)) (λ i. g (suc i)) → IsFirstLower Lower f g
IsFirstLower-more Lower f g first a = record {
  place = suc a.place;
  before = later Lower f g first a;
  lower = a.lower;
}
  where
    later : {A : Type 0} (Lower : A → A → Type 0) (f g : ℕ → A) → f 0 ≡ g 0 → (a : IsFirstLower Lower (λ i. f (suc i)) (λ i. g (suc i))) → (i : ℕ) → i < suc a.place → f i ≡ g i
    later Lower f g first a zero below = first
    later Lower f g first a (suc i) below = a.before i (omega arith)

place_strict : {A : Type 0} (Lower : A → A → Type 0) → IsStrict Lower → IsStrict (IsPlaceLower Lower)
place_strict Lower strict = record { apart = apart Lower strict; step = step Lower strict }
  where
    apart : {A : Type 0} (Lower : A → A → Type 0) → IsStrict Lower → (x : Option A) → IsPlaceLower Lower x x → ⊥
    apart Lower strict None h = h
    apart Lower strict (Some x) h = strict.apart x h

    step : {A : Type 0} (Lower : A → A → Type 0) → IsStrict Lower → (x y z : Option A) → IsPlaceLower Lower x y → IsPlaceLower Lower y z → IsPlaceLower Lower x z
    step Lower strict None None z g h = absurd g
    step Lower strict None (Some y) None g h = h
    step Lower strict None (Some y) (Some z) g h = tt
    step Lower strict (Some x) None z g h = absurd g
    step Lower strict (Some x) (Some y) None g h = absurd h
    step Lower strict (Some x) (Some y) (Some z) g h = strict.step x y z g h

pub lists_apart : {A : Type 0} (Lower : A → A → Type 0) → IsStrict Lower → (xs : List A) → IsListLower Lower xs xs → ⊥
lists_apart Lower strict xs h =
    IsFirstLower-apart (IsPlaceLower Lower) (place_strict Lower strict) (slice_get xs) (slice_get xs) (λ i. refl) h

pub lists_strict : {A : Type 0} (Lower : A → A → Type 0) → IsStrict Lower → IsStrict (IsListLower Lower)
lists_strict Lower strict = record {
  apart = lists_apart Lower strict;
  step = λ xs ys zs. IsFirstLower-step (IsPlaceLower Lower) (place_strict Lower strict) (slice_get xs) (slice_get ys) (slice_get zs);
}

pub nat_strict : IsStrict ◌<◌
nat_strict = record { apart = λ x h. omega arith; step = λ x y z g h. omega arith }

-- of two items one is lower, or they are one
abbrev pub Sides : {A : Type 0} → (A → A → Type 0) → A → A → Type 0
Sides Lower x y = Lower x y ⊎ ((x ≡ y) ⊎ Lower y x)

head_lower : {A : Type 0} (Lower : A → A → Type 0) (x y : A) (xs ys : List A) → Lower x y → IsListLower Lower (x ∷ xs) (y ∷ ys)
head_lower Lower x y xs ys h = record { place = 0; before = λ i below. absurd (omega arith); lower = h }

tail_lower : {A : Type 0} (Lower : A → A → Type 0) (x y : A) (xs ys : List A) → x ≡ y → IsListLower Lower xs ys → IsListLower Lower (x ∷ xs) (y ∷ ys)
tail_lower Lower x y xs ys same h = IsFirstLower-more (IsPlaceLower Lower) (slice_get (x ∷ xs)) (slice_get (y ∷ ys)) (ap Some same) h

pub lists_total : {A : Type 0} (Lower : A → A → Type 0) → ((x y : A) → Sides Lower x y) → (xs ys : List A) → Sides (IsListLower Lower) xs ys
lists_total Lower total [] [] = inr (inl refl)
lists_total Lower total [] (y ∷ ys) = inl (record { place = 0; before = λ i below. absurd (omega arith); lower = tt })
lists_total Lower total (x ∷ xs) [] = inr (inr (record { place = 0; before = λ i below. absurd (omega arith); lower = tt }))
lists_total Lower total (x ∷ xs) (y ∷ ys) = elim (total x y) [
  | inl h ↦ inl (head_lower Lower x y xs ys h)
  | inr k ↦ elim k [
    | inl same ↦ elim (lists_total Lower total xs ys) [
      | inl h ↦ inl (tail_lower Lower x y xs ys same h)
      | inr l ↦ elim l [
        | inl rest ↦ inr (inl (cons_same x y xs ys same rest))
        | inr h ↦ inr (inr (tail_lower Lower y x ys xs (sym same) h))
      ]
    ]
    | inr h ↦ inr (inr (head_lower Lower y x ys xs h))
  ]
]
  where
    cons_same : {A : Type 0} (x y : A) (xs ys : List A) → x ≡ y → xs ≡ ys → x ∷ xs ≡ y ∷ ys
    cons_same x y xs ys e f = cc

pub nat_total : (x y : ℕ) → Sides ◌<◌ x y
nat_total = which

-- what `cmp` answers of two lists of numbers
pub slice_cmp-tells : (xs ys : List ℕ) → MatchOrdering (slice_cmp nat_cmp xs ys) (IsListLower ◌<◌ xs ys) (xs ≡ ys) (IsListLower ◌<◌ ys xs)
slice_cmp-tells [] [] = refl
slice_cmp-tells [] (y ∷ ys) = record { place = 0; before = λ i below. absurd (omega arith); lower = tt }
slice_cmp-tells (x ∷ xs) [] = record { place = 0; before = λ i below. absurd (omega arith); lower = tt }
slice_cmp-tells (x ∷ xs) (y ∷ ys) = step x y xs ys (nat_cmp x y) (slice_cmp nat_cmp xs ys) (ranked x y (nat_cmp x y) refl) (slice_cmp-tells xs ys)
  where
    step : (x y : ℕ) (xs ys : List ℕ) (o p : Ordering) → MatchOrdering o (x < y) (x ≡ y) (y < x) → MatchOrdering p (IsListLower ◌<◌ xs ys) (xs ≡ ys) (IsListLower ◌<◌ ys xs) → MatchOrdering (ordering_then o p) (IsListLower ◌<◌ (x ∷ xs) (y ∷ ys)) (x ∷ xs ≡ y ∷ ys) (IsListLower ◌<◌ (y ∷ ys) (x ∷ xs))
    step x y xs ys Less p h k = head_lower ◌<◌ x y xs ys h
    step x y xs ys Greater p h k = head_lower ◌<◌ y x ys xs h
    step x y xs ys Equal Less h k = tail_lower ◌<◌ x y xs ys h k
    step x y xs ys Equal Equal h k = cc
    step x y xs ys Equal Greater h k = tail_lower ◌<◌ y x ys xs (sym h) k
