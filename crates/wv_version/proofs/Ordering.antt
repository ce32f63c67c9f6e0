-- The order of dotted versions.
use Rattle.std.proofs.Common.{◌≡◌, ◌⊎◌, inl, inr, ℕ, zero, suc, ◌<◌, List, [], ◌∷◌, Option, Some, None, slice_index, refl, ap, sym, ◌∙◌, subst, arith}
use Rattle.wv_version.specs.declared.dotted.Dotted.{Dotted}
use Rattle.wv_version.specs.declared.identifier.Identifier.{Identifier}
use Rattle.wv_version.specs.Order.{IsFirstLower}
use Rattle.wv_version.specs.Dotted.{IsNumbersLower, HasSameNumbers, IsPreReleaseLower, IsLower, IsSame, IsAtMost}
use Rattle.wv_version.specs.Identifier.{IsIdentifierLower}
use Rattle.wv_version.proofs.FirstLower.{IsStrict, Sides, IsFirstLower-apart, IsFirstLower-step, IsFirstLower-left, IsFirstLower-right, IsFirstLower-more, lists_strict, lists_total, nat_strict, nat_total}
use Rattle.wv_version.proofs.Identifiers.{identifiers_strict, identifiers_total}

pre_strict : IsStrict IsPreReleaseLower
pre_strict = record { apart = apart; step = step }
  where
    apart : (x : Option (List Identifier)) → IsPreReleaseLower x x → ⊥
    apart None h = h
    apart (Some xs) h = (lists_strict IsIdentifierLower identifiers_strict).apart xs h

    step : (x y z : Option (List Identifier)) → IsPreReleaseLower x y → IsPreReleaseLower y z → IsPreReleaseLower x z
    step None y z g h = g
    step (Some xs) None z g h = absurd h
    step (Some xs) (Some ys) None g h = tt
    step (Some xs) (Some ys) (Some zs) g h = (lists_strict IsIdentifierLower identifiers_strict).step xs ys zs g h

pre_total : (x y : Option (List Identifier)) → Sides IsPreReleaseLower x y
pre_total None None = inr (inl refl)
pre_total None (Some ys) = inr (inr tt)
pre_total (Some xs) None = inl tt
pre_total (Some xs) (Some ys) = elim (lists_total IsIdentifierLower identifiers_total xs ys) [ inl h ↦ inl h | inr k ↦ elim k [ inl e ↦ inr (inl (ap Some e)) | inr h ↦ inr (inr h) ] ]

-- of two lists of numbers one is lower, or no number differs
abbrev NumberSides : List ℕ → List ℕ → Type 0
NumberSides xs ys = IsNumbersLower xs ys ⊎ (HasSameNumbers xs ys ⊎ IsNumbersLower ys xs)

numbers_next : (x y : ℕ) (xs ys xs' ys' : List ℕ) → slice_index xs' 0 ≡ x → slice_index ys' 0 ≡ y → ((i : ℕ) → slice_index xs' (suc i) ≡ slice_index xs i) → ((i : ℕ) → slice_index ys' (suc i) ≡ slice_index ys i) → NumberSides xs ys → NumberSides xs' ys'
numbers_next x y xs ys xs' ys' at_x at_y after_x after_y rest = elim (nat_total x y) [
  | inl low ↦ inl (record { place = 0; before = λ i below. absurd (omega arith); lower = rw (at_x, at_y) low })
  | inr k ↦ elim k [
    | inl same ↦ elim rest [
      | inl h ↦ inl (IsFirstLower-more ◌<◌ (slice_index xs') (slice_index ys') (at_x ∙ same ∙ sym at_y) (moved xs ys xs' ys' after_x after_y h))
      | inr l ↦ elim l [
        | inl all ↦ inr (inl (agree xs ys xs' ys' (at_x ∙ same ∙ sym at_y) after_x after_y all))
        | inr h ↦ inr (inr (IsFirstLower-more ◌<◌ (slice_index ys') (slice_index xs') (at_y ∙ sym same ∙ sym at_x) (moved ys xs ys' xs' after_y after_x h)))
      ]
    ]
    | inr low ↦ inr (inr (record { place = 0; before = λ i below. absurd (omega arith); lower = rw (at_x, at_y) low }))
  ]
]
  where
    moved : (xs ys xs' ys' : List ℕ) → ((i : ℕ) → slice_index xs' (suc i) ≡ slice_index xs i) → ((i : ℕ) → slice_index ys' (suc i) ≡ slice_index ys i) → IsNumbersLower xs ys → IsFirstLower ◌<◌ (λ i. slice_index xs' (suc i)) (λ i. slice_index ys' (suc i))
    moved xs ys xs' ys' after_x after_y h =
        IsFirstLower-left ◌<◌ (λ i. slice_index xs' (suc i)) (slice_index xs) (λ i. slice_index ys' (suc i)) after_x
        (IsFirstLower-right ◌<◌ (slice_index xs) (slice_index ys) (λ i. slice_index ys' (suc i)) (λ i. sym (after_y i)) h)

    agree : (xs ys xs' ys' : List ℕ) → slice_index xs' 0 ≡ slice_index ys' 0 → ((i : ℕ) → slice_index xs' (suc i) ≡ slice_index xs i) → ((i : ℕ) → slice_index ys' (suc i) ≡ slice_index ys i) → HasSameNumbers xs ys → HasSameNumbers xs' ys'
    agree xs ys xs' ys' first after_x after_y all zero = first
    agree xs ys xs' ys' first after_x after_y all (suc i) = after_x i ∙ all i ∙ sym (after_y i)

numbers_total : (xs ys : List ℕ) → NumberSides xs ys
numbers_total [] [] = inr (inl (λ i. refl))
numbers_total [] (y ∷ ys) = numbers_next 0 y [] ys [] (y ∷ ys) refl refl (λ i. refl) (λ i. refl) (numbers_total [] ys)
numbers_total (x ∷ xs) [] = numbers_next x 0 xs [] (x ∷ xs) [] refl refl (λ i. refl) (λ i. refl) (numbers_total xs [])
numbers_total (x ∷ xs) (y ∷ ys) = numbers_next x y xs ys (x ∷ xs) (y ∷ ys) refl refl (λ i. refl) (λ i. refl) (numbers_total xs ys)

numbers_apart : (xs ys : List ℕ) → HasSameNumbers xs ys → IsNumbersLower xs ys → ⊥
numbers_apart xs ys = IsFirstLower-apart ◌<◌ nat_strict (slice_index xs) (slice_index ys)

numbers_step : (xs ys zs : List ℕ) → IsNumbersLower xs ys → IsNumbersLower ys zs → IsNumbersLower xs zs
numbers_step xs ys zs = IsFirstLower-step ◌<◌ nat_strict (slice_index xs) (slice_index ys) (slice_index zs)

pub same_apart : (v w : Dotted) → IsSame v w → IsLower v w → ⊥
same_apart v w same low = elim low [
  | inl h ↦ numbers_apart v.numbers w.numbers same.0 h
  | inr h ↦ pre_strict.apart w.pre_release (subst (λ p. IsPreReleaseLower p w.pre_release) same.1 h.1)
]

pub lower_step : (u v w : Dotted) → IsLower u v → IsLower v w → IsLower u w
lower_step u v w g h = elim g [
  | inl a ↦ elim h [
    | inl b ↦ inl (numbers_step u.numbers v.numbers w.numbers a b)
    | inr b ↦ inl (IsFirstLower-right ◌<◌ (slice_index u.numbers) (slice_index v.numbers) (slice_index w.numbers) b.0 a)
  ]
  | inr a ↦ elim h [
    | inl b ↦ inl (IsFirstLower-left ◌<◌ (slice_index u.numbers) (slice_index v.numbers) (slice_index w.numbers) a.0 b)
    | inr b ↦ inr ((λ i. a.0 i ∙ b.0 i), pre_strict.step u.pre_release v.pre_release w.pre_release a.1 b.1)
  ]
]

pub same_lower : (u v w : Dotted) → IsSame u v → IsLower v w → IsLower u w
same_lower u v w same h = elim h [
  | inl b ↦ inl (IsFirstLower-left ◌<◌ (slice_index u.numbers) (slice_index v.numbers) (slice_index w.numbers) same.0 b)
  | inr b ↦ inr ((λ i. same.0 i ∙ b.0 i), subst (λ p. IsPreReleaseLower p w.pre_release) (sym same.1) b.1)
]

pub lower_same : (u v w : Dotted) → IsLower u v → IsSame v w → IsLower u w
lower_same u v w h same = elim h [
  | inl a ↦ inl (IsFirstLower-right ◌<◌ (slice_index u.numbers) (slice_index v.numbers) (slice_index w.numbers) same.0 a)
  | inr a ↦ inr ((λ i. a.0 i ∙ same.0 i), subst (λ p. IsPreReleaseLower u.pre_release p) same.1 a.1)
]

pub same_back : (v w : Dotted) → IsSame v w → IsSame w v
same_back v w same = ((λ i. sym (same.0 i)), sym same.1)

pub same_step : (u v w : Dotted) → IsSame u v → IsSame v w → IsSame u w
same_step u v w g h = ((λ i. g.0 i ∙ h.0 i), g.1 ∙ h.1)

-- of two dotted versions one is lower, or they have the same place
pub sides : (v w : Dotted) → IsLower v w ⊎ (IsSame v w ⊎ IsLower w v)
sides v w = elim (numbers_total v.numbers w.numbers) [
  | inl h ↦ inl (inl h)
  | inr k ↦ elim k [
    | inl same ↦ elim (pre_total v.pre_release w.pre_release) [
      | inl h ↦ inl (inr (same, h))
      | inr l ↦ elim l [
        | inl e ↦ inr (inl (same, e))
        | inr h ↦ inr (inr (inr ((λ i. sym (same i)), h)))
      ]
    ]
    | inr h ↦ inr (inr (inl h))
  ]
]

pub at_most_refl : (v : Dotted) → IsAtMost v v
at_most_refl v = inr ((λ i. refl), refl)

pub at_most_step : (u v w : Dotted) → IsAtMost u v → IsAtMost v w → IsAtMost u w
at_most_step u v w g h = elim g [
  | inl a ↦ elim h [ inl b ↦ inl (lower_step u v w a b) | inr b ↦ inl (lower_same u v w a b) ]
  | inr a ↦ elim h [ inl b ↦ inl (same_lower u v w a b) | inr b ↦ inr (same_step u v w a b) ]
]

pub at_most_total : (v w : Dotted) → IsAtMost v w ⊎ IsAtMost w v
at_most_total v w = elim (sides v w) [
  | inl h ↦ inl (inl h)
  | inr k ↦ elim k [ inl same ↦ inl (inr same) | inr h ↦ inr (inl h) ]
]

-- what is lower isn't at most
pub lower_apart : (v w : Dotted) → IsLower v w → IsAtMost w v → ⊥
lower_apart v w low at_most = elim at_most [
  | inl h ↦ same_apart v v ((λ i. refl), refl) (lower_step v w v low h)
  | inr same ↦ same_apart v w (same_back w v same) low
]

pub lower_from_not : (v w : Dotted) → (IsAtMost w v → ⊥) → IsLower v w
lower_from_not v w not_at_most = elim (sides v w) [
  | inl h ↦ h
  | inr k ↦ elim k [ inl same ↦ absurd (not_at_most (inr (same_back v w same))) | inr h ↦ absurd (not_at_most (inl h)) ]
]

pub same_from_both : (v w : Dotted) → IsAtMost v w → IsAtMost w v → IsSame v w
same_from_both v w g h = elim g [ inl low ↦ absurd (lower_apart v w low h) | inr same ↦ same ]
