-- Pre-release parts at the ends of the order, and the bounds of relations and wildcards.
use Rattle.std.proofs.Common.{◌≡◌, ◌⊎◌, inl, inr, ℕ, zero, suc, ◌+◌, ◌<◌, ◌≤◌, List, [], ◌∷◌, ◌++◌, length, length-append, Option, Some, None, slice_index, slice_get, refl, sym, ◌∙◌, subst, arith}
use Rattle.wv_version.specs.declared.dotted.Dotted.{Dotted}
use Rattle.wv_version.specs.declared.identifier.Identifier.{Identifier}
use Rattle.wv_version.specs.Order.{IsPlaceLower}
use Rattle.wv_version.specs.Identifier.{IsIdentifierLower}
use Rattle.wv_version.specs.Dotted.{HasSameNumbers, IsNumbersLower, IsPreReleaseLower, IsLower, IsAtMost, least_of}
use Rattle.wv_version.specs.Term.{BeginsWith}
use Rattle.wv_version.proofs.FirstLower.{nat_total}
use Rattle.wv_version.proofs.Ordering.{sides}

no_place : (o : Option Identifier) → IsPlaceLower IsIdentifierLower o None → ⊥
no_place None h = h
no_place (Some x) h = h

-- nothing comes before an empty part
not_below_empty : (p : Option (List Identifier)) → IsPreReleaseLower p (Some []) → ⊥
not_below_empty None h = h
not_below_empty (Some xs) h = no_place (slice_get xs h.place) h.lower

empty_least : (p : Option (List Identifier)) → IsPreReleaseLower (Some []) p ⊎ (Some [] ≡ p)
empty_least None = inl tt
empty_least (Some []) = inr refl
empty_least (Some (x ∷ xs)) = inl (record { place = 0; before = λ i below. absurd (omega arith); lower = tt })

none_greatest : (p : Option (List Identifier)) → IsPreReleaseLower p None ⊎ (p ≡ None)
none_greatest None = inr refl
none_greatest (Some xs) = inl tt

pub empty_is_least : (v w : Dotted) → HasSameNumbers v.numbers w.numbers → v.pre_release ≡ Some [] → IsLower v w ⊎ (w.pre_release ≡ Some [])
empty_is_least v w same empty = elim (empty_least w.pre_release) [
  | inl h ↦ inl (inr (same, subst (λ p. IsPreReleaseLower p w.pre_release) (sym empty) h))
  | inr e ↦ inr (sym e)
]

pub none_is_greatest : (v w : Dotted) → HasSameNumbers v.numbers w.numbers → w.pre_release ≡ None → IsLower v w ⊎ (v.pre_release ≡ None)
none_is_greatest v w same none = elim (none_greatest v.pre_release) [
  | inl h ↦ inl (inr (same, subst (λ p. IsPreReleaseLower v.pre_release p) (sym none) h))
  | inr e ↦ inr e
]

-- what a list with x at its end has at each place
reads_front : (front : List ℕ) (x i : ℕ) → i < length front → slice_index (front ++ x ∷ []) i ≡ slice_index front i
reads_front [] x i below = absurd (omega arith)
reads_front (y ∷ front) x zero below = refl
reads_front (y ∷ front) x (suc i) below = reads_front front x i (omega arith)

reads_last : (front : List ℕ) (x : ℕ) → slice_index (front ++ x ∷ []) (length front) ≡ x
reads_last [] x = refl
reads_last (y ∷ front) x = reads_last front x

reads_past : (front : List ℕ) (x i : ℕ) → length front < i → slice_index (front ++ x ∷ []) i ≡ 0
reads_past [] x zero above = absurd (omega arith)
reads_past [] x (suc i) above = refl
reads_past (y ∷ front) x zero above = absurd (omega arith)
reads_past (y ∷ front) x (suc i) above = reads_past front x i (omega arith)

pub at_least : (v : Dotted) (front : List ℕ) (last : ℕ) → BeginsWith v.numbers (front ++ last ∷ []) → IsAtMost (least_of (front ++ last ∷ [])) v
at_least v front last begins = elim (sides (least_of (front ++ last ∷ [])) v) [
  | inl low ↦ inl low
  | inr k ↦ elim k [
    | inl same ↦ inr same
    | inr high ↦ elim high [
      | inl first ↦ absurd (clash first)
      | inr part ↦ absurd (not_below_empty v.pre_release part.1)
    ]
  ]
]
  where
    clash : IsNumbersLower v.numbers (front ++ last ∷ []) → ⊥
    clash first = elim (nat_total first.place (length (front ++ last ∷ []))) [
      | inl inside ↦ omega (arith, begins first.place inside, first.lower)
      | inr past ↦ let zero_there : slice_index (front ++ last ∷ []) first.place ≡ 0 = reads_past front last first.place (elim past [ inl e ↦ omega (arith, length-append front (last ∷ [])) | inr h ↦ omega (arith, length-append front (last ∷ [])) ]) in
          omega (arith, first.lower)
    ]

pub below_next : (v : Dotted) (front : List ℕ) (last : ℕ) → BeginsWith v.numbers (front ++ last ∷ []) → IsLower v (least_of (front ++ (last + 1) ∷ []))
below_next v front last begins =
    let long : length (front ++ last ∷ []) ≡ length front + 1 = length-append front (last ∷ []) in
    inl (record {
      place = length front;
      before = λ i below. begins i (omega arith) ∙ reads_front front last i below ∙ sym (reads_front front (last + 1) i below);
      lower = let at : slice_index v.numbers (length front) ≡ last = begins (length front) (omega arith) ∙ reads_last front last in
          let next : slice_index (front ++ (last + 1) ∷ []) (length front) ≡ last + 1 = reads_last front (last + 1) in omega arith;
    })

pub begins_between : (v : Dotted) (front : List ℕ) (last : ℕ) → IsAtMost (least_of (front ++ last ∷ [])) v → IsLower v (least_of (front ++ (last + 1) ∷ [])) → BeginsWith v.numbers (front ++ last ∷ [])
begins_between v front last at_most low i inside = elim at_most [
  | inr same ↦ sym (same.0 i)
  | inl lower ↦ elim lower [
    | inr part ↦ sym (part.0 i)
    | inl above ↦ elim low [
      | inr part ↦ absurd (not_below_empty v.pre_release part.1)
      | inl below ↦ elim (nat_total (length front) above.place) [
        | inl past ↦ sym (above.before i (omega (arith, length-append front (last ∷ []))))
        | inr k ↦ absurd (clash above below (elim k [ inl e ↦ omega arith | inr h ↦ omega arith ]))
      ]
    ]
  ]
]
  where
    fronts : (j : ℕ) → j < length front → slice_index (front ++ last ∷ []) j ≡ slice_index (front ++ (last + 1) ∷ []) j
    fronts j h = reads_front front last j h ∙ sym (reads_front front (last + 1) j h)

    clash : (above : IsNumbersLower (front ++ last ∷ []) v.numbers) (below : IsNumbersLower v.numbers (front ++ (last + 1) ∷ [])) → above.place ≤ length front → ⊥
    clash above below near =
        let ends : slice_index (front ++ last ∷ []) (length front) ≡ last = reads_last front last in
        let next : slice_index (front ++ (last + 1) ∷ []) (length front) ≡ last + 1 = reads_last front (last + 1) in
        elim (nat_total below.place above.place) [
          | inl sooner ↦ omega (arith, above.before below.place sooner, below.lower, fronts below.place (omega arith))
          | inr k ↦ elim k [
            | inl here ↦
                let low_there : slice_index v.numbers above.place < slice_index (front ++ (last + 1) ∷ []) above.place = subst (λ i. slice_index v.numbers i < slice_index (front ++ (last + 1) ∷ []) i) here below.lower in
                elim (nat_total above.place (length front)) [
                  | inl inner ↦ omega (arith, above.lower, low_there, fronts above.place inner)
                  | inr j ↦ elim j [
                    | inl end ↦ omega (arith, above.lower, low_there, rw (← end) at ends, rw (← end) at next)
                    | inr past ↦ omega arith
                  ]
                ]
            | inr later ↦ elim (nat_total above.place (length front)) [
              | inl inner ↦ omega (arith, above.lower, below.before above.place later, fronts above.place inner)
              | inr j ↦ elim j [
                | inl end ↦ omega (arith, below.lower, reads_past front (last + 1) below.place (omega arith))
                | inr past ↦ omega arith
              ]
            ]
          ]
        ]
