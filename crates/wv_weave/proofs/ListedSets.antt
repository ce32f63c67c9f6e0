-- Sets of the names of listed classes.
use Rattle.std.proofs.Common.{◌≡◌, ◌↔◌, ◌⊎◌, inl, inr, ℕ, ◌+◌, ◌<◌, ◌≤◌, Bool, true, false, cond, IsTrue, List, [], ◌∷◌, ◌++◌, length, get_or, take, map, Contains, ap, sym, ◌∙◌, subst, arith, true≢false}
use Rattle.std.specs.BTreeMap.{is_at}
use Rattle.std.specs.List.{list_any, flat_map}
use Rattle.std.specs.Cmp.Lexicographic.{slice_cmp}
use Rattle.std.specs.Ordering.{nat_cmp, is_eq}
use Rattle.std.proofs.lemmas.Bool.{cases_Bool}
use Rattle.std.proofs.lemmas.List.Elements.{Contains-append_cases, Contains-append_left, Contains-append_right, Contains-push_cases}
use Rattle.std.proofs.lemmas.Map.Text.{is_eq-slice_cmp}
use Rattle.std.proofs.lemmas.Slice.Eq.{bytes_eq-Decides}
use Rattle.wv_weave.specs.declared.listed.ListedNames.{ListedNames}
use Rattle.wv_weave.specs.ListedNames.{GrowsBy, HasNames, has}

tied : (a b : List ℕ) → a ≡ b → is_eq (slice_cmp nat_cmp a b) ≡ true
tied a b same = is_eq-slice_cmp a b ∙ (bytes_eq-Decides a b).1 same

same-tied : (a b : List ℕ) → is_eq (slice_cmp nat_cmp a b) ≡ true → a ≡ b
same-tied a b e = (bytes_eq-Decides a b).0 (sym (is_eq-slice_cmp a b) ∙ e)

-- nothing more
pub grows-none : (old : ListedNames) → GrowsBy old old []
grows-none old name = (λ t. inl t, λ cases. elim cases [ inl t ↦ t | inr (k, inside, at) ↦ absurd (omega arith) ])

-- one that is put in
pub grows-one : (old new : ListedNames) (key : List ℕ) → ((text : List ℕ) → has new text ≡ cond (is_eq (slice_cmp nat_cmp key text)) true (has old text)) → GrowsBy old new (key ∷ [])
grows-one old new key updates text = elim (cases_Bool (is_eq (slice_cmp nat_cmp key text))) [
  | inl same ↦ (
    λ _. inr (0, omega arith, same-tied key text same),
    λ _. updates text ∙ ap (λ b. cond b true (has old text)) same,
  )
  | inr apart ↦
      let kept : has new text ≡ has old text = updates text ∙ ap (λ b. cond b true (has old text)) apart in (
        λ t. inl (sym kept ∙ t),
        λ cases. elim cases [
          | inl t ↦ kept ∙ t
          | inr there ↦ elim (Contains-push_cases [] key text there) [
            | inl (k, inside, at) ↦ absurd (omega arith)
            | inr same ↦ absurd (true≢false (sym (tied key text same) ∙ apart))
          ]
        ],
      )
]

-- one after the other
pub grows-both : (old between new : ListedNames) (first second : List (List ℕ)) → GrowsBy old between first → GrowsBy between new second → GrowsBy old new (first ++ second)
grows-both old between new first second h g name = (
  λ t. elim ((g name).0 t) [
    | inl earlier ↦ elim ((h name).0 earlier) [
      | inl before ↦ inl before
      | inr there ↦ inr (Contains-append_left first second name there)
    ]
    | inr there ↦ inr (Contains-append_right first second name there)
  ],
  λ cases. elim cases [
    | inl before ↦ (g name).1 (inl ((h name).1 (inl before)))
    | inr there ↦ elim (Contains-append_cases first second name there) [
      | inl one ↦ (g name).1 (inl ((h name).1 (inr one)))
      | inr other ↦ (g name).1 (inr other)
    ]
  ],
)

-- from none
pub grown-names : (old new : ListedNames) (names : List (List ℕ)) → old.names.keys ≡ [] → GrowsBy old new names → HasNames names new
grown-names old new names none h name = (
  λ t. elim ((h name).0 t) [
    | inl before ↦ absurd (true≢false (sym before ∙ empty))
    | inr there ↦ there
  ],
  λ there. (h name).1 (inr there),
)
  where
    empty : has old name ≡ false
    empty = ap (list_any (is_at (λ (key : List ℕ). slice_cmp nat_cmp name key))) none
