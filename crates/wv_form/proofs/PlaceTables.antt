-- Tables of where something stands.
use Rattle.std.proofs.Common.{◌≡◌, ◌↔◌, ◌||◌, inl, inr, ℕ, Bool, true, false, cond, not, IsTrue, List, [], ◌∷◌, ◌++◌, Contains, Option, Some, None, bytes_eq, refl, ap, sym, ◌∙◌, subst, arith, true≢false}
use Rattle.std.specs.Borrow.{Bor}
use Rattle.std.specs.BTreeMap.{BTreeMap}
use Rattle.std.specs.Map.{update}
use Rattle.std.proofs.lemmas.Bool.{cases_Bool}
use Rattle.std.proofs.lemmas.List.Elements.{Contains-append_left, Contains-push, Contains-push_cases}
use Rattle.std.proofs.lemmas.Slice.Eq.{bytes_eq-Decides}
use Rattle.wv_form.specs.declared.placing.Place.{Place}
use Rattle.wv_form.specs.Placing.{placed, is_elsewhere, place_of, StandsElsewhere, TellsPlaces}

-- ---- Texts that differ

pub same-text : (a b : List ℕ) → bytes_eq a b ≡ true → a ≡ b
same-text a b e = (bytes_eq-Decides a b).0 e

pub text-itself : (a b : List ℕ) → a ≡ b → bytes_eq a b ≡ true
text-itself a b e = (bytes_eq-Decides a b).1 e

pub other-text : (a b : List ℕ) → (a ≡ b → ⊥) → bytes_eq a b ≡ false
other-text a b differs = elim (cases_Bool (bytes_eq a b)) [
  | inl same ↦ absurd (differs (same-text a b same))
  | inr other ↦ other
]

pub texts-apart : (a b : List ℕ) → bytes_eq a b ≡ false → a ≡ b → ⊥
texts-apart a b other same = true≢false (sym (text-itself a b same) ∙ other)

longer : (text : List ℕ) → text ≡ 0 ∷ text → ⊥
longer [] e = cc
longer (unit ∷ text) e =
    let rest : text ≡ unit ∷ text = cc in
    let zero : unit ≡ 0 = cc in
    longer text (rest ∙ ap (λ u. u ∷ text) zero)

-- ---- One key more

weaker : (pairs : List (List ℕ × List ℕ)) (pair : List ℕ × List ℕ) (key path : List ℕ) → StandsElsewhere pairs key path → StandsElsewhere (pairs ++ pair ∷ []) key path
weaker pairs pair key path (other, found, differs) = (other, Contains-append_left pairs (pair ∷ []) (key, other) found, differs)

added : (pairs : List (List ℕ × List ℕ)) (key here path : List ℕ) → (here ≡ path → ⊥) → StandsElsewhere (pairs ++ (key, here) ∷ []) key path
added pairs key here path differs = (here, Contains-push pairs (key, here), differs)

-- a flag, and two paths that are compared with a third
first-two : (several : Bool) (b c : Bool) → ((several || b) || c) ≡ true → (several || c) ≡ false → b ≡ true
first-two true b c e f = absurd (true≢false f)
first-two false true c e f = refl
first-two false false c e f = absurd (true≢false (sym e ∙ f))

stays : (several b c : Bool) → (several || c) ≡ true → ((several || b) || c) ≡ true
stays true b c e = refl
stays false true c e = refl
stays false false c e = e

module _ (pairs : List (List ℕ × List ℕ)) (key : List ℕ) (here : Bor (List ℕ)) where
  none-more : ((path : List ℕ) → IsTrue (is_elsewhere None path) ↔ StandsElsewhere pairs key path) → (path : List ℕ) → IsTrue (is_elsewhere (Some (placed None here)) path) ↔ StandsElsewhere (pairs ++ (key, here.now) ∷ []) key path
  none-more h path = (
    λ t. added pairs key here.now path (λ same. true≢false (sym t ∙ ap not (text-itself here.now path same))),
    λ (other, found, differs). elim (Contains-push_cases pairs (key, here.now) (key, other) found) [
      | inl earlier ↦ absurd (true≢false (sym ((h (0 ∷ other)).1 (other, earlier, longer other))))
      | inr same ↦
          let is : here.now ≡ other = ap (λ (p : List ℕ × List ℕ). p.1) same in
          ap not (other-text here.now path (λ e. differs (sym is ∙ e)))
    ],
  )

  some-more : (place : Place) → ((path : List ℕ) → IsTrue (is_elsewhere (Some place) path) ↔ StandsElsewhere pairs key path) → (path : List ℕ) → IsTrue (is_elsewhere (Some (placed (Some place) here)) path) ↔ StandsElsewhere (pairs ++ (key, here.now) ∷ []) key path
  some-more place h path = (
    λ t. elim (cases_Bool (place.several || not (bytes_eq place.first.now path))) [
      | inl before ↦ weaker pairs (key, here.now) key path ((h path).0 before)
      | inr new ↦
          let apart : not (bytes_eq place.first.now here.now) ≡ true = first-two place.several (not (bytes_eq place.first.now here.now)) (not (bytes_eq place.first.now path)) t new in
          let first : bytes_eq place.first.now path ≡ true = no-other place.several (bytes_eq place.first.now path) new in
          added pairs key here.now path (λ same. true≢false (sym apart ∙ ap not (text-itself place.first.now here.now (same-text place.first.now path first ∙ sym same))))
    ],
    λ (other, found, differs). elim (Contains-push_cases pairs (key, here.now) (key, other) found) [
      | inl earlier ↦ stays place.several (not (bytes_eq place.first.now here.now)) (not (bytes_eq place.first.now path)) ((h path).1 (other, earlier, differs))
      | inr same ↦
          let is : here.now ≡ other = ap (λ (p : List ℕ × List ℕ). p.1) same in
          third place.several (bytes_eq place.first.now here.now) (bytes_eq place.first.now path)
          (λ one. other-text place.first.now path (λ e. differs (sym is ∙ sym (same-text place.first.now here.now one) ∙ e)))
    ],
  )
    where
      no-other : (several b : Bool) → (several || not b) ≡ false → b ≡ true
      no-other true b e = absurd (true≢false e)
      no-other false true e = refl
      no-other false false e = absurd (true≢false e)

      third : (several b c : Bool) → (b ≡ true → c ≡ false) → ((several || not b) || not c) ≡ true
      third true b c h = refl
      third false false c h = refl
      third false true c h = ap not (h refl)

  key-more : (places : Option Place) → ((path : List ℕ) → IsTrue (is_elsewhere places path) ↔ StandsElsewhere pairs key path) → (path : List ℕ) → IsTrue (is_elsewhere (Some (placed places here)) path) ↔ StandsElsewhere (pairs ++ (key, here.now) ∷ []) key path
  key-more None h = none-more h
  key-more (Some place) h = some-more place h

  other-key : (asked path : List ℕ) → (key ≡ asked → ⊥) → StandsElsewhere (pairs ++ (key, here.now) ∷ []) asked path → StandsElsewhere pairs asked path
  other-key asked path apart (other, found, differs) = elim (Contains-push_cases pairs (key, here.now) (asked, other) found) [
    | inl earlier ↦ (other, earlier, differs)
    | inr same ↦ absurd (apart (ap (λ (p : List ℕ × List ℕ). p.0) same))
  ]

  -- one more that stands somewhere
  pub tells-more : (old new : BTreeMap (Bor (List ℕ)) Place) → TellsPlaces pairs old → ((asked : List ℕ) → place_of new asked ≡ update bytes_eq (place_of old) key (Some (placed (place_of old key) here)) asked) → TellsPlaces (pairs ++ (key, here.now) ∷ []) new
  tells-more old new h updates asked path = elim (cases_Bool (bytes_eq key asked)) [
    | inl same ↦
        let is : key ≡ asked = same-text key asked same in
        let now : place_of new asked ≡ Some (placed (place_of old key) here) = updates asked ∙ ap (λ b. cond b (Some (placed (place_of old key) here)) (place_of old asked)) same in
        subst (λ (k : List ℕ). IsTrue (is_elsewhere (place_of new asked) path) ↔ StandsElsewhere (pairs ++ (key, here.now) ∷ []) k path) is
        (subst (λ (o : Option Place). IsTrue (is_elsewhere o path) ↔ StandsElsewhere (pairs ++ (key, here.now) ∷ []) key path) (sym now) (key-more (place_of old key) (h key) path))
    | inr other ↦
        let now : place_of new asked ≡ place_of old asked = updates asked ∙ ap (λ b. cond b (Some (placed (place_of old key) here)) (place_of old asked)) other in (
          λ t. weaker pairs (key, here.now) asked path ((h asked path).0 (ap (λ o. is_elsewhere o path) (sym now) ∙ t)),
          λ found. ap (λ o. is_elsewhere o path) now ∙ (h asked path).1 (other-key asked path (texts-apart key asked other) found),
        )
  ]
