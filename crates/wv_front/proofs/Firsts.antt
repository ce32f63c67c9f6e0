-- The place at which a test first passes, and the table of these places.
use Rattle.std.proofs.Common.{◌≡◌, ℕ, zero, suc, ◌+◌, ◌<◌, ◌≤◌, Bool, true, false, cond, not, List, [], ◌∷◌, ◌++◌, length, Contains, Option, Some, None, bytes_eq, refl, ap, sym, ◌∙◌, arith, inl, inr, true≢false, length-append, get_or}
use Rattle.std.specs.List.{position, position_or_len}
use Rattle.std.specs.Option.{is_some}
use Rattle.std.specs.Prelude.{nat_lt, ◌==◌}
use Rattle.std.specs.BTreeMap.{get, Updates}
use Rattle.std.specs.Cmp.Lexicographic.{slice_cmp}
use Rattle.std.specs.Ordering.{nat_cmp}
use Rattle.std.proofs.lemmas.Bool.{cases_Bool}
use Rattle.std.proofs.lemmas.List.Folds.{position_or_len_push}
use Rattle.std.proofs.lemmas.List.Quantifiers.{position-Some}
use Rattle.std.proofs.lemmas.List.Sums.{prefix_len-le-length}
use Rattle.std.proofs.lemmas.Map.Text.{is_eq-slice_cmp}
use Rattle.std.proofs.lemmas.Slice.Eq.{bytes_eq-Decides}
use Rattle.wv_front.specs.declared.places.ClassPlaces.{ClassPlaces}
use Rattle.wv_front.specs.Listing.{ArePlaces}

-- the place, where it is one of so many
spot : ℕ → ℕ → Option ℕ
spot place many = cond (nat_lt place many) (Some place) None

-- the place with one more behind, which passes or not
moved : ℕ → ℕ → Bool → ℕ
moved place many passes = cond (place == many) (many + cond passes 0 1) place

found-more : (p n k : ℕ) (b : Bool) → spot p n ≡ Some k → spot (moved p n b) (n + 1) ≡ Some k
unfolding spot moved
found-more p n k b e = grind arith

missed-more : (p n : ℕ) → p ≤ n → spot p n ≡ None → spot (moved p n false) (n + 1) ≡ None
unfolding spot moved
missed-more p n le e = grind arith

hit-more : (p n : ℕ) → p ≤ n → spot p n ≡ None → spot (moved p n true) (n + 1) ≡ Some n
unfolding spot moved
hit-more p n le e = grind arith

module _ {X : Type 0} (p : X → Bool) (xs : List X) (y : X) where
  pushed : position p (xs ++ y ∷ []) ≡ spot (moved (position_or_len p xs) (length xs) (p y)) (length xs + 1)
  unfolding spot moved
  pushed = rw (position_or_len_push p xs y, length-append xs (y ∷ [])) refl

  kept : (k : ℕ) → position p xs ≡ Some k → position p (xs ++ y ∷ []) ≡ Some k
  unfolding spot
  kept k e = pushed ∙ found-more (position_or_len p xs) (length xs) k (p y) e

  missed : p y ≡ false → position p xs ≡ None → position p (xs ++ y ∷ []) ≡ None
  unfolding spot
  missed fails e = pushed ∙ ap (λ b. spot (moved (position_or_len p xs) (length xs) b) (length xs + 1)) fails ∙ missed-more (position_or_len p xs) (length xs) (prefix_len-le-length (λ x. not (p x)) xs) e

  hit : p y ≡ true → position p xs ≡ None → position p (xs ++ y ∷ []) ≡ Some (length xs)
  unfolding spot
  hit passes e = pushed ∙ ap (λ b. spot (moved (position_or_len p xs) (length xs) b) (length xs + 1)) passes ∙ hit-more (position_or_len p xs) (length xs) (prefix_len-le-length (λ x. not (p x)) xs) e

-- a test that fails leaves what the position was
other-push : {X : Type 0} (p : X → Bool) (xs : List X) (y : X) (o : Option ℕ) → p y ≡ false → position p xs ≡ o → position p (xs ++ y ∷ []) ≡ o
other-push p xs y None fails e = missed p xs y fails e
other-push p xs y (Some k) fails e = kept p xs y k e

present-push : {X : Type 0} (p : X → Bool) (xs : List X) (y : X) (o : Option ℕ) → is_some o ≡ true → position p xs ≡ o → position p (xs ++ y ∷ []) ≡ o
present-push p xs y None some e = absurd (true≢false (sym some))
present-push p xs y (Some k) some e = kept p xs y k e

absent : (o : Option ℕ) → is_some o ≡ false → o ≡ None
absent None e = refl
absent (Some k) e = absurd (true≢false e)

same-name : (a b : List ℕ) → bytes_eq a b ≡ true → a ≡ b
same-name a b e = (bytes_eq-Decides a b).0 e

is-name : (a b : List ℕ) → a ≡ b → bytes_eq a b ≡ true
is-name a b e = (bytes_eq-Decides a b).1 e

-- the name was there
pub places-kept : (names : List (List ℕ)) (name : List ℕ) (old new : ClassPlaces) → ArePlaces names old → is_some (get (slice_cmp nat_cmp) old.places name) ≡ true → new ≡ old → ArePlaces (names ++ name ∷ []) new
places-kept names name old new h some is asked = elim (cases_Bool (bytes_eq asked name)) [
  | inl same ↦ ap (λ (t : ClassPlaces). get (slice_cmp nat_cmp) t.places asked) is ∙ sym (present-push (bytes_eq asked) names name (get (slice_cmp nat_cmp) old.places asked) (ap (λ n. is_some (get (slice_cmp nat_cmp) old.places n)) (same-name asked name same) ∙ some) (sym (h asked)))
  | inr other ↦ ap (λ (t : ClassPlaces). get (slice_cmp nat_cmp) t.places asked) is ∙ sym (other-push (bytes_eq asked) names name (get (slice_cmp nat_cmp) old.places asked) other (sym (h asked)))
]

-- the name wasn't there, and now it is, at the next place
pub places-more : (names : List (List ℕ)) (name : List ℕ) (place : ℕ) (old new : ClassPlaces) → ArePlaces names old → place ≡ length names → is_some (get (slice_cmp nat_cmp) old.places name) ≡ false → Updates (slice_cmp nat_cmp) old.places new.places name (Some place) → ArePlaces (names ++ name ∷ []) new
places-more names name place old new h next none updates asked = elim (cases_Bool (bytes_eq asked name)) [
  | inl same ↦
      let is : asked ≡ name = same-name asked name same in
      ap (λ n. get (slice_cmp nat_cmp) new.places n) is ∙ updates.1 ∙ ap Some next
      ∙ sym (hit (bytes_eq asked) names name same (sym (h asked) ∙ ap (λ n. get (slice_cmp nat_cmp) old.places n) is ∙ absent (get (slice_cmp nat_cmp) old.places name) none))
  | inr other ↦
      updates.2 asked (is_eq-slice_cmp name asked ∙ apart asked name other)
      ∙ sym (other-push (bytes_eq asked) names name (get (slice_cmp nat_cmp) old.places asked) other (sym (h asked)))
]
  where
    apart : (a b : List ℕ) → bytes_eq a b ≡ false → bytes_eq b a ≡ false
    apart a b e = elim (cases_Bool (bytes_eq b a)) [
      | inl same ↦ absurd (true≢false (sym (is-name a b (sym (same-name b a same))) ∙ e))
      | inr fails ↦ fails
    ]

-- a test that passes somewhere has a first place
some-place : {X : Type 0} (p : X → Bool) (xs : List X) (k : ℕ) (d : X) → k < length xs → p (get_or xs k d) ≡ true → position_or_len p xs < length xs
some-place p [] k d inside passes = absurd (omega arith)
some-place p (x ∷ xs) zero d inside passes = rw passes (omega arith)
some-place p (x ∷ xs) (suc k) d inside passes =
    let more = some-place p xs k d (omega arith) passes in
    elim (cases_Bool (p x)) [
      | inl here ↦ rw here (omega arith)
      | inr fails ↦ rw fails (omega arith)
    ]

there : (q n : ℕ) → q < n → spot q n ≡ None → ⊥
unfolding spot
there q n lt e = grind arith

-- a name without a place is none of the names
pub missing-name : (names : List (List ℕ)) (name : List ℕ) → position (bytes_eq name) names ≡ None → Contains names name → ⊥
unfolding spot
missing-name names name none (k, inside, at) =
    there (position_or_len (bytes_eq name) names) (length names) (some-place (bytes_eq name) names k name inside (is-name name (get_or names k name) (sym at))) none

-- a name with a place is one of the names
pub found-name : (names : List (List ℕ)) (name : List ℕ) (place : ℕ) → position (bytes_eq name) names ≡ Some place → Contains names name
found-name names name place some =
    let at = position-Some (bytes_eq name) names place name some in
    (place, at.0, sym (same-name name (get_or names place name) at.1))

-- a test whether a name has a place
pub missing-test : (names : List (List ℕ)) (name : List ℕ) (o : Option ℕ) (b : Bool) → is_some o ≡ not b → b ≡ true → o ≡ position (bytes_eq name) names → Contains names name → ⊥
missing-test names name None b some e at = missing-name names name (sym at)
missing-test names name (Some k) true some e at = absurd (true≢false some)
missing-test names name (Some k) false some e at = absurd (true≢false (sym e))

pub found-test : (names : List (List ℕ)) (name : List ℕ) (o : Option ℕ) (b : Bool) → is_some o ≡ not b → b ≡ false → o ≡ position (bytes_eq name) names → Contains names name
found-test names name (Some k) b some e at = found-name names name k (sym at)
found-test names name None true some e at = absurd (true≢false e)
found-test names name None false some e at = absurd (true≢false (sym some))
