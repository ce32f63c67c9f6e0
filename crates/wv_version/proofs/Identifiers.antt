-- Identifiers: their texts and their order.
use Rattle.std.proofs.Common.{◌≡◌, inl, inr, ℕ, suc, ◌+◌, ◌<◌, ◌==◌, Bool, true, false, cond, IsTrue, List, [], ◌∷◌, ◌++◌, length, length-append, nat_lt, slice_get, Some, None, refl, ap, sym, ◌∙◌, arith, lit<, min}
use Rattle.std.specs.List.{AllByRecursion, list_all}
use Rattle.std.specs.declared.cmp.Ordering.{Ordering}
use Rattle.std.specs.declared.cmp.Ordering.TheVariants.{Less, Equal, Greater}
use Rattle.std.specs.Ordering.{MatchOrdering, nat_cmp, is_ne}
use Rattle.std.specs.Cmp.Lexicographic.{slice_cmp}
use Rattle.std.specs.Str.Parse.{digits_value}
use Rattle.std.proofs.lemmas.Bool.Decides.{nat_tests}
use Rattle.std.proofs.lemmas.Option.{slice_get_cases, slice_get_past}
use Rattle.std.proofs.lemmas.Cmp.{ranked}
use Rattle.wv_version.specs.Dots.{SpellsEach, IsDotJoined}
use Rattle.wv_version.specs.declared.identifier.Identifier.{Identifier}
use Rattle.wv_version.specs.declared.identifier.Identifier.TheVariants.{Number, Word}
use Rattle.wv_version.specs.Cut.{IsFree}
use Rattle.wv_version.specs.Numeral.{IsNumeral}
use Rattle.wv_version.specs.Order.{IsListLower}
use Rattle.wv_version.specs.Identifier.{is_word_byte, IsWord, IsIdentifier, IsIdentifierLower, IsPreRelease}
use Rattle.wv_version.specs.Reading.{is_numeral, is_word, identifier_of, identifiers_of, pre_release_of}
use Rattle.wv_version.proofs.Numerals.{is_numeral-found, is_numeral-only, IsFree-numeral, both}
use Rattle.wv_version.proofs.Pieces.{Reads, dots-found, dots-only}
use Rattle.wv_version.proofs.FirstLower.{slice_cmp-tells, IsStrict, Sides, nat_total, lists_total, lists_apart, lists_strict, nat_strict}

-- tests of all bytes, and facts of all bytes
pub each-from_test : (test : ℕ → Bool) (text : List ℕ) → list_all test text ≡ true → AllByRecursion (λ byte. IsTrue (test byte)) text
each-from_test test [] h = tt
each-from_test test (c ∷ text) h = let parts = both (test c) (list_all test text) h in (parts.0, each-from_test test text parts.1)

pub test-from_each : (test : ℕ → Bool) (text : List ℕ) → AllByRecursion (λ byte. IsTrue (test byte)) text → list_all test text ≡ true
test-from_each test [] h = refl
test-from_each test (c ∷ text) h = let head : test c ≡ true = h.0 in rw (head, test-from_each test text h.1) refl

is_word-found : (text : List ℕ) → is_word text ≡ true → IsWord text
is_word-found text h =
    let parts = both (nat_lt 0 (length text)) (list_all is_word_byte text) h in
    record { not_empty = grind (arith, nat_tests); each = each-from_test is_word_byte text parts.1 }

is_word-only : (text : List ℕ) → IsWord text → is_word text ≡ true
is_word-only text h =
    let some : nat_lt 0 (length text) ≡ true = grind (arith, nat_tests, h.not_empty) in
    rw (some, test-from_each is_word_byte text h.each) refl

identifier_found : (text : List ℕ) (x : Identifier) (n w : Bool) → is_numeral text ≡ n → is_word text ≡ w → cond n (Some (Number (digits_value 10 text))) (cond w (Some (Word text)) None) ≡ Some x → IsIdentifier text x
identifier_found text (Number number) true w n_is w_is e =
    let same : digits_value 10 text ≡ number = cc in
    let h = is_numeral-found text n_is in
    record { digits = h.digits; not_empty = h.not_empty; not_long = h.not_long; value = same }
identifier_found text (Word word) true w n_is w_is e = cc
identifier_found text (Number number) false true n_is w_is e = cc
identifier_found text (Word word) false true n_is w_is e =
    let same : word ≡ text = cc in
    (is_word-found text w_is, λ number h. absurd (differ (sym n_is ∙ is_numeral-only text number h)), same)
  where
    differ : false ≡ true → ⊥
    differ e = cc
identifier_found text x false false n_is w_is e = cc

identifier_only : (text : List ℕ) (x : Identifier) → IsIdentifier text x → identifier_of text ≡ Some x
identifier_only text (Number number) h = rw (is_numeral-only text number h, h.value) refl
identifier_only text (Word word) h = rw (not_numeral text (is_numeral text) refl h.1, is_word-only text h.0, h.2) refl
  where
    not_numeral : (text : List ℕ) (b : Bool) → is_numeral text ≡ b → ((number : ℕ) → IsNumeral text number → ⊥) → is_numeral text ≡ false
    not_numeral text true is other = absurd (other (digits_value 10 text) (is_numeral-found text is))
    not_numeral text false is other = is

pub reads_identifiers : Reads identifier_of IsIdentifier
reads_identifiers = record {
  found = λ text x e. identifier_found text x (is_numeral text) (is_word text) refl refl e;
  only = identifier_only;
}

free_word : (mark : ℕ) (text : List ℕ) → is_word_byte mark ≡ false → AllByRecursion (λ byte. IsTrue (is_word_byte byte)) text → IsFree mark text
free_word mark [] other h = tt
free_word mark (c ∷ text) other h = ((λ same. differ c mark same h.0 other), free_word mark text other h.1)
  where
    differ : (c mark : ℕ) → c ≡ mark → is_word_byte c ≡ true → is_word_byte mark ≡ false → ⊥
    differ c mark same passes fails = let clash : true ≡ false = sym passes ∙ (ap is_word_byte same ∙ fails) in cc

-- no identifier has a mark that is no letter, digit or dash
pub IsFree-identifier : (mark : ℕ) → mark < 48 → is_word_byte mark ≡ false → (text : List ℕ) (x : Identifier) → IsIdentifier text x → IsFree mark text
IsFree-identifier mark low other text (Number number) h = IsFree-numeral mark low text number h
IsFree-identifier mark low other text (Word word) h = free_word mark text other h.0.each

pub identifiers_of-only : (text : List ℕ) (xs : List Identifier) → IsDotJoined IsIdentifier text xs → identifiers_of text ≡ Some xs
identifiers_of-only = dots-only identifier_of IsIdentifier reads_identifiers (IsFree-identifier 46 (lit< tt) refl)

no_values : (pieces : List (List ℕ)) → 0 < length pieces → SpellsEach IsIdentifier pieces [] → ⊥
no_values [] some h = absurd (omega arith)
no_values (piece ∷ pieces) some h = h

pre_release_of-cons : (c : ℕ) (text : List ℕ) → pre_release_of (c ∷ text) ≡ identifiers_of (c ∷ text)
pre_release_of-cons c text = let no : (length (c ∷ text) == 0) ≡ false = grind (arith, nat_tests) in rw no refl

pub pre_release_of-found : (text : List ℕ) (xs : List Identifier) → pre_release_of text ≡ Some xs → IsPreRelease text xs
pre_release_of-found [] [] e = refl
pre_release_of-found [] (x ∷ xs) e = cc
pre_release_of-found (c ∷ text) [] e =
    let dots = dots-found identifier_of IsIdentifier reads_identifiers (c ∷ text) [] (sym (pre_release_of-cons c text) ∙ e) in
    absurd (no_values dots.pieces dots.not_empty dots.each)
pre_release_of-found (c ∷ text) (x ∷ xs) e = dots-found identifier_of IsIdentifier reads_identifiers (c ∷ text) (x ∷ xs) (sym (pre_release_of-cons c text) ∙ e)

pub pre_release_of-only : (text : List ℕ) (xs : List Identifier) → IsPreRelease text xs → pre_release_of text ≡ Some xs
pre_release_of-only [] [] h = refl
pre_release_of-only [] (x ∷ xs) h = let none : None ≡ Some (x ∷ xs) = identifiers_of-only [] (x ∷ xs) h in cc
pre_release_of-only (c ∷ text) [] h = cc
pre_release_of-only (c ∷ text) (x ∷ xs) h = pre_release_of-cons c text ∙ identifiers_of-only (c ∷ text) (x ∷ xs) h

-- what `cmp` answers of the bytes of two words
pub word_tells : (s t : List ℕ) (order : Ordering) → order ≡ slice_cmp nat_cmp s t → MatchOrdering order (IsIdentifierLower (Word s) (Word t)) (Word s ≡ Word t) (IsIdentifierLower (Word t) (Word s))
word_tells s t order is = rw is (words s t (slice_cmp nat_cmp s t) (slice_cmp-tells s t))
  where
    words : (s t : List ℕ) (order : Ordering) → MatchOrdering order (IsListLower ◌<◌ s t) (s ≡ t) (IsListLower ◌<◌ t s) → MatchOrdering order (IsIdentifierLower (Word s) (Word t)) (Word s ≡ Word t) (IsIdentifierLower (Word t) (Word s))
    words s t Less h = h
    words s t Equal h = ap Word h
    words s t Greater h = h

pub identifiers_strict : IsStrict IsIdentifierLower
identifiers_strict = record { apart = apart; step = step }
  where
    apart : (x : Identifier) → IsIdentifierLower x x → ⊥
    apart (Number m) h = omega arith
    apart (Word s) h = lists_apart ◌<◌ nat_strict s h

    step : (x y z : Identifier) → IsIdentifierLower x y → IsIdentifierLower y z → IsIdentifierLower x z
    step (Number m) (Number n) (Number o) g h = omega arith
    step (Number m) (Number n) (Word t) g h = tt
    step (Number m) (Word s) (Number o) g h = absurd h
    step (Number m) (Word s) (Word t) g h = tt
    step (Word s) (Number n) z g h = absurd g
    step (Word s) (Word t) (Number o) g h = absurd h
    step (Word r) (Word s) (Word t) g h = (lists_strict ◌<◌ nat_strict).step r s t g h

pub identifiers_total : (x y : Identifier) → Sides IsIdentifierLower x y
identifiers_total (Number m) (Number n) = elim (nat_total m n) [ inl h ↦ inl h | inr k ↦ elim k [ inl e ↦ inr (inl (ap Number e)) | inr h ↦ inr (inr h) ] ]
identifiers_total (Number m) (Word t) = inl tt
identifiers_total (Word s) (Number n) = inr (inr tt)
identifiers_total (Word s) (Word t) = elim (lists_total ◌<◌ nat_total s t) [ inl h ↦ inl h | inr k ↦ elim k [ inl e ↦ inr (inl (ap Word e)) | inr h ↦ inr (inr h) ] ]

-- the lists agree before n, and differ there as `compare` says
pub lists_differ : (xs ys : List Identifier) (n : ℕ) (x y : Identifier) (order : Ordering) → ((i : ℕ) → i < n → slice_get xs i ≡ slice_get ys i) → slice_get xs n ≡ Some x → slice_get ys n ≡ Some y → MatchOrdering order (IsIdentifierLower x y) (x ≡ y) (IsIdentifierLower y x) → (order ≡ Equal → ⊥) → MatchOrdering order (IsListLower IsIdentifierLower xs ys) (xs ≡ ys) (IsListLower IsIdentifierLower ys xs)
lists_differ xs ys n x y Less same at_x at_y h other = record { place = n; before = same; lower = rw (at_x, at_y) h }
lists_differ xs ys n x y Equal same at_x at_y h other = absurd (other refl)
lists_differ xs ys n x y Greater same at_x at_y h other = record { place = n; before = λ i below. sym (same i below); lower = rw (at_x, at_y) h }

pub equal_from_test : (order : Ordering) → is_ne order ≡ false → order ≡ Equal
equal_from_test Less h = cc
equal_from_test Equal h = refl
equal_from_test Greater h = cc

pub not_equal_from_test : (order : Ordering) → is_ne order ≡ true → order ≡ Equal → ⊥
not_equal_from_test order h e = let clash : true ≡ false = sym h ∙ ap is_ne e in cc

-- the lists agree before n and at n
pub lists_more : (xs ys : List Identifier) (n m : ℕ) (x y : Identifier) (order : Ordering) → ((i : ℕ) → i < n → slice_get xs i ≡ slice_get ys i) → slice_get xs n ≡ Some x → slice_get ys n ≡ Some y → MatchOrdering order (IsIdentifierLower x y) (x ≡ y) (IsIdentifierLower y x) → order ≡ Equal → m ≡ n + 1 → (i : ℕ) → i < m → slice_get xs i ≡ slice_get ys i
lists_more xs ys n m x y order same at_x at_y h equal long i below = elim (nat_total i n) [
  | inl low ↦ same i low
  | inr k ↦ elim k [
    | inl here ↦ rw here (at_x ∙ ap Some (tie order h equal) ∙ sym at_y)
    | inr high ↦ absurd (omega arith)
  ]
]
  where
    tie : (order : Ordering) → MatchOrdering order (IsIdentifierLower x y) (x ≡ y) (IsIdentifierLower y x) → order ≡ Equal → x ≡ y
    tie Less h e = cc
    tie Equal h e = h
    tie Greater h e = cc

lists_same : (xs ys : List Identifier) → length xs ≡ length ys → ((i : ℕ) → i < length xs → slice_get xs i ≡ slice_get ys i) → xs ≡ ys
lists_same [] [] long same = refl
lists_same [] (y ∷ ys) long same = absurd (omega arith)
lists_same (x ∷ xs) [] long same = absurd (omega arith)
lists_same (x ∷ xs) (y ∷ ys) long same =
    let head : Some x ≡ Some y = same 0 (omega arith) in
    let rest : xs ≡ ys = lists_same xs ys (omega arith) (λ i below. same (suc i) (omega arith)) in
    cc

shorter : (xs ys : List Identifier) → length xs < length ys → ((i : ℕ) → i < length xs → slice_get xs i ≡ slice_get ys i) → IsListLower IsIdentifierLower xs ys
shorter xs ys less same = elim (slice_get_cases ys (length xs)).1 [
  | inl inside ↦ record { place = length xs; before = same; lower = rw (slice_get_past xs (length xs) (omega arith), inside.2) tt }
  | inr past ↦ absurd (omega arith)
]

-- one list ended, and the lists agree so far
pub lists_end : (xs ys : List Identifier) (n : ℕ) (order : Ordering) → n ≡ min (length xs) (length ys) → ((i : ℕ) → i < n → slice_get xs i ≡ slice_get ys i) → order ≡ nat_cmp (length xs) (length ys) → MatchOrdering order (IsListLower IsIdentifierLower xs ys) (xs ≡ ys) (IsListLower IsIdentifierLower ys xs)
lists_end xs ys n order ended same is = ends order (ranked (length xs) (length ys) order is)
  where
    ends : (order : Ordering) → MatchOrdering order (length xs < length ys) (length xs ≡ length ys) (length ys < length xs) → MatchOrdering order (IsListLower IsIdentifierLower xs ys) (xs ≡ ys) (IsListLower IsIdentifierLower ys xs)
    ends Less h = shorter xs ys h (λ i below. same i (omega arith))
    ends Equal h = lists_same xs ys h (λ i below. same i (omega arith))
    ends Greater h = shorter ys xs h (λ i below. sym (same i (omega arith)))

pub length-push : {A : Type 0} (xs : List A) (x : A) → length (xs ++ x ∷ []) ≡ length xs + 1
length-push xs x = length-append xs (x ∷ [])
