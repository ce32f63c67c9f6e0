-- The dotted form: where its parts stand, and that they are all of it.
use Rattle.std.proofs.Common.{◌≡◌, ℕ, ◌<◌, ◌||◌, ◌==◌, Bool, true, false, IsTrue, List, [], ◌∷◌, ◌++◌, length, nat_lt, Option, Some, None, IfSome, MatchOption, refl, ap, sym, ◌∙◌, subst, arith, lit<}
use Rattle.std.specs.List.{list_all}
use Rattle.std.proofs.lemmas.Bool.Decides.{nat_tests}
use Rattle.std.proofs.lemmas.List.{append-nil}
use Rattle.wv_version.specs.declared.dotted.Dotted.{Dotted}
use Rattle.wv_version.specs.declared.identifier.Identifier.{Identifier}
use Rattle.wv_version.specs.Cut.{led_by, IsFree, IsCut}
use Rattle.wv_version.specs.Numeral.{IsNumeral}
use Rattle.wv_version.specs.Dots.{IsDotJoined}
use Rattle.wv_version.specs.Identifier.{is_word_byte, IsIdentifier, IsPreRelease}
use Rattle.wv_version.specs.Dotted.{IsDotted, IsBuild, IsPreReleasePart}
use Rattle.wv_version.specs.Reading.{number_of, numbers_of, pre_release_of, is_build}
use Rattle.wv_version.proofs.Cutting.{cuts_same, IsFree-append}
use Rattle.wv_version.proofs.Pieces.{dots-found, dots-only, IsFree-dots}
use Rattle.wv_version.proofs.Numerals.{reads_numbers, IsFree-numeral, both}
use Rattle.wv_version.proofs.Identifiers.{IsFree-identifier, pre_release_of-only, each-from_test, test-from_each}

-- the parts of a text spell the parts of a version
pub record IsParts (numbers : List ℕ) (pre_release build : Option (List ℕ)) (d : Dotted) : Type 0 where
  pub of_numbers : IsDotJoined IsNumeral numbers d.numbers
  pub of_pre_release : IsPreReleasePart pre_release d.pre_release
  pub of_build : IfSome build IsBuild

pub IsFree-numbers : (mark : ℕ) → mark < 46 → (text : List ℕ) (numbers : List ℕ) → IsDotJoined IsNumeral text numbers → IsFree mark text
IsFree-numbers mark low = IsFree-dots mark IsNumeral (IsFree-numeral mark (omega arith)) (λ same. omega arith)

free_pre_release : (text : List ℕ) (xs : List Identifier) → IsPreRelease text xs → IsFree 43 text
free_pre_release text [] h = subst (IsFree 43) (sym h) tt
free_pre_release text (x ∷ xs) h = IsFree-dots 43 IsIdentifier (IsFree-identifier 43 (lit< tt) refl) (λ same. absurd (omega arith)) text (x ∷ xs) h

free_led : (part : Option (List ℕ)) (xs : Option (List Identifier)) → IsPreReleasePart part xs → IsFree 43 (led_by 45 part)
free_led None xs h = tt
free_led (Some text) None h = absurd h
free_led (Some text) (Some xs) h = ((λ same. absurd (omega arith)), free_pre_release text xs h)

pub build_cut : (text : List ℕ) (d : Dotted) (h : IsDotted text d) → IsCut 43 text (h.numbers ++ led_by 45 h.pre_release) h.build
build_cut text d h = record {
  whole = h.whole;
  free = IsFree-append 43 h.numbers (led_by 45 h.pre_release) (IsFree-numbers 43 (lit< tt) h.numbers d.numbers h.of_numbers) (free_led h.pre_release d.pre_release h.of_pre_release);
}

pub pre_release_cut : (text : List ℕ) (d : Dotted) (h : IsDotted text d) → IsCut 45 (h.numbers ++ led_by 45 h.pre_release) h.numbers h.pre_release
pre_release_cut text d h = record { whole = refl; free = IsFree-numbers 45 (lit< tt) h.numbers d.numbers h.of_numbers }

-- the cuts of a text at '+' and '-' are the parts of every version that it spells
pub parts_of_dotted : (text front numbers : List ℕ) (pre_release build : Option (List ℕ)) (d : Dotted) → IsCut 43 text front build → IsCut 45 front numbers pre_release → IsDotted text d → IsParts numbers pre_release build d
parts_of_dotted text front numbers pre_release build d at_build at_pre h =
    let own = build_cut text d h in
    let outer = cuts_same 43 (h.numbers ++ led_by 45 h.pre_release) front h.build build own.free at_build.free (sym own.whole ∙ at_build.whole) in
    let inner = cuts_same 45 h.numbers numbers h.pre_release pre_release (pre_release_cut text d h).free at_pre.free (outer.0 ∙ at_pre.whole) in
    record {
      of_numbers = subst (λ part. IsDotJoined IsNumeral part d.numbers) inner.0 h.of_numbers;
      of_pre_release = subst (λ part. IsPreReleasePart part d.pre_release) inner.1 h.of_pre_release;
      of_build = subst (λ part. IfSome part IsBuild) outer.1 h.of_build;
    }

pub dotted_of_parts : (text front numbers : List ℕ) (pre_release build : Option (List ℕ)) (d : Dotted) → IsCut 43 text front build → IsCut 45 front numbers pre_release → IsParts numbers pre_release build d → IsDotted text d
dotted_of_parts text front numbers pre_release build d at_build at_pre parts = record {
  numbers = numbers;
  pre_release = pre_release;
  build = build;
  whole = at_build.whole ∙ ap (λ xs. xs ++ led_by 43 build) at_pre.whole;
  of_numbers = parts.of_numbers;
  of_pre_release = parts.of_pre_release;
  of_build = parts.of_build;
}

pub numbers_of-found : (text numbers : List ℕ) → numbers_of text ≡ Some numbers → IsDotJoined IsNumeral text numbers
numbers_of-found = dots-found number_of IsNumeral reads_numbers

pub numbers_of-only : (text numbers : List ℕ) → IsDotJoined IsNumeral text numbers → numbers_of text ≡ Some numbers
numbers_of-only = dots-only number_of IsNumeral reads_numbers (IsFree-numeral 46 (lit< tt))

is_build-found : (text : List ℕ) → is_build text ≡ true → IsBuild text
is_build-found text h =
    let parts = both (nat_lt 0 (length text)) (list_all (λ byte. is_word_byte byte || byte == 46) text) h in
    record { not_empty = grind (arith, nat_tests); each = each-from_test (λ byte. is_word_byte byte || byte == 46) text parts.1 }

is_build-only : (text : List ℕ) → IsBuild text → is_build text ≡ true
is_build-only text h =
    let some : nat_lt 0 (length text) ≡ true = grind (arith, nat_tests, h.not_empty) in
    rw (some, test-from_each (λ byte. is_word_byte byte || byte == 46) text h.each) refl

-- what the test of a build part says
pub build-found : (build : Option (List ℕ)) (r : Bool) → MatchOption build (IsTrue r) (λ part. r ≡ is_build part) → r ≡ true → IfSome build IsBuild
build-found None r h passes = tt
build-found (Some part) r h passes = is_build-found part (sym h ∙ passes)

pub build-only : (build : Option (List ℕ)) (r : Bool) → MatchOption build (IsTrue r) (λ part. r ≡ is_build part) → r ≡ false → IfSome build IsBuild → ⊥
build-only None r h fails of_build = let clash : true ≡ false = sym h ∙ fails in cc
build-only (Some part) r h fails of_build = let clash : true ≡ false = sym (is_build-only part of_build) ∙ (sym h ∙ fails) in cc

-- an option isn't both
pub some_none : {A : Type 0} {o : Option A} {x : A} → o ≡ Some x → o ≡ None → ⊥
some_none some none = let clash : Some _ ≡ None = sym some ∙ none in cc

same_dotted : (m n : List ℕ) (p q : Option (List Identifier)) → m ≡ n → p ≡ q → (let d : Dotted = record { numbers = m; pre_release = p } in d) ≡ record { numbers = n; pre_release = q }
same_dotted m n p q e f = cc

same_pre : (part : Option (List ℕ)) (p q : Option (List Identifier)) → IsPreReleasePart part p → IsPreReleasePart part q → p ≡ q
same_pre None None None g h = refl
same_pre None None (Some q) g h = absurd h
same_pre None (Some p) q g h = absurd g
same_pre (Some part) None q g h = absurd g
same_pre (Some part) (Some p) None g h = absurd h
same_pre (Some part) (Some p) (Some q) g h = sym (pre_release_of-only part p g) ∙ pre_release_of-only part q h

-- a text spells one dotted version
pub dotted_same : (text : List ℕ) (d e : Dotted) → IsDotted text d → IsDotted text e → d ≡ e
dotted_same text d e g h =
    let other = parts_of_dotted text (g.numbers ++ led_by 45 g.pre_release) g.numbers g.pre_release g.build e (build_cut text d g) (pre_release_cut text d g) h in
    let numbers : Some d.numbers ≡ Some e.numbers = sym (numbers_of-only g.numbers d.numbers g.of_numbers) ∙ numbers_of-only g.numbers e.numbers other.of_numbers in
    let numbers_same : d.numbers ≡ e.numbers = cc in
    same_dotted d.numbers e.numbers d.pre_release e.pre_release numbers_same (same_pre g.pre_release d.pre_release e.pre_release g.of_pre_release other.of_pre_release)

-- an identifier list that nothing reads isn't spelled
pub pre_release-none : (text : List ℕ) (p : Option (List Identifier)) → pre_release_of text ≡ None → IsPreReleasePart (Some text) p → ⊥
pre_release-none text None none h = h
pre_release-none text (Some xs) none h = some_none (pre_release_of-only text xs h) none

not_free : (xs ys : List ℕ) → IsFree 43 (xs ++ 43 ∷ ys) → ⊥
not_free [] ys free = free.0 refl
not_free (x ∷ xs) ys free = not_free xs ys free.1

-- a build part may follow a text that has none
pub with_build : (text build : List ℕ) (d : Dotted) → IsDotted text d → IsFree 43 text → IsBuild build → IsDotted (text ++ 43 ∷ build) d
with_build text build d h free of_build = led h.build h.whole
  where
    led : (old : Option (List ℕ)) → text ≡ (h.numbers ++ led_by 45 h.pre_release) ++ led_by 43 old → IsDotted (text ++ 43 ∷ build) d
    led (Some old) whole = absurd (not_free (h.numbers ++ led_by 45 h.pre_release) old (subst (IsFree 43) whole free))
    led None whole = record {
      numbers = h.numbers;
      pre_release = h.pre_release;
      build = Some build;
      whole = ap (λ xs. xs ++ 43 ∷ build) (whole ∙ append-nil (h.numbers ++ led_by 45 h.pre_release));
      of_numbers = h.of_numbers;
      of_pre_release = h.of_pre_release;
      of_build = of_build;
    }
