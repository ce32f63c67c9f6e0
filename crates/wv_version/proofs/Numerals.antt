-- Numerals: what is read as a number is spelled so, and what is spelled so is read.
use Rattle.std.proofs.Common.{◌≡◌, ◌≢◌, ℕ, ◌<◌, ◌^◌, ◌&&◌, Bool, true, false, cond, List, [], ◌∷◌, length, nat_lt, Some, None, refl, arith}
use Rattle.std.specs.List.{list_all}
use Rattle.std.specs.Char.{is_ascii_digit, digit_value}
use Rattle.std.specs.Str.Parse.{AllDigits, digits_value}
use Rattle.std.proofs.lemmas.Bool.Decides.{nat_tests}
use Rattle.std.proofs.lemmas.Str.Parse.{digit_from_value, digits_value_short, numerals_by_value, tells_digits}
use Rattle.wv_version.specs.Cut.{IsFree}
use Rattle.wv_version.specs.Numeral.{IsNumeral}
use Rattle.wv_version.specs.Reading.{is_numeral, number_of}
use Rattle.wv_version.proofs.Pieces.{Reads}

digit : (c : ℕ) → is_ascii_digit c ≡ true → digit_value c < 10
digit c h = grind (arith, nat_tests)

digit_back : (c : ℕ) → digit_value c < 10 → is_ascii_digit c ≡ true
digit_back c h = let range = digit_from_value c h in grind (arith, nat_tests)

pub both : (a b : Bool) → (a && b) ≡ true → (a ≡ true) × (b ≡ true)
both true b h = (refl, h)
both false b h = cc

pub AllDigits-from_test : (text : List ℕ) → list_all is_ascii_digit text ≡ true → AllDigits 10 text
AllDigits-from_test [] h = tt
AllDigits-from_test (c ∷ text) h =
    let parts = both (is_ascii_digit c) (list_all is_ascii_digit text) h in
    (digit c parts.0, AllDigits-from_test text parts.1)

pub test-from_AllDigits : (text : List ℕ) → AllDigits 10 text → list_all is_ascii_digit text ≡ true
test-from_AllDigits [] h = refl
test-from_AllDigits (c ∷ text) h = rw (digit_back c h.0, test-from_AllDigits text h.1) refl

pub is_numeral-found : (text : List ℕ) → is_numeral text ≡ true → IsNumeral text (digits_value 10 text)
is_numeral-found text h =
    let parts = both (nat_lt 0 (length text) && nat_lt (length text) 19) (list_all is_ascii_digit text) h in
    let sizes = both (nat_lt 0 (length text)) (nat_lt (length text) 19) parts.0 in
    record {
      digits = AllDigits-from_test text parts.1;
      not_empty = grind (arith, nat_tests);
      not_long = grind (arith, nat_tests);
      value = refl;
    }

pub is_numeral-only : (text : List ℕ) (number : ℕ) → IsNumeral text number → is_numeral text ≡ true
is_numeral-only text number h =
    let digits : list_all is_ascii_digit text ≡ true = test-from_AllDigits text h.digits in
    let some : nat_lt 0 (length text) ≡ true = grind (arith, nat_tests, h.not_empty) in
    let few : nat_lt (length text) 19 ≡ true = grind (arith, nat_tests, h.not_long) in
    rw (some, few, digits) refl

number_found : (text : List ℕ) (number : ℕ) (b : Bool) → is_numeral text ≡ b → cond b (Some (digits_value 10 text)) None ≡ Some number → IsNumeral text number
number_found text number true is e = let same : digits_value 10 text ≡ number = cc in
    let h = is_numeral-found text is in record { digits = h.digits; not_empty = h.not_empty; not_long = h.not_long; value = same }
number_found text number false is e = cc

number_only : (text : List ℕ) (number : ℕ) → IsNumeral text number → number_of text ≡ Some number
number_only text number h = rw (is_numeral-only text number h, h.value) refl

pub reads_numbers : Reads number_of IsNumeral
reads_numbers = record {
  found = λ text number e. number_found text number (is_numeral text) refl e;
  only = number_only;
}

free_digits : (mark : ℕ) (text : List ℕ) → mark < 48 → AllDigits 10 text → IsFree mark text
free_digits mark [] low h = tt
free_digits mark (c ∷ text) low h =
    let range = digit_from_value c h.0 in
    let other : c ≢ mark = omega arith in
    (other, free_digits mark text low h.1)

-- no mark is a digit
pub IsFree-numeral : (mark : ℕ) → mark < 48 → (text : List ℕ) (number : ℕ) → IsNumeral text number → IsFree mark text
IsFree-numeral mark low text number h = free_digits mark text low h.digits

-- 18 digits fit 64 bits
pub number_bound : (text : List ℕ) (number : ℕ) → IsNumeral text number → digits_value 10 text < 2 ^ 64
number_bound text number h =
    let short = digits_value_short (numerals_by_value (AllDigits 10) tells_digits) text 18 h.digits h.not_long in
    omega arith
