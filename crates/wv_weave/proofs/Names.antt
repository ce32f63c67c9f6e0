-- A name is of one text, and a text has one name.
use Rattle.std.proofs.Common.{◌≡◌, ◌⊎◌, ℕ, ◌+◌, ◌*◌, ◌-◌, ◌<◌, ◌≤◌, ◌^◌, true, List, [], ◌∷◌, ◌++◌, map, get_or, Some, chars, encode_utf8_all, refl, ap, ap₂, sym, ◌∙◌, inl, inr, arith, le-ltb, le-leb, lt-ltb}
use Rattle.std.proofs.lemmas.Bool.{cases_lt, and_from}
use Rattle.std.proofs.lemmas.Str.{chars-encodes, utf16_chars-nil, utf16_chars_lone, utf16_chars_pair}
use Rattle.std.proofs.str.Utf16.{IsPair, pair_units, one_unit, lone_unit_char_low, lone_unit_char_high, lone_unit_char_surrogate}
use Rattle.std.specs.Char.Escape.{encode_utf16}
use Rattle.std.specs.Char.Utf16.{utf16_chars, lone_unit_char, surrogate_pair_char}
use lib.Utf8.{scalar, scalars, low_scalar}
use Rattle.wv_base.specs.Modified.{IsName}
use Rattle.wv_classes.specs.Refusal.{IsTextOf}

-- ---- One text of a name

some-same : (a b : List ℕ) → map Some a ≡ map Some b → a ≡ b
some-same [] [] e = refl
some-same [] (x ∷ b) e = cc
some-same (x ∷ a) [] e = cc
some-same (x ∷ a) (y ∷ b) e =
    let behind : map Some a ≡ map Some b = cc in
    let tails : a ≡ b = some-same a b behind in
    cc

pub one-text : (units a b : List ℕ) → IsTextOf units a → IsTextOf units b → a ≡ b
one-text units a b (characters, told, same) (others, told_too, same_too) =
    same ∙ ap encode_utf8_all (some-same characters others (sym told ∙ told_too)) ∙ sym same_too

-- ---- One name of a text

abbrev units_of : List ℕ → List ℕ
units_of [] = []
units_of (c ∷ cs) = encode_utf16 c ++ units_of cs

-- the units are those of these characters, none of which is a surrogate
abbrev AreUnits : List ℕ → List ℕ → Type 0
AreUnits units cs = (units ≡ units_of cs) × (scalars cs ≡ true)

pair-or-not : (u v : ℕ) → IsPair u v ⊎ (IsPair u v → ⊥)
pair-or-not u v = elim (cases_lt u 0xD800) [
  | inl low ↦ inr (λ pair. absurd (omega (arith, pair.0)))
  | inr from ↦ elim (cases_lt u 0xDC00) [
    | inr high ↦ inr (λ pair. absurd (omega (arith, pair.1)))
    | inl below ↦ elim (cases_lt v 0xDC00) [
      | inl low ↦ inr (λ pair. absurd (omega (arith, pair.2)))
      | inr from_low ↦ elim (cases_lt v 0xE000) [
        | inr high ↦ inr (λ pair. absurd (omega (arith, pair.3)))
        | inl below_high ↦ inl (from, below, from_low, below_high)
      ]
    ]
  ]
]

high-scalar : (c : ℕ) → 0xE000 ≤ c → c < 0x11_0000 → scalar c ≡ true
high-scalar c from below = rw (le-ltb c 0xD800 (omega arith), le-leb 0xE000 c from, lt-ltb c 0x11_0000 below)

-- a unit that is a character by itself
lone-unit : (u c : ℕ) → u < 2 ^ 16 → lone_unit_char u ≡ Some c → (c ≡ u) × (scalar c ≡ true)
lone-unit u c small told = elim (cases_lt u 0xD800) [
  | inl low ↦
      let is : lone_unit_char u ≡ Some u = lone_unit_char_low u low in
      let same : c ≡ u = cc in
      (same, low_scalar c (omega arith))
  | inr from ↦ elim (cases_lt u 0xE000) [
    | inl below ↦ let is = lone_unit_char_surrogate u from below in cc
    | inr high ↦
        let is : lone_unit_char u ≡ Some u = lone_unit_char_high u high in
        let same : c ≡ u = cc in
        (same, high-scalar c (omega arith) (omega arith))
  ]
]

lone-front : (u : ℕ) (us cs : List ℕ) → u < 2 ^ 16 → (IsPair u (get_or us 0 0) → ⊥) → utf16_chars (u ∷ us) ≡ map Some cs → ((ds : List ℕ) → utf16_chars us ≡ map Some ds → AreUnits us ds) → AreUnits (u ∷ us) cs
lone-front u us [] small apart told more = let first = utf16_chars_lone u us apart in cc
lone-front u us (c ∷ cs) small apart told more =
    let first = utf16_chars_lone u us apart in
    let is : lone_unit_char u ≡ Some c = cc in
    let behind : utf16_chars us ≡ map Some cs = cc in
    let own = lone-unit u c small is in
    let tail = more cs behind in
    let alone : encode_utf16 c ≡ c ∷ [] = one_unit c (omega (arith, own.0)) in
    (ap₂ (λ x (xs : List ℕ). x ∷ xs) (sym own.0) tail.0 ∙ ap (λ front. front ++ units_of cs) (sym alone), and_from (scalar c) (scalars cs) own.1 tail.1)

pair-front : (u v : ℕ) (us cs : List ℕ) → IsPair u v → utf16_chars (u ∷ v ∷ us) ≡ map Some cs → ((ds : List ℕ) → utf16_chars us ≡ map Some ds → AreUnits us ds) → AreUnits (u ∷ v ∷ us) cs
pair-front u v us [] pair told more = let first = utf16_chars_pair u v us pair in cc
pair-front u v us (c ∷ cs) pair told more =
    let first = utf16_chars_pair u v us pair in
    let is : surrogate_pair_char u v ≡ c = cc in
    let behind : utf16_chars us ≡ map Some cs = cc in
    let tail = more cs behind in
    let sum : 0x1_0000 + ((u - 0xD800) * 0x400 + (v - 0xDC00)) ≡ c = omega (arith, is) in
    let both : encode_utf16 c ≡ u ∷ v ∷ [] = ap encode_utf16 (sym sum) ∙ pair_units u v pair.0 pair.2 pair.3 in
    let good : scalar c ≡ true = high-scalar c (omega (arith, sum)) (omega (arith, sum, pair.0, pair.1, pair.2, pair.3)) in
    (ap (λ (xs : List ℕ). u ∷ v ∷ xs) tail.0 ∙ ap (λ front. front ++ units_of cs) (sym both), and_from (scalar c) (scalars cs) good tail.1)

are-units : (units cs : List ℕ) → IsName units → utf16_chars units ≡ map Some cs → AreUnits units cs
are-units [] [] small told = (refl, refl)
are-units [] (c ∷ cs) small told = let none = utf16_chars-nil in cc
are-units (u ∷ []) cs small told = lone-front u [] cs small.0 (λ pair. absurd (omega (arith, pair.2))) told (λ ds e. are-units [] ds tt e)
are-units (u ∷ v ∷ us) cs small told = elim (pair-or-not u v) [
  | inl pair ↦ pair-front u v us cs pair told (λ ds e. are-units us ds small.1.1 e)
  | inr apart ↦ lone-front u (v ∷ us) cs small.0 apart told (λ ds e. are-units (v ∷ us) ds small.1 e)
]

-- without the bound on units it is false: one unit beyond it would be the character of a pair
pub one-name : (a b text : List ℕ) → IsName a → IsName b → IsTextOf a text → IsTextOf b text → a ≡ b
one-name a b text is_a is_b (characters, told, same) (others, told_too, same_too) =
    let of_a = are-units a characters is_a told in
    let of_b = are-units b others is_b told_too in
    let chars_same : characters ≡ others = sym (chars-encodes characters of_a.1) ∙ ap chars (sym same ∙ same_too) ∙ chars-encodes others of_b.1 in
    of_a.0 ∙ ap units_of chars_same ∙ sym of_b.0
