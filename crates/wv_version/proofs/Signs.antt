-- Signs and wildcards: which kind of term a text is.
use Rattle.std.proofs.Common.{◌≡◌, inl, inr, ℕ, ◌<◌, ◌≤◌, List, [], ◌∷◌, ◌++◌, length, length-append, Option, Some, None, IfSome, IfNone, refl, ap, sym, ◌∙◌, subst, arith}
use Rattle.std.specs.List.{join_with_byte}
use Rattle.std.proofs.lemmas.Str.Parse.{digit_from_value}
use Rattle.std.specs.Str.Parse.{AllDigits}
use Rattle.wv_version.specs.declared.dotted.Dotted.{Dotted}
use Rattle.wv_version.specs.declared.relation.Relation.{Relation}
use Rattle.wv_version.specs.declared.relation.Relation.TheVariants.{Below, AtMost, Above, AtLeast, Caret, Tilde}
use Rattle.wv_version.specs.declared.term.Term.{Term}
use Rattle.wv_version.specs.declared.term.Term.TheVariants as term
use Rattle.wv_version.specs.Cut.{led_by}
use Rattle.wv_version.specs.Numeral.{IsNumeral}
use Rattle.wv_version.specs.Dots.{SpellsEach, IsDotJoined}
use Rattle.wv_version.specs.Dotted.{IsDotted}
use Rattle.wv_version.specs.Relation.{sign, IsSigned, IsWholeSign}
use Rattle.wv_version.specs.Term.{IsTerm, IsWildcard, IsBeforeWildcard}
use Rattle.wv_version.specs.Reading.{numbers_of}
use Rattle.wv_version.proofs.Dotting.{numbers_of-found, numbers_of-only, some_none}

-- a digit stands first
pub record IsDigitLed (text : List ℕ) : Type 0 where
  pub first : ℕ
  pub rest : List ℕ
  pub whole : text ≡ first ∷ rest
  pub low : 48 ≤ first
  pub high : first ≤ 57

led-append : (xs ys : List ℕ) → IsDigitLed xs → IsDigitLed (xs ++ ys)
led-append xs ys led = record { first = led.first; rest = led.rest ++ ys; whole = ap (λ zs. zs ++ ys) led.whole; low = led.low; high = led.high }

led_numeral : (text : List ℕ) (number : ℕ) → IsNumeral text number → IsDigitLed text
led_numeral text number h = led_digits text h.not_empty h.digits
  where
    led_digits : (text : List ℕ) → 0 < length text → AllDigits 10 text → IsDigitLed text
    led_digits [] some digits = absurd (omega arith)
    led_digits (c ∷ text) some digits = let range = digit_from_value c digits.0 in record { first = c; rest = text; whole = refl; low = range.0; high = range.1 }

led_join : (pieces : List (List ℕ)) (numbers : List ℕ) → 0 < length pieces → SpellsEach IsNumeral pieces numbers → IsDigitLed (join_with_byte 46 pieces)
led_join [] numbers some h = absurd (omega arith)
led_join (x ∷ pieces) [] some h = absurd h
led_join (x ∷ []) (n ∷ numbers) some h = led_numeral x n h.0
led_join (x ∷ y ∷ pieces) (n ∷ numbers) some h = led-append x (46 ∷ join_with_byte 46 (y ∷ pieces)) (led_numeral x n h.0)

led_numbers : (text : List ℕ) (numbers : List ℕ) → IsDotJoined IsNumeral text numbers → IsDigitLed text
led_numbers text numbers h = subst IsDigitLed (sym h.joined) (led_join h.pieces numbers h.not_empty h.each)

pub led_dotted : (text : List ℕ) (d : Dotted) → IsDotted text d → IsDigitLed text
led_dotted text d h =
    subst IsDigitLed (sym h.whole) (led-append (h.numbers ++ led_by 45 h.pre_release) (led_by 43 h.build) (led-append h.numbers (led_by 45 h.pre_release) (led_numbers h.numbers d.numbers h.of_numbers)))

led_wildcard : (text : List ℕ) (numbers : List ℕ) → IsWildcard text numbers → IsDigitLed text
led_wildcard text numbers h =
    subst IsDigitLed (sym h.before.whole) (led-append h.front (46 ∷ h.before.mark ∷ []) (led_numbers h.front numbers h.of_numbers))

-- no sign begins with a digit, '*' or '='
sign_first : (relation : Relation) (rest : List ℕ) (c : ℕ) (cs : List ℕ) → sign relation ++ rest ≡ c ∷ cs → (59 < c) × (c ≡ 61 → ⊥)
sign_first Below rest c cs e = let same : 60 ≡ c = cc in (omega arith, λ h. absurd (omega arith))
sign_first AtMost rest c cs e = let same : 60 ≡ c = cc in (omega arith, λ h. absurd (omega arith))
sign_first Above rest c cs e = let same : 62 ≡ c = cc in (omega arith, λ h. absurd (omega arith))
sign_first AtLeast rest c cs e = let same : 62 ≡ c = cc in (omega arith, λ h. absurd (omega arith))
sign_first Caret rest c cs e = let same : 94 ≡ c = cc in (omega arith, λ h. absurd (omega arith))
sign_first Tilde rest c cs e = let same : 126 ≡ c = cc in (omega arith, λ h. absurd (omega arith))

not_equal_led : (text more : List ℕ) → IsDigitLed text → text ≡ 61 ∷ more → ⊥
not_equal_led text more led e =
    let both : led.first ∷ led.rest ≡ 61 ∷ more = sym led.whole ∙ e in
    let same : led.first ≡ 61 = cc in
    let high : led.first ≤ 57 = led.high in
    omega arith

heads_same : (x y : ℕ) (xs ys : List ℕ) → x ∷ xs ≡ y ∷ ys → x ≡ y
heads_same x y xs ys e = cc

-- behind the longest sign stands what stands behind any sign before a version
unsign : (r s : Relation) (a b : List ℕ) → sign r ++ a ≡ sign s ++ b → IsWholeSign r a → IsDigitLed b → a ≡ b
unsign Below AtMost a b e whole led = let rest : a ≡ 61 ∷ b = cc in absurd (whole b rest)
unsign AtMost Below a b e whole led = let rest : b ≡ 61 ∷ a = cc in absurd (not_equal_led b a led rest)
unsign Above AtLeast a b e whole led = let rest : a ≡ 61 ∷ b = cc in absurd (whole b rest)
unsign AtLeast Above a b e whole led = let rest : b ≡ 61 ∷ a = cc in absurd (not_equal_led b a led rest)
unsign Below Below a b e whole led = cc
unsign AtMost AtMost a b e whole led = cc
unsign Above Above a b e whole led = cc
unsign AtLeast AtLeast a b e whole led = cc
unsign Caret Caret a b e whole led = cc
unsign Tilde Tilde a b e whole led = cc
unsign r s a b e whole led = absurd (omega (arith, heads_same _ _ _ _ e))

-- no term begins with a sign and goes on with no dotted version
pub signed-none : (text rest : List ℕ) (relation : Relation) → IsSigned text relation rest → ((d : Dotted) → IsDotted rest d → ⊥) → (t : Term) → IsTerm text t → ⊥
signed-none text rest relation signed none term.Any h =
    let first = sign_first relation rest 42 [] (sym signed.whole ∙ h) in omega (arith, first.0)
signed-none text rest relation signed none (term.Is v) (inl equal) =
    (sign_first relation rest 61 equal.rest (sym signed.whole ∙ equal.whole)).1 refl
signed-none text rest relation signed none (term.Is v) (inr bare) = bare.0.no_sign relation rest signed.whole
signed-none text rest relation signed none (term.Compared other d) h =
    let same : rest ≡ h.0 = unsign relation other rest h.0 (sym signed.whole ∙ h.1) signed.longest (led_dotted h.0 d h.2) in
    none d (subst (λ part. IsDotted part d) (sym same) h.2)
signed-none text rest relation signed none (term.Wildcard numbers) h =
    let led = led_wildcard text numbers h in
    let first = sign_first relation rest led.first led.rest (sym signed.whole ∙ led.whole) in
    let high : led.first ≤ 57 = led.high in
    omega (arith, first.0)

-- what stands before the wildcard is one
before_same : (f g : List ℕ) (m n : ℕ) → f ++ 46 ∷ m ∷ [] ≡ g ++ 46 ∷ n ∷ [] → f ≡ g
before_same [] [] m n e = refl
before_same [] (y ∷ g) m n e = let rest : m ∷ [] ≡ g ++ 46 ∷ n ∷ [] = cc in absurd (omega (arith, ap length rest, length-append g (46 ∷ n ∷ [])))
before_same (x ∷ f) [] m n e = let rest : f ++ 46 ∷ m ∷ [] ≡ n ∷ [] = cc in absurd (omega (arith, ap length rest, length-append f (46 ∷ m ∷ [])))
before_same (x ∷ f) (y ∷ g) m n e =
    let rest : f ++ 46 ∷ m ∷ [] ≡ g ++ 46 ∷ n ∷ [] = cc in
    let same : f ≡ g = before_same f g m n rest in
    cc

pub wildcard-found : (text front : List ℕ) → IsBeforeWildcard text front → (read : Option (List ℕ)) → read ≡ numbers_of front → IfSome read (IsWildcard text)
wildcard-found text front before None e = tt
wildcard-found text front before (Some numbers) e = record { front = front; before = before; of_numbers = numbers_of-found front numbers (sym e) }

pub wildcard-none : (text front : List ℕ) → IsBeforeWildcard text front → (read : Option (List ℕ)) → read ≡ numbers_of front → IfNone read ((numbers : List ℕ) → IsWildcard text numbers → ⊥)
wildcard-none text front before (Some numbers) e = tt
wildcard-none text front before None e = λ numbers h.
    let same : h.front ≡ front = before_same h.front front h.before.mark before.mark (sym h.before.whole ∙ before.whole) in
    some_none (numbers_of-only front numbers (subst (λ part. IsDotJoined IsNumeral part numbers) same h.of_numbers)) (sym e)
