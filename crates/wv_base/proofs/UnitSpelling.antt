-- Reading one unit is the inverse of its spelling.
use Rattle.std.proofs.Common.{◌≡◌, ℕ, zero, suc, ◌+◌, ◌-◌, ◌*◌, ◌/◌, ◌%◌, ◌^◌, ◌<◌, ◌≤◌, Bool, true, false, cond, List, [], ◌∷◌, ◌++◌, length, take, Result, Ok, Err, refl, sym, ◌∙◌, ◌⊎◌, inl, inr, lit<, lit≤, arith}
use Rattle.std.specs.Prelude.{◌&&◌, ◌||◌, ◌==◌, nat_lt, nat_le}
use Rattle.std.proofs.lemmas.Bool.{cases_lt, cases_Bool}
use Rattle.std.proofs.lemmas.List.{append-nil}
use Rattle.std.proofs.lemmas.Bool.Decides.{nat_tests}
use Rattle.wv_base.specs.Modified.{unit_spelling}
use Rattle.wv_base.specs.ModifiedReading.{is_next, two_at, third_at, three_at, unit_at}

spelling_one : (unit : ℕ) → 0 < unit → unit < 0x80 → unit_spelling unit ≡ unit ∷ []
spelling_one unit low high = grind (arith, nat_tests)

spelling_zero : unit_spelling 0 ≡ 0xC0 ∷ 0x80 ∷ []
spelling_zero = refl

spelling_two : (unit : ℕ) → 0x80 ≤ unit → unit < 0x800 → unit_spelling unit ≡ (0xC0 + unit / 64) ∷ (0x80 + unit % 64) ∷ []
spelling_two unit low high = grind (arith, nat_tests)

spelling_three : (unit : ℕ) → 0x800 ≤ unit → unit_spelling unit ≡ (0xE0 + unit / 4096) ∷ (0x80 + unit / 64 % 64) ∷ (0x80 + unit % 64) ∷ []
spelling_three unit low = grind (arith, nat_tests)

again_one : (unit : ℕ) (rest : List ℕ) → 0 < unit → unit < 0x80 → unit_at (unit ∷ rest) ≡ Ok (unit, rest)
unfolding unit_at
again_one unit rest low high = grind (arith, nat_tests)

again_two : (unit : ℕ) (rest : List ℕ) → 0x80 ≤ unit → unit < 0x800 → unit_at ((0xC0 + unit / 64) ∷ (0x80 + unit % 64) ∷ rest) ≡ Ok (unit, rest)
unfolding unit_at two_at
again_two unit rest low high = grind (arith, nat_tests)

again_three : (unit : ℕ) (rest : List ℕ) → 0x800 ≤ unit → unit < 2 ^ 16 → unit_at ((0xE0 + unit / 4096) ∷ (0x80 + unit / 64 % 64) ∷ (0x80 + unit % 64) ∷ rest) ≡ Ok (unit, rest)
unfolding unit_at three_at third_at
again_three unit rest low high = grind (arith, nat_tests)

-- what was written is read again, whatever follows
pub unit_again : (unit : ℕ) (rest : List ℕ) → unit < 2 ^ 16 → unit_at (unit_spelling unit ++ rest) ≡ Ok (unit, rest)
unit_again zero rest high = unfold unit_at in unfold two_at in refl
unit_again (suc n) rest high =
    elim (cases_lt (suc n) 0x80) [
      | inl one ↦ rw (spelling_one (suc n) (omega arith) one) (again_one (suc n) rest (omega arith) one)
      | inr more ↦ elim (cases_lt (suc n) 0x800) [
        | inl two ↦ rw (spelling_two (suc n) more two) (again_two (suc n) rest more two)
        | inr three ↦ rw (spelling_three (suc n) three) (again_three (suc n) rest three high)
      ]
    ]

-- what is read was spelled so
abbrev pub IsFront : List ℕ → ℕ × List ℕ → Type 0
IsFront bytes found = (bytes ≡ unit_spelling found.0 ++ found.1) × (found.0 < 2 ^ 16)

test_passed : {A : Type 0} (b : Bool) (x y : A) (at : ℕ) → cond b (Ok x) (Err at) ≡ Ok y → (b ≡ true) × (x ≡ y)
test_passed true x y at e = (refl, cc)
test_passed false x y at e = absurd cc

then_passed : {A : Type 0} (b : Bool) (r : Result A ℕ) (y : A) (at : ℕ) → cond b r (Err at) ≡ Ok y → (b ≡ true) × (r ≡ Ok y)
then_passed true r y at e = (refl, e)
then_passed false r y at e = absurd cc

pub ok_is : (x y : ℕ × List ℕ) → ◌≡◌ {A = Result (ℕ × List ℕ) ℕ} (Ok x) (Ok y) → x ≡ y
ok_is x y e = cc

two_bytes : (a b : ℕ) (rest : List ℕ) → 0xC2 ≤ a → a < 0xE0 → 0x80 ≤ b → b < 0xC0 → IsFront (a ∷ b ∷ rest) ((a - 0xC0) * 64 + (b - 0x80), rest)
two_bytes a b rest a_low a_high b_low b_high =
    let unit : ℕ = (a - 0xC0) * 64 + (b - 0x80) in
    let high : unit / 64 ≡ a - 0xC0 = omega arith in
    let low : unit % 64 ≡ b - 0x80 = omega arith in
    let a-is : 0xC0 + unit / 64 ≡ a = omega arith in
    let b-is : 0x80 + unit % 64 ≡ b = omega arith in
    (rw (spelling_two unit (omega arith) (omega arith), a-is, b-is) refl, omega arith)

three_bytes : (a b c : ℕ) (rest : List ℕ) → 0xE0 ≤ a → a < 0xF0 → 0x80 ≤ b → b < 0xC0 → (a ≡ 0xE0 → 0xA0 ≤ b) → 0x80 ≤ c → c < 0xC0
    → IsFront (a ∷ b ∷ c ∷ rest) ((a - 0xE0) * 4096 + (b - 0x80) * 64 + (c - 0x80), rest)
three_bytes a b c rest a_low a_high b_low b_high canonical c_low c_high =
    let unit : ℕ = (a - 0xE0) * 4096 + (b - 0x80) * 64 + (c - 0x80) in
    let high : unit / 4096 ≡ a - 0xE0 = omega arith in
    let upper : unit / 64 ≡ (a - 0xE0) * 64 + (b - 0x80) = omega arith in
    let middle : unit / 64 % 64 ≡ b - 0x80 = rw upper (omega arith) in
    let low : unit % 64 ≡ c - 0x80 = omega arith in
    let a-is : 0xE0 + unit / 4096 ≡ a = omega arith in
    let b-is : 0x80 + unit / 64 % 64 ≡ b = omega arith in
    let c-is : 0x80 + unit % 64 ≡ c = omega arith in
    let wide : 0x800 ≤ unit = grind arith in
    (rw (spelling_three unit wide, a-is, b-is, c-is) refl, omega arith)

found_two : (a : ℕ) (bytes : List ℕ) (found : ℕ × List ℕ) → (a ≡ 0xC0) ⊎ (0xC2 ≤ a) → a < 0xE0 → two_at a bytes ≡ Ok found → IsFront (a ∷ bytes) found
unfolding two_at
found_two a [] found low high e = absurd cc
found_two a (b ∷ rest) found low high e =
    let passed = test_passed (is_next b && (nat_lt 0xC1 a || b == 0x80)) ((a - 0xC0) * 64 + (b - 0x80), rest) found 1 e in
    let b_low : 0x80 ≤ b = grind (arith, nat_tests, passed.0) in
    let b_high : b < 0xC0 = grind (arith, nat_tests, passed.0) in
    elim low [
      | inl zero-is ↦
          let b-is : b ≡ 0x80 = grind (arith, nat_tests, passed.0) in
          rw (← passed.1, zero-is, b-is) (refl, omega arith)
      | inr more ↦ rw (← passed.1) (two_bytes a b rest more high b_low b_high)
    ]

found_third : (a b : ℕ) (bytes : List ℕ) (found : ℕ × List ℕ) → 0xE0 ≤ a → a < 0xF0 → 0x80 ≤ b → b < 0xC0 → (a ≡ 0xE0 → 0xA0 ≤ b) → third_at a b bytes ≡ Ok found → IsFront (a ∷ b ∷ bytes) found
unfolding third_at
found_third a b [] found a_low a_high b_low b_high canonical e = absurd cc
found_third a b (c ∷ rest) found a_low a_high b_low b_high canonical e =
    let passed = test_passed (is_next c) ((a - 0xE0) * 4096 + (b - 0x80) * 64 + (c - 0x80), rest) found 2 e in
    let c_low : 0x80 ≤ c = grind (arith, nat_tests, passed.0) in
    let c_high : c < 0xC0 = grind (arith, nat_tests, passed.0) in
    rw (← passed.1) (three_bytes a b c rest a_low a_high b_low b_high canonical c_low c_high)

found_three : (a : ℕ) (bytes : List ℕ) (found : ℕ × List ℕ) → 0xE0 ≤ a → a < 0xF0 → three_at a bytes ≡ Ok found → IsFront (a ∷ bytes) found
unfolding three_at
found_three a [] found low high e = absurd cc
found_three a (b ∷ rest) found low high e =
    let passed = then_passed (is_next b && (nat_lt 0xE0 a || nat_le 0xA0 b)) (third_at a b rest) found 1 e in
    let b_low : 0x80 ≤ b = grind (arith, nat_tests, passed.0) in
    let b_high : b < 0xC0 = grind (arith, nat_tests, passed.0) in
    let canonical : a ≡ 0xE0 → 0xA0 ≤ b = λ is. grind (arith, nat_tests, passed.0) in
    found_third a b rest found low high b_low b_high canonical passed.1

-- how a unit's reading goes on behind its first byte
data FirstByte : ℕ → Type 0 where
  alone : {a : ℕ} → 0 < a → a < 0x80 → ((rest : List ℕ) → unit_at (a ∷ rest) ≡ Ok (a, rest)) → FirstByte a
  of_two : {a : ℕ} → (a ≡ 0xC0) ⊎ (0xC2 ≤ a) → a < 0xE0 → ((rest : List ℕ) → unit_at (a ∷ rest) ≡ two_at a rest) → FirstByte a
  of_three : {a : ℕ} → 0xE0 ≤ a → a < 0xF0 → ((rest : List ℕ) → unit_at (a ∷ rest) ≡ three_at a rest) → FirstByte a
  of_none : {a : ℕ} → ((rest : List ℕ) → unit_at (a ∷ rest) ≡ Err 0) → FirstByte a

is_alone : (a : ℕ) (rest : List ℕ) → 0 < a → a < 0x80 → unit_at (a ∷ rest) ≡ Ok (a, rest)
unfolding unit_at
is_alone a rest low high = grind (arith, nat_tests)

is_of_two : (a : ℕ) (rest : List ℕ) → (a ≡ 0xC0) ⊎ (0xC2 ≤ a) → a < 0xE0 → unit_at (a ∷ rest) ≡ two_at a rest
unfolding unit_at
is_of_two a rest low high = grind (arith, nat_tests)

is_of_three : (a : ℕ) (rest : List ℕ) → 0xE0 ≤ a → a < 0xF0 → unit_at (a ∷ rest) ≡ three_at a rest
unfolding unit_at
is_of_three a rest low high = grind (arith, nat_tests)

is_of_none : (a : ℕ) (rest : List ℕ) → (a ≡ 0) ⊎ ((0x80 ≤ a) × (a < 0xC0)) ⊎ (a ≡ 0xC1) ⊎ (0xF0 ≤ a) → unit_at (a ∷ rest) ≡ Err 0
unfolding unit_at
is_of_none a rest other = grind (arith, nat_tests)

first_byte : (a : ℕ) → FirstByte a
first_byte zero = of_none (λ rest. is_of_none 0 rest (inl refl))
first_byte (suc n) =
    let a : ℕ = suc n in
    elim (cases_lt a 0x80) [
      | inl l ↦ alone (omega arith) l (λ rest. is_alone a rest (omega arith) l)
      | inr g ↦ elim (cases_lt a 0xC0) [
        | inl l ↦ of_none (λ rest. is_of_none a rest (inr (inl (g, l))))
        | inr g ↦ elim (cases_lt a 0xC1) [
          | inl l ↦ let e : a ≡ 0xC0 = omega arith in of_two (inl e) (omega arith) (λ rest. is_of_two a rest (inl e) (omega arith))
          | inr g ↦ elim (cases_lt a 0xC2) [
            | inl l ↦ let e : a ≡ 0xC1 = omega arith in of_none (λ rest. is_of_none a rest (inr (inr (inl e))))
            | inr g ↦ elim (cases_lt a 0xE0) [
              | inl l ↦ of_two (inr g) l (λ rest. is_of_two a rest (inr g) l)
              | inr g ↦ elim (cases_lt a 0xF0) [
                | inl l ↦ of_three g l (λ rest. is_of_three a rest g l)
                | inr g ↦ of_none (λ rest. is_of_none a rest (inr (inr (inr g))))
              ]
            ]
          ]
        ]
      ]
    ]

read_found : (a : ℕ) (bytes : List ℕ) (found : ℕ × List ℕ) → FirstByte a → unit_at (a ∷ bytes) ≡ Ok found → IsFront (a ∷ bytes) found
read_found a bytes found (alone low high is) e =
    let f : (a, bytes) ≡ found = ok_is (a, bytes) found (sym (is bytes) ∙ e) in
    rw (← f) (rw (spelling_one a low high) refl, omega arith)
read_found a bytes found (of_two low high is) e = found_two a bytes found low high (sym (is bytes) ∙ e)
read_found a bytes found (of_three low high is) e = found_three a bytes found low high (sym (is bytes) ∙ e)
read_found a bytes found (of_none is) e = absurd (cc (is bytes))

pub unit_found : (bytes : List ℕ) (found : ℕ × List ℕ) → unit_at bytes ≡ Ok found → IsFront bytes found
unit_found [] found e = absurd (unfold unit_at in cc)
unit_found (a ∷ bytes) found e = read_found a bytes found (first_byte a) e

-- some unit's bytes begin so
abbrev pub BeginsUnit : List ℕ → Type 0
BeginsUnit front = (unit : ℕ) × (more : List ℕ) × (unit < 2 ^ 16) × (front ++ more ≡ unit_spelling unit)

-- a fault in the first unit shows in the bytes up to it, whatever follows, and not before
pub record UnitFaults (bytes : List ℕ) (at : ℕ) : Type 0 where
  pub within : at ≤ length bytes
  pub begins : BeginsUnit (take at bytes)
  pub again : at < length bytes → (more : List ℕ) → unit_at (take (at + 1) bytes ++ more) ≡ Err at

begins_nothing : BeginsUnit []
begins_nothing = (1, 1 ∷ [], lit< tt, refl)

begins_by : (front more : List ℕ) (unit : ℕ) → IsFront (front ++ more) (unit, []) → BeginsUnit front
begins_by front more unit is = (unit, more, is.1, is.0 ∙ append-nil (unit_spelling unit))

begins_two : (a : ℕ) → (a ≡ 0xC0) ⊎ (0xC2 ≤ a) → a < 0xE0 → BeginsUnit (a ∷ [])
begins_two a (inl is) high = rw is (0, 0x80 ∷ [], lit< tt, refl)
begins_two a (inr low) high = begins_by (a ∷ []) (0x80 ∷ []) _ (two_bytes a 0x80 [] low high (lit≤ tt) (lit< tt))

begins_three : (a : ℕ) → 0xE0 ≤ a → a < 0xF0 → BeginsUnit (a ∷ [])
begins_three a low high = begins_by (a ∷ []) (0xA0 ∷ 0x80 ∷ []) _ (three_bytes a 0xA0 0x80 [] low high (lit≤ tt) (lit< tt) (λ _. lit≤ tt) (lit≤ tt) (lit< tt))

begins_third : (a b : ℕ) → 0xE0 ≤ a → a < 0xF0 → 0x80 ≤ b → b < 0xC0 → (a ≡ 0xE0 → 0xA0 ≤ b) → BeginsUnit (a ∷ b ∷ [])
begins_third a b a_low a_high b_low b_high canonical = begins_by (a ∷ b ∷ []) (0x80 ∷ []) _ (three_bytes a b 0x80 [] a_low a_high b_low b_high canonical (lit≤ tt) (lit< tt))

test_failed : {A : Type 0} (b : Bool) (x : A) (at fault : ℕ) → cond b (Ok x) (Err at) ≡ Err fault → (b ≡ false) × (at ≡ fault)
test_failed true x at fault e = absurd cc
test_failed false x at fault e = (refl, cc)

err_is : {A : Type 0} (at fault : ℕ) → ◌≡◌ {A = Result A ℕ} (Err at) (Err fault) → at ≡ fault
err_is at fault e = cc

fault_two : (a : ℕ) (bytes : List ℕ) (fault : ℕ) → (a ≡ 0xC0) ⊎ (0xC2 ≤ a) → a < 0xE0 → two_at a bytes ≡ Err fault → UnitFaults (a ∷ bytes) fault
unfolding two_at
fault_two a [] fault low high e = rw (← err_is 1 fault e) (record { within = lit≤ tt; begins = begins_two a low high; again = λ lt. absurd (omega arith) })
fault_two a (b ∷ rest) fault low high e =
    let failed = test_failed (is_next b && (nat_lt 0xC1 a || b == 0x80)) ((a - 0xC0) * 64 + (b - 0x80), rest) 1 fault e in
    rw (← failed.1) (record {
      within = omega arith;
      begins = begins_two a low high;
      again = λ lt more. is_of_two a (b ∷ more) low high ∙ rw failed.0 refl;
    })

fault_third : (a b : ℕ) (bytes : List ℕ) (fault : ℕ) → 0xE0 ≤ a → a < 0xF0 → 0x80 ≤ b → b < 0xC0 → (a ≡ 0xE0 → 0xA0 ≤ b) → ((rest : List ℕ) → three_at a (b ∷ rest) ≡ third_at a b rest)
    → third_at a b bytes ≡ Err fault → UnitFaults (a ∷ b ∷ bytes) fault
unfolding third_at
fault_third a b [] fault a_low a_high b_low b_high canonical next e =
    rw (← err_is 2 fault e) (record { within = lit≤ tt; begins = begins_third a b a_low a_high b_low b_high canonical; again = λ lt. absurd (omega arith) })
fault_third a b (c ∷ rest) fault a_low a_high b_low b_high canonical next e =
    let failed = test_failed (is_next c) ((a - 0xE0) * 4096 + (b - 0x80) * 64 + (c - 0x80), rest) 2 fault e in
    rw (← failed.1) (record {
      within = omega arith;
      begins = begins_third a b a_low a_high b_low b_high canonical;
      again = λ lt more. is_of_three a (b ∷ c ∷ more) a_low a_high ∙ next (c ∷ more) ∙ rw failed.0 refl;
    })

-- the test of the second of three bytes
second_passes : (a b : ℕ) (rest : List ℕ) → (is_next b && (nat_lt 0xE0 a || nat_le 0xA0 b)) ≡ true → three_at a (b ∷ rest) ≡ third_at a b rest
unfolding three_at
second_passes a b rest passed = rw passed refl

second_fails : (a b : ℕ) (rest : List ℕ) → (is_next b && (nat_lt 0xE0 a || nat_le 0xA0 b)) ≡ false → three_at a (b ∷ rest) ≡ Err 1
unfolding three_at
second_fails a b rest failed = rw failed refl

fault_three : (a : ℕ) (bytes : List ℕ) (fault : ℕ) → 0xE0 ≤ a → a < 0xF0 → three_at a bytes ≡ Err fault → UnitFaults (a ∷ bytes) fault
fault_three a [] fault low high e = rw (← err_is {A = ℕ × List ℕ} 1 fault (unfold three_at in e)) (record { within = lit≤ tt; begins = begins_three a low high; again = λ lt. absurd (omega arith) })
fault_three a (b ∷ rest) fault low high e =
    elim (cases_Bool (is_next b && (nat_lt 0xE0 a || nat_le 0xA0 b))) [
      | inl passed ↦
          let b_low : 0x80 ≤ b = grind (arith, nat_tests, passed) in
          let b_high : b < 0xC0 = grind (arith, nat_tests, passed) in
          let canonical : a ≡ 0xE0 → 0xA0 ≤ b = λ is. grind (arith, nat_tests, passed) in
          fault_third a b rest fault low high b_low b_high canonical (λ more. second_passes a b more passed) (sym (second_passes a b rest passed) ∙ e)
      | inr failed ↦
          rw (← err_is 1 fault (sym (second_fails a b rest failed) ∙ e)) (record {
            within = omega arith;
            begins = begins_three a low high;
            again = λ lt more. is_of_three a (b ∷ more) low high ∙ second_fails a b more failed;
          })
    ]

read_faults : (a : ℕ) (bytes : List ℕ) (fault : ℕ) → FirstByte a → unit_at (a ∷ bytes) ≡ Err fault → UnitFaults (a ∷ bytes) fault
read_faults a bytes fault (alone low high is) e = absurd (cc (is bytes))
read_faults a bytes fault (of_two low high is) e = fault_two a bytes fault low high (sym (is bytes) ∙ e)
read_faults a bytes fault (of_three low high is) e = fault_three a bytes fault low high (sym (is bytes) ∙ e)
read_faults a bytes fault (of_none is) e =
    rw (← err_is 0 fault (sym (is bytes) ∙ e)) (record { within = omega arith; begins = begins_nothing; again = λ lt more. is more })

pub unit_faults : (bytes : List ℕ) (fault : ℕ) → unit_at bytes ≡ Err fault → UnitFaults bytes fault
unit_faults [] fault e = rw (← err_is {A = ℕ × List ℕ} 0 fault (unfold unit_at in e)) (record { within = lit≤ tt; begins = begins_nothing; again = λ lt. absurd (omega arith) })
unit_faults (a ∷ bytes) fault e = read_faults a bytes fault (first_byte a) e
