-- The numbers of a switch that fit.
use Rattle.std.proofs.Common.{◌≡◌, ℕ, suc, ◌+◌, ◌-◌, ◌<◌, ◌≤◌, Bool, true, false, cond, ltb, leb, ℤ, pos, negsuc, Fits, zero, refl, sym, ap, subst, ◌∙◌, arith, ◌⊎◌, inl, inr}
use Rattle.std.specs.Prelude.{FitsSigned, IsTrue, ◌↔◌, unsigned_abs, ◌&&◌, if◌then◌else◌}
use Rattle.std.specs.Int.{w32, cast_signed}
use Rattle.std.specs.Int.Signed.{mag}
use Rattle.std.proofs.Math.IntN.{sub_ℕ}
use Rattle.std.proofs.lemmas.Bool.{leb-true, leb-false, le-leb, ltb-true, ltb-false, lt-ltb, cases_lt}
use Rattle.std.proofs.lemmas.Int.{to_z_pos}
use Rattle.std.proofs.Math.Facts.{sfits_to_z, to_z-neg}
use Rattle.wv_room.specs.Number.{AllowsSome}
use Rattle.wv_insn.specs.Spelling.{targets}
use Rattle.wv_code.specs.declared.switch_number.SwitchPart.{SwitchPart}
use Rattle.wv_code.specs.declared.switch_number.SwitchPart.TheVariants as parts
use Rattle.wv_code.specs.Fitting.{least_int, may_be, part_behind, part_fits}

-- ---- keys

-- a number of ℤ that isn't far from zero, counted from below
abbrev pub shift : ℕ → ℤ → ℕ
shift s (pos n) = s + n
shift s (negsuc n) = s - suc n

-- the absolute value of a difference
abs_sub : (a b : ℕ) → unsigned_abs (sub_ℕ a b) ≡ (a - b) + (b - a)
abs_sub a b = by_test (ltb a b) refl
  where
    by_test : (t : Bool) → ltb a b ≡ t → unsigned_abs (cond t (negsuc (b - suc a)) (pos (a - b))) ≡ (a - b) + (b - a)
    by_test true e = omega (arith, ltb-true a b e)
    by_test false e = omega (arith, ltb-false a b e)

by_order : (p q x : ℕ) (t : Bool) → (t ≡ true → (p ≤ q) × (x ≡ q - p)) → (t ≡ false → q < p) → (if t then x + 1 else 0) ≡ suc q - p
by_order p q x true yes_is no_is = let h = yes_is refl in omega (arith, h.0, h.1)
by_order p q x false yes_is no_is = omega (arith, no_is refl)

pub targets_is : (s : ℕ) (low high : ℤ) → mag low < s → mag high < s → targets low high ≡ suc (shift s high) - shift s low
unfolding targets
targets_is s (pos zero) (pos b) l h = by_order (s + 0) (s + b) (b + 0) (leb 0 b) (λ e. (omega arith, omega arith)) (λ e. omega (arith, leb-false 0 b e))
targets_is s (pos (suc a)) (pos b) l h = by_order (s + suc a) (s + b) (unsigned_abs (sub_ℕ b (suc a))) (leb (suc a) b) (λ e. (omega (arith, leb-true (suc a) b e), omega (arith, leb-true (suc a) b e, abs_sub b (suc a)))) (λ e. omega (arith, leb-false (suc a) b e))
targets_is s (pos a) (negsuc b) l h = omega arith
targets_is s (negsuc a) (pos b) l h = omega arith
targets_is s (negsuc a) (negsuc b) l h = by_order (s - suc a) (s - suc b) (unsigned_abs (sub_ℕ (suc a) (suc b))) (leb b a) (λ e. (omega (arith, leb-true b a e), omega (arith, leb-true b a e, abs_sub (suc a) (suc b), l, h))) (λ e. omega (arith, leb-false b a e, l, h))

shift_below : (s : ℕ) (z : ℤ) → mag z < s → shift s z < s + s
shift_below s (pos n) h = omega (arith, h)
shift_below s (negsuc n) h = omega (arith, h)

pub few_targets : (low high : ℤ) → FitsSigned w32 low → FitsSigned w32 high → targets low high ≤ 4294967296
few_targets low high l h = omega (arith, targets_is 2147483648 low high l.sfits h.sfits, shift_below 2147483648 high h.sfits)

-- a greater `high` has no fewer keys
pub more_targets : (s : ℕ) (low high other : ℤ) → mag low < s → mag high < s → mag other < s → shift s high ≤ shift s other → targets low high ≤ targets low other
more_targets s low high other l h o le = omega (arith, targets_is s low high l h, targets_is s low other l o, le)

-- ---- numbers of 32 bits in two's complement

data Half (s n v : ℕ) : Type 0 where
  low : n < 2147483648 → v ≡ s + n → Half s n v
  high : 2147483648 ≤ n → v + 4294967296 ≡ s + n → Half s n v

pub mag_cast : (n : ℕ) → n < 4294967296 → mag (cast_signed w32 n) < 2147483648
mag_cast n lt = let fits : Fits w32 n = record { fits = lt } in (sfits_to_z fits).sfits

half : (s n : ℕ) → 2147483648 ≤ s → n < 4294967296 → Half s n (shift s (cast_signed w32 n))
half s n wide lt = elim (cases_lt n 2147483648) [
  | inl less ↦ low less (ap (shift s) (to_z_pos w32 n less))
  | inr least ↦
      let k : ℕ = 4294967295 - n in
      let is : 4294967296 - suc k ≡ n = omega (arith, lt) in
      let z : cast_signed w32 n ≡ negsuc k = ap (cast_signed w32) (sym is) ∙ to_z-neg w32 k (omega (arith, least)) in
      high least (omega (arith, ap (shift s) z, lt, least, wide))
]

-- no key is below the least number but itself
pub no_targets : (n : ℕ) → n < 4294967296 → n < 2147483648 ⊎ (2147483648 < n) → targets (cast_signed w32 n) least_int ≡ 0
no_targets n lt other = by_half (half 2147483648 n (omega arith) lt)
  where
    is : targets (cast_signed w32 n) least_int ≡ suc (shift 2147483648 least_int) - shift 2147483648 (cast_signed w32 n)
    is = targets_is 2147483648 (cast_signed w32 n) least_int (mag_cast n lt) (omega arith)

    by_half : Half 2147483648 n (shift 2147483648 (cast_signed w32 n)) → targets (cast_signed w32 n) least_int ≡ 0
    by_half (low a s) = omega (arith, is, s)
    by_half (high a s) = elim other [
      | inl less ↦ absurd (omega (arith, a, less))
      | inr more ↦ omega (arith, is, s, more)
    ]

-- ---- parts

and_parts : (a b : Bool) → (a && b) ≡ true → (a ≡ true) × (b ≡ true)
and_parts true b e = (refl, e)
and_parts false b e = absurd cc

both : (a b : Bool) → a ≡ true → b ≡ true → (a && b) ≡ true
both a b e f = rw (e, f) refl

pub fits_parts : (part : SwitchPart) (tail room n : ℕ) → part_fits part tail room n ≡ true → (may_be part n ≡ true) × (part_behind part n + tail ≤ room)
unfolding part_fits
fits_parts part tail room n e = let p = and_parts (may_be part n) (leb (part_behind part n + tail) room) e in (p.0, leb-true (part_behind part n + tail) room p.1)

pub parts_fit : (part : SwitchPart) (tail room n : ℕ) → may_be part n ≡ true → part_behind part n + tail ≤ room → part_fits part tail room n ≡ true
unfolding part_fits
parts_fit part tail room n e le = both (may_be part n) (leb (part_behind part n + tail) room) e (le-leb (part_behind part n + tail) room le)

-- one number fits wherever the other does
record Better (part : SwitchPart) (k n : ℕ) : Type 0 where
  may : may_be part n ≡ true → may_be part k ≡ true
  less : part_behind part k ≤ part_behind part n

better_fits : (part : SwitchPart) (tail room k n : ℕ) → Better part k n → part_fits part tail room n ≡ true → part_fits part tail room k ≡ true
better_fits part tail room k n b e = let p = fits_parts part tail room n e in parts_fit part tail room k (b.may p.0) (omega (arith, b.less, p.1))

-- Some number between two fits where one of them does, or else the least of those with a sign that is between them.
abbrev pub OneOf : SwitchPart → ℕ → ℕ → ℕ → ℕ → Type 0
OneOf part tail room least most = (part_fits part tail room least ≡ true) ⊎ (part_fits part tail room most ≡ true) ⊎ ((least < 2147483648) × (2147483648 ≤ most) × (part_fits part tail room 2147483648 ≡ true))

high_better : (s : ℕ) (z : ℤ) (k n : ℕ) → 2147483648 ≤ s → mag z < s → k < 4294967296 → n < 4294967296 → shift s (cast_signed w32 k) ≤ shift s (cast_signed w32 n) → Better (parts.High z) k n
unfolding part_behind
high_better s z k n wide m lt less le = record { may = λ e. refl; less = omega (arith, more_targets s z (cast_signed w32 k) (cast_signed w32 n) m (omega (arith, mag_cast k lt, wide)) (omega (arith, mag_cast n less, wide)) le) }

low_better : (k n : ℕ) → targets (cast_signed w32 k) least_int ≡ 0 → Better parts.Low k n
unfolding part_behind
low_better k n none = record { may = λ e. refl; less = omega (arith, none) }

count_better : (k n : ℕ) → k ≤ n → Better parts.Count k n
unfolding part_behind
count_better k n le = record { may = λ e. lt-ltb k 2147483648 (omega (arith, ltb-true n 2147483648 e)); less = omega arith }

module _ (part : SwitchPart) (tail room least most n : ℕ) (from : least ≤ n) (to : n ≤ most) (e : part_fits part tail room n ≡ true) where
  by_least : Better part least n → OneOf part tail room least most
  by_least b = inl (better_fits part tail room least n b e)

  by_most : Better part most n → OneOf part tail room least most
  by_most b = inr (inl (better_fits part tail room most n b e))

  by_sign : least < 2147483648 → 2147483648 ≤ n → Better part 2147483648 n → OneOf part tail room least most
  by_sign lt le b = inr (inr (lt, omega (arith, le, to), better_fits part tail room 2147483648 n b e))

high_one : (s : ℕ) (z : ℤ) (tail room least most n : ℕ) → 2147483648 ≤ s → mag z < s → n < 4294967296 → least ≤ n → n ≤ most → Half s least (shift s (cast_signed w32 least)) → Half s n (shift s (cast_signed w32 n))
    → part_fits (parts.High z) tail room n ≡ true → OneOf (parts.High z) tail room least most
high_one s z tail room least most n wide m lt from to (low a u) (low b v) e = by_least (parts.High z) tail room least most n from to e (high_better s z least n wide m (omega (arith, from, lt)) lt (omega (arith, u, v, from)))
high_one s z tail room least most n wide m lt from to (high a u) (low b v) e = absurd (omega (arith, a, b, from))
high_one s z tail room least most n wide m lt from to (high a u) (high b v) e = by_least (parts.High z) tail room least most n from to e (high_better s z least n wide m (omega (arith, from, lt)) lt (omega (arith, u, v, from)))
high_one s z tail room least most n wide m lt from to (low a u) (high b v) e = by_sign (parts.High z) tail room least most n from to e a b (high_better s z 2147483648 n wide m (omega arith) lt (omega (arith, v, b, wide)))

low_one : (tail room least most n : ℕ) → most < 4294967296 → least ≤ n → n ≤ most → part_fits parts.Low tail room n ≡ true → OneOf parts.Low tail room least most
low_one tail room least most n lt from to e = elim (cases_lt least 2147483648) [
  | inl less ↦ by_least parts.Low tail room least most n from to e (low_better least n (no_targets least (omega (arith, from, to, lt)) (inl less)))
  | inr signed ↦ elim (cases_lt 2147483648 most) [
    | inl more ↦ by_most parts.Low tail room least most n from to e (low_better most n (no_targets most lt (inr more)))
    | inr le ↦ inl (subst (λ (k : ℕ). part_fits parts.Low tail room k ≡ true) (omega (arith, from, to, le, signed)) e)
  ]
]

pub one_of : (part : SwitchPart) (tail room least most : ℕ) → most < 4294967296 → AllowsSome (λ n. part_fits part tail room n ≡ true) least most → OneOf part tail room least most
one_of parts.Low tail room least most lt s = low_one tail room least most s.value lt s.low s.high s.allowed
one_of (parts.High z) tail room least most lt s =
    let base : ℕ = 2147483648 + suc (mag z) in
    let small : s.value < 4294967296 = omega (arith, s.high, lt) in
    high_one base z tail room least most s.value (omega arith) (omega arith) small s.low s.high (half base least (omega arith) (omega (arith, s.low, small))) (half base s.value (omega arith) small) s.allowed
one_of parts.Count tail room least most lt s = by_least parts.Count tail room least most s.value s.low s.high s.allowed (count_better least s.value s.low)

-- what the three tests tell
pub tried : (part : SwitchPart) (tail room least most : ℕ) → least ≤ most → OneOf part tail room least most → AllowsSome (λ n. part_fits part tail room n ≡ true) least most
tried part tail room least most le (inl e) = record { value = least; low = omega arith; high = le; allowed = e }
tried part tail room least most le (inr (inl e)) = record { value = most; low = le; high = omega arith; allowed = e }
tried part tail room least most le (inr (inr e)) = record { value = 2147483648; low = omega (arith, e.0); high = e.1; allowed = e.2 }

pub last_tried : (part : SwitchPart) (tail room least most : ℕ) (b : Bool) → least ≤ most → most < 4294967296 → (part_fits part tail room least ≡ true → IsTrue false) → (part_fits part tail room most ≡ true → IsTrue false)
    → (IsTrue b → (least < 2147483648) × (2147483648 ≤ most) × (part_fits part tail room 2147483648 ≡ true)) → ((least < 2147483648) × (2147483648 ≤ most) × (part_fits part tail room 2147483648 ≡ true) → IsTrue b)
    → IsTrue b ↔ AllowsSome (λ n. part_fits part tail room n ≡ true) least most
last_tried part tail room least most b le lt not_least not_most to from = (λ t. tried part tail room least most le (inr (inr (to t))), λ s. last (one_of part tail room least most lt s))
  where
    last : OneOf part tail room least most → IsTrue b
    last (inl e) = absurd (let f = not_least e in cc)
    last (inr (inl e)) = absurd (let f = not_most e in cc)
    last (inr (inr e)) = from e
