-- Which lengths of a content fit.
use Rattle.std.proofs.Common.{◌≡◌, ℕ, zero, suc, ◌+◌, ◌-◌, ◌*◌, ◌^◌, ◌<◌, ◌≤◌, true, List, [], ◌∷◌, length, Option, None, slice_get, if◌then◌else◌, max, min, refl, ap, inl, inr, arith}
use Rattle.std.proofs.lemmas.Bool.{cases_lt}
use Rattle.wv_base.specs.declared.class_file.PoolEntry.{PoolEntry}
use Rattle.wv_pool.specs.References.{text_in}
use Rattle.wv_code.specs.Reading.{length_fits, is_frames, names_frames, least_content}
use Rattle.wv_room.specs.Number.{AllowsSome}
use Rattle.wv_code.proofs.Rooms.{long_is, is_long}

pub no_lengths : (least left room low high : ℕ) → room < 6 * left → AllowsSome (λ n. length_fits least left room n ≡ true) low high → ⊥
no_lengths least left room low high few a = let l = long_is least left room a.value a.allowed in omega (arith, l.sum, l.fits.least)

pub lengths_to : (least left room low high greatest first : ℕ) → room ≡ greatest + 6 * left → (left ≡ 0 → first ≡ greatest) → (0 < left → first ≡ least) → AllowsSome (λ n. length_fits least left room n ≡ true) low high
    → (least ≤ greatest) × (first ≤ greatest) × (first ≤ high) × (low ≤ greatest) × (low ≤ high)
lengths_to least left room low high greatest first sum last others a =
    let l = long_is least left room a.value a.allowed in
    elim (cases_lt 0 left) [
      | inl some ↦ let is = others some in (omega (arith, l.sum, l.fits.least, l.low), omega (arith, is, l.sum, l.fits.least, l.low), omega (arith, is, l.low, a.high), omega (arith, l.sum, l.fits.least, a.low), omega (arith, a.low, a.high))
      | inr none ↦ let is = last (omega arith) in (omega (arith, l.sum, l.low), omega (arith, is), omega (arith, is, l.sum, l.fits.most, a.high), omega (arith, l.sum, a.low), omega (arith, a.low, a.high))
    ]

pub lengths_from : (least left room low high greatest first : ℕ) → room < 2 ^ 32 → room ≡ greatest + 6 * left → (left ≡ 0 → first ≡ greatest) → (0 < left → first ≡ least) → least ≤ greatest → max first low ≤ min greatest high → AllowsSome (λ n. length_fits least left room n ≡ true) low high
lengths_from least left room low high greatest first small sum last others le fits = elim (cases_lt 0 left) [
  | inl some ↦
      let is = others some in
      record { value = max first low; low = omega arith; high = omega (arith, fits); allowed = is_long least left room (max first low) (record { low = omega (arith, is); more = room - max first low; sum = omega (arith, fits, sum); fits = record { least = omega (arith, fits, sum); most = omega (arith, small, some) } }) }
  | inr none ↦
      let is = last (omega arith) in
      record { value = max first low; low = omega arith; high = omega (arith, fits); allowed = is_long least left room (max first low) (record { low = omega (arith, is, le); more = 0; sum = omega (arith, fits, is, sum); fits = record { least = omega arith; most = omega arith } }) }
]

pub first_of : ℕ → ℕ → ℕ → ℕ
first_of zero greatest least = greatest
first_of (suc left) greatest least = least

pub first_last : (left greatest least : ℕ) → left ≡ 0 → first_of left greatest least ≡ greatest
unfolding first_of
first_last zero greatest least e = refl
first_last (suc left) greatest least e = absurd (omega arith)

pub first_others : (left greatest least : ℕ) → 0 < left → first_of left greatest least ≡ least
unfolding first_of
first_others zero greatest least lt = absurd (omega arith)
first_others (suc left) greatest least lt = refl
