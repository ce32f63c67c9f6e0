-- The numbers that begin with the bytes read so far are those between a least and a greatest.
use Rattle.std.proofs.Common.{◌≡◌, ℕ, zero, suc, ◌+◌, ◌-◌, ◌*◌, ◌/◌, ◌%◌, ◌^◌, ◌<◌, ◌≤◌, List, [], ◌∷◌, ◌++◌, length, get_or, take, refl, ap, ◌∙◌, arith, add-one, pow-add}
use Rattle.std.specs.List.{AllByRecursion}
use Rattle.std.proofs.Math.Nat.{pow-suc, pow-succ', div-add-mod, mul-le-mul_left, mul-div_cancel, div-lt_iff_lt-mul}
use Rattle.std.proofs.Math.Seq.{take-suc}
use Rattle.std.proofs.lemmas.List.{length-append, length-take}
use Rattle.wv_room.specs.Number.{number_of, BeginsWith, AllowsSome}

abbrev pub AreBytes : List ℕ → Type 0
AreBytes bs = AllByRecursion (λ b. b < 256) bs

number_of-append : (xs ys : List ℕ) → number_of (xs ++ ys) ≡ number_of xs * 256 ^ length ys + number_of ys
number_of-append [] ys = omega arith
number_of-append (x ∷ xs) ys =
    let e = number_of-append xs ys in
    let p : 256 ^ length (xs ++ ys) ≡ 256 ^ length xs * 256 ^ length ys = ap (λ (k : ℕ). 256 ^ k) (length-append xs ys) ∙ pow-add 256 (length xs) (length ys) in
    let first : x * 256 ^ length (xs ++ ys) ≡ x * (256 ^ length xs * 256 ^ length ys) = ap (λ (k : ℕ). x * k) p in
    omega (arith, e, first)

pow_pos : (k : ℕ) → 0 < 256 ^ k
pow_pos zero = omega arith
pow_pos (suc k) = let p = pow_pos k in rw pow-suc (omega arith)

below : (bs : List ℕ) → AreBytes bs → number_of bs < 256 ^ length bs
below [] h = omega arith
below (b ∷ bs) h = let p = below bs h.1 in rw pow-succ' (omega (arith, mul-le-mul_left (256 ^ length bs) h.0))

-- the bytes of a number, so many
digits : ℕ → ℕ → List ℕ
digits zero n = []
digits (suc k) n = n / 256 ^ k ∷ digits k (n % 256 ^ k)

digits_spell : (k n : ℕ) → n < 256 ^ k → (length (digits k n) ≡ k) × AreBytes (digits k n) × (number_of (digits k n) ≡ n)
unfolding digits
digits_spell zero n h = (refl, tt, omega arith)
digits_spell (suc k) n h =
    let pos = pow_pos k in
    let small : n % 256 ^ k < 256 ^ k = omega (arith, pos) in
    let rest = digits_spell k (n % 256 ^ k) small in
    let parts = div-add-mod n (256 ^ k) in
    let upper : n < 256 * 256 ^ k = rw (← pow-succ' 256 k) h in
    let first : n / 256 ^ k < 256 = (div-lt_iff_lt-mul {k = 256 ^ k} {x = n} {y = 256} pos).1 upper in
    (ap suc rest.0, (first, rest.1), rw rest.0 (omega (arith, parts, rest.2)))

-- every number from the least to the greatest begins with the bytes
between_begins : (width : ℕ) (front : List ℕ) (n : ℕ) → length front ≤ width → number_of front * 256 ^ (width - length front) ≤ n → n < number_of front * 256 ^ (width - length front) + 256 ^ (width - length front) → BeginsWith width front n
between_begins width front n le low high =
    let k = width - length front in
    let base = number_of front * 256 ^ k in
    let d = digits_spell k (n - base) (omega arith) in
    record {
      rest = digits k (n - base);
      bytes = d.1;
      wide = omega (arith, d.0);
      spelled = rw (number_of-append, d.0, d.2) (omega arith);
    }

-- and no other
begins_between : (width : ℕ) (front : List ℕ) (n : ℕ) → BeginsWith width front n → (number_of front * 256 ^ (width - length front) ≤ n) × (n < number_of front * 256 ^ (width - length front) + 256 ^ (width - length front))
begins_between width front n f =
    let left : width - length front ≡ length f.rest = omega (arith, f.wide) in
    let e = number_of-append front f.rest in
    let b = below f.rest f.bytes in
    rw left (omega (arith, e, f.spelled), omega (arith, e, f.spelled, b))

-- What has been read so far: the allowed numbers that begin with it are those in the span from the least on.
pub record Reading (allows : ℕ → Type 0) (width : ℕ) (bytes : List ℕ) (place least span : ℕ) : Type 0 where
  pub within : place ≤ width
  pub read : place ≤ length bytes
  pub span_is : span ≡ 256 ^ (width - place)
  pub least_is : least ≡ number_of (take place bytes) * span
  pub room : least + span ≤ 4294967296
  pub begun : 0 < place → AllowsSome allows least (least + span - 1)

module _ (allows : ℕ → Type 0) (width : ℕ) (bytes : List ℕ) (place least span : ℕ) (r : Reading allows width bytes place least span) where
  pub begun_with : 0 < place → (n : ℕ) × allows n × BeginsWith width (take place bytes) n
  begun_with h =
      let a = r.begun h in
      let len : length (take place bytes) ≡ place = omega (arith, length-take place bytes, r.read) in
      let pos = pow_pos (width - place) in (
        a.value,
        a.allowed,
        between_begins width (take place bytes) a.value (omega (arith, len, r.within))
            (rw (len, ← r.span_is, ← r.least_is) a.low) (rw (len, ← r.span_is, ← r.least_is) (omega (arith, a.high, r.span_is, pos))),
      )

  module _ (more : place < width) (here : place < length bytes) (byte : get_or bytes place 0 < 256) where
    pub narrowed : span ≡ 256 * (span / 256)
    narrowed =
        let k : width - place ≡ suc (width - (place + 1)) = omega arith in
        let e : span ≡ 256 ^ (width - (place + 1)) * 256 = r.span_is ∙ rw (k, pow-suc) refl in
        let d : 256 ^ (width - (place + 1)) * 256 / 256 ≡ 256 ^ (width - (place + 1)) = mul-div_cancel (256 ^ (width - (place + 1))) {n = 256} (omega arith) in
        let q : span / 256 ≡ 256 ^ (width - (place + 1)) = rw e d in
        omega (arith, e, q)

    next_span : span / 256 ≡ 256 ^ (width - (place + 1))
    next_span =
        let k : width - place ≡ suc (width - (place + 1)) = omega arith in
        let e : span ≡ 256 ^ (width - (place + 1)) * 256 = r.span_is ∙ rw (k, pow-suc) refl in
        omega (arith, e, narrowed)

    next_least : least + get_or bytes place 0 * (span / 256) ≡ number_of (take (place + 1) bytes) * (span / 256)
    next_least =
        let t : number_of (take (suc place) bytes) ≡ number_of (take place bytes) * 256 ^ 1 + (get_or bytes place 0 * 1 + 0) = ap number_of (take-suc bytes place 0 here) ∙ number_of-append (take place bytes) (get_or bytes place 0 ∷ []) in
        let wider : number_of (take place bytes) * span ≡ number_of (take place bytes) * (256 * (span / 256)) = ap (λ (k : ℕ). number_of (take place bytes) * k) narrowed in
        rw (add-one, t) (omega (arith, r.least_is, wider))

    pub next_room : least + get_or bytes place 0 * (span / 256) + span / 256 ≤ 4294967296
    next_room = omega (arith, narrowed, r.room, mul-le-mul_left (span / 256) byte)

    pub next_positive : 0 < span / 256
    next_positive = rw next_span (pow_pos (width - (place + 1)))

    pub next_reading : AllowsSome allows (least + get_or bytes place 0 * (span / 256)) (least + get_or bytes place 0 * (span / 256) + span / 256 - 1) → Reading allows width bytes (place + 1) (least + get_or bytes place 0 * (span / 256)) (span / 256)
    next_reading some = record {
      within = omega arith;
      read = omega arith;
      span_is = next_span;
      least_is = next_least;
      room = next_room;
      begun = λ _. some;
    }

    pub stops : (AllowsSome allows (least + get_or bytes place 0 * (span / 256)) (least + get_or bytes place 0 * (span / 256) + span / 256 - 1) → ⊥) → (n : ℕ) → allows n → BeginsWith width (take (place + 1) bytes) n → ⊥
    stops none n allowed front =
        let b = begins_between width (take (place + 1) bytes) n front in
        let left : width - length (take (place + 1) bytes) ≡ width - (place + 1) = omega (arith, length-take (place + 1) bytes) in
        let low : number_of (take (place + 1) bytes) * (span / 256) ≤ n = rw (next_span, ← left) b.0 in
        let high : n < number_of (take (place + 1) bytes) * (span / 256) + span / 256 = rw (next_span, ← left) b.1 in
        none (record { value = n; low = omega (arith, next_least, low); high = omega (arith, next_least, high, next_positive); allowed = allowed })

pub narrow : (width : ℕ) → width ≤ 4 → 256 ^ width ≤ 4294967296
narrow zero h = omega arith
narrow (suc zero) h = omega arith
narrow (suc (suc zero)) h = omega arith
narrow (suc (suc (suc zero))) h = omega arith
narrow (suc (suc (suc (suc zero)))) h = omega arith
narrow (suc (suc (suc (suc (suc width))))) h = absurd (omega arith)
