-- Reading the operands of switches that fit.
use Rattle.std.proofs.Common.{◌≡◌, ℕ, zero, suc, ◌+◌, ◌-◌, ◌*◌, ◌^◌, ◌<◌, ◌≤◌, Bool, true, false, cond, leb, List, [], ◌∷◌, length, get_or, ℤ, pos, negsuc, Fits, Result, Ok, Err, refl, sym, ap, subst, ◌∙◌, arith}
use Rattle.std.specs.Prelude.{FitsSigned}
use Rattle.std.specs.Int.{w32, from_be_bytes, to_be_bytes, cast_signed, cast_unsigned}
use Rattle.std.specs.Int.Signed.{mag}
use Rattle.std.proofs.Math.Facts.{sfits_to_z, Fits-of_z}
use Rattle.std.proofs.lemmas.Bool.{le-ltb, lt-leb, ltb-true, lt-ltb}
use Rattle.std.proofs.lemmas.Int.{to_z-of_z, of_z-to_z}
use Rattle.std.proofs.lemmas.Nat.{from_be_bytes-to_be_bytes_4}
use Rattle.wv_room.specs.Number.{number_of}
use Rattle.wv_pool.specs.Reading.{◌>>=◌}
use Rattle.wv_base.specs.declared.form.Form.TheVariants as form
use Rattle.wv_insn.specs.declared.raw.Raw.{Raw}
use Rattle.wv_insn.specs.declared.raw.Raw.TheVariants as raw
use Rattle.wv_insn.specs.Spelling.{padding, targets, signed, case, IsCase}
use Rattle.wv_insn.specs.Reading.{bytes_at, unsigned_at, signed_at, count_at, case_at, times, table_at, lookup_at}
use Rattle.wv_insn.proofs.Readers as plain
use Rattle.wv_insn.proofs.Numbers.{wide32, Bytes, some_bytes, Signed, Unsigned, int_signed, Listed, listed}
use Rattle.wv_insn.proofs.Operands.{Row, one_case}
use Rattle.wv_code.specs.declared.switch_number.SwitchPart.{SwitchPart}
use Rattle.wv_code.specs.declared.switch_number.SwitchPart.TheVariants as parts
use Rattle.wv_code.specs.Number.{some_below, number_from}
use Rattle.wv_code.specs.Fitting.{least_int, may_be, part_behind, part_fits, part_at, table_room, lookup_room}
use Rattle.wv_frames.proofs.Readers.{IsBytes, Reads, Then, then, resized, renamed, Seen, seen, ok_is}
use Rattle.wv_code.proofs.Sizes.{four_each, eight_each}
use Rattle.wv_code.proofs.Numbers.{AreBytes, IsNumber, NumberRoom, Passes, numbers, some_with, some_true, true_some}
use Rattle.wv_code.proofs.SwitchNumbers.{fits_parts, parts_fit, shift, more_targets, mag_cast}
use Rattle.wv_code.proofs.RoomReads.{sized, mapped, bind_same, bind_tested, bind_seen}

-- ---- numbers of four bytes

of_bytes : (bytes : List ℕ) → AreBytes bytes → IsBytes bytes
of_bytes [] h i = omega arith
of_bytes (b ∷ bytes) h zero = h.0
of_bytes (b ∷ bytes) h (suc i) = of_bytes bytes h.1 i

be_is : (text : List ℕ) → length text ≡ 4 → from_be_bytes w32 text ≡ number_of text
be_is [] len = absurd (omega (arith, len))
be_is (a ∷ []) len = absurd (omega (arith, len))
be_is (a ∷ b ∷ []) len = absurd (omega (arith, len))
be_is (a ∷ b ∷ c ∷ []) len = absurd (omega (arith, len))
be_is (a ∷ b ∷ c ∷ d ∷ []) len = omega arith
be_is (a ∷ b ∷ c ∷ d ∷ e ∷ text) len = absurd (omega (arith, len))

-- a number in four bytes is spelled so
number_spelled : (n : ℕ) (text : List ℕ) → IsNumber 4 n text → Unsigned w32 (2 ^ 32) n text
number_spelled n text s =
    let fits : IsBytes text = of_bytes text s.1 in
    let is : from_be_bytes w32 text ≡ n = be_is text s.0 ∙ s.2 in
    (subst (λ (k : ℕ). k < 2 ^ 32) is (wide32.below text fits), sym (wide32.back text s.0 fits) ∙ ap (to_be_bytes w32) is)

spelled_number : (n : ℕ) (text : List ℕ) → Unsigned w32 (2 ^ 32) n text → IsNumber 4 n text
spelled_number n text s = subst (IsNumber 4 n) (sym s.1) (refl, (omega arith, (omega arith, (omega arith, (omega arith, tt)))), sym (be_is (to_be_bytes w32 n) refl) ∙ from_be_bytes-to_be_bytes_4 n s.0)

number_small : (n : ℕ) (text : List ℕ) → IsNumber 4 n text → n < 256 ^ 4
number_small n text s = omega (arith, (number_spelled n text s).0)

number_signed : (n : ℕ) (text : List ℕ) → IsNumber 4 n text → Signed w32 (cast_signed w32 n) text
number_signed n text s =
    let u = number_spelled n text s in
    let fits : Fits w32 n = record { fits = u.0 } in
    (sfits_to_z fits, u.1 ∙ ap (to_be_bytes w32) (sym (of_z-to_z w32 n u.0)))

signed_number : (z : ℤ) (text : List ℕ) → Signed w32 z text → (n : ℕ) × (z ≡ cast_signed w32 n) × IsNumber 4 n text
signed_number z text s = (cast_unsigned w32 z, sym (to_z-of_z w32 z s.0), spelled_number (cast_unsigned w32 z) text ((Fits-of_z {w = w32} {z = z} s.0).fits, s.1))

-- ---- numbers behind which something fits

-- room for the number where some number has it
module _ (part : SwitchPart) (tail least : ℕ) (all : (n : ℕ) → n < 4294967296 → least ≤ part_behind part n) (best : ℕ) (small : best < 4294967296) (may : may_be part best ≡ true) (is : part_behind part best ≡ least) where
  room_to : (n : ℕ) → 4 + least + tail ≤ n → NumberRoom 4 (part_fits part tail) n
  room_to n room = record { more = n - 4; sum = omega (arith, room); some = true_some (256 ^ 4) best (λ k. part_fits part tail (n - 4) (0 * 256 ^ 4 + k)) (omega (arith, small)) fits }
    where
      fits : part_fits part tail (n - 4) (0 * 256 ^ 4 + best) ≡ true
      fits = ap (part_fits part tail (n - 4)) (omega arith) ∙ parts_fit part tail (n - 4) best may (omega (arith, is, room))

  room_from : (n : ℕ) → NumberRoom 4 (part_fits part tail) n → 4 + least + tail ≤ n
  room_from n r =
      let k = some_true (256 ^ 4) (λ k. part_fits part tail r.more (0 * 256 ^ 4 + k)) r.some in
      let p = fits_parts part tail r.more (0 * 256 ^ 4 + k.0) k.2 in
      omega (arith, p.1, all (0 * 256 ^ 4 + k.0) (omega (arith, k.1)), r.sum)

  pub part_reads : Reads (part_at part tail) (IsNumber 4) (λ n. 4 + least + tail ≤ n) (Passes 4 (part_fits part tail))
  part_reads = resized (NumberRoom 4 (part_fits part tail)) (λ n. 4 + least + tail ≤ n) room_to room_from (numbers 4 (part_fits part tail))

  -- as a signed number
  pub signed_reads : (room : ℤ → ℕ) → ((n : ℕ) → part_behind part n ≡ room (cast_signed w32 n)) → ((n : ℕ) → may_be part n ≡ true)
      → Reads (λ missing bytes. part_at part tail missing bytes >>= λ x. Ok (cast_signed w32 x.0, x.1)) (Signed w32) (λ n. 4 + least + tail ≤ n) (λ z m. room z + tail ≤ m)
  signed_reads room same any = mapped (Signed w32) (λ z m. room z + tail ≤ m) (cast_signed w32) to from part_reads
    where
      to : (n : ℕ) (text : List ℕ) (m : ℕ) → IsNumber 4 n text → Passes 4 (part_fits part tail) n m → Signed w32 (cast_signed w32 n) text × (room (cast_signed w32 n) + tail ≤ m)
      to n text m s e = (number_signed n text s, omega (arith, (fits_parts part tail m n e.1).1, same n))

      from : (z : ℤ) (text : List ℕ) (m : ℕ) → Signed w32 z text → room z + tail ≤ m → (n : ℕ) × (z ≡ cast_signed w32 n) × IsNumber 4 n text × Passes 4 (part_fits part tail) n m
      from z text m s le = let h = signed_number z text s in (h.0, h.1, h.2, (number_small h.0 text h.2, parts_fit part tail m h.0 (any h.0) (omega (arith, same h.0, le, ap room h.1))))

abbrev low_in : ℕ → ℕ → List ℕ → Result (ℤ × List ℕ) ℕ
low_in tail missing bytes = part_at parts.Low tail missing bytes >>= λ x. Ok (cast_signed w32 x.0, x.1)

low_reads : (tail : ℕ) → Reads (low_in tail) (Signed w32) (λ n. 4 + 4 + tail ≤ n) (λ z m. 4 + 4 * targets z least_int + tail ≤ m)
unfolding part_behind targets
low_reads tail = signed_reads parts.Low tail 4 (λ n lt. omega arith) 0 (omega arith) refl refl (λ z. 4 + 4 * targets z least_int) (λ n. refl) (λ n. refl)

abbrev high_in : ℤ → ℕ → ℕ → List ℕ → Result (ℤ × List ℕ) ℕ
high_in low tail missing bytes = part_at (parts.High low) tail missing bytes >>= λ x. Ok (cast_signed w32 x.0, x.1)

half_least : cast_signed w32 2147483648 ≡ least_int
half_least = refl

least_shift : (s : ℕ) (z : ℤ) → mag z < 2147483648 → 2147483648 ≤ s → shift s least_int ≤ shift s z
least_shift s (pos n) m le = omega arith
least_shift s (negsuc n) m le = omega (arith, m)

least_keys : (low : ℤ) (n : ℕ) → n < 4294967296 → targets low least_int ≤ targets low (cast_signed w32 n)
least_keys low n lt =
    let s : ℕ = 2147483648 + suc (mag low) in
    let m = mag_cast n lt in
    more_targets s low least_int (cast_signed w32 n) (omega arith) (omega arith) (omega (arith, m)) (least_shift s (cast_signed w32 n) m (omega arith))

high_reads : (low : ℤ) (tail : ℕ) → Reads (high_in low tail) (Signed w32) (λ n. 4 + 4 * targets low least_int + tail ≤ n) (λ z m. 4 * targets low z + tail ≤ m)
unfolding part_behind
high_reads low tail =
    signed_reads (parts.High low) tail (4 * targets low least_int) (λ n lt. omega (arith, least_keys low n lt)) 2147483648 (omega arith) refl (ap (λ (z : ℤ). 4 * targets low z) half_least) (λ z. 4 * targets low z) (λ n. refl) (λ n. refl)

abbrev count_in : ℕ → ℕ → List ℕ → Result (ℕ × List ℕ) ℕ
count_in tail missing bytes = part_at parts.Count tail missing bytes >>= λ x. Ok (x.0, x.1)

count_reads : (tail : ℕ) → Reads (count_in tail) (Unsigned w32 (2 ^ 31)) (λ n. 4 + 0 + tail ≤ n) (λ n m. 8 * n + tail ≤ m)
unfolding part_behind
count_reads tail = mapped (Unsigned w32 (2 ^ 31)) (λ n m. 8 * n + tail ≤ m) (λ n. n) to from (part_reads parts.Count tail 0 (λ n lt. omega arith) 0 (omega arith) refl refl)
  where
    to : (n : ℕ) (text : List ℕ) (m : ℕ) → IsNumber 4 n text → Passes 4 (part_fits parts.Count tail) n m → Unsigned w32 (2 ^ 31) n text × (8 * n + tail ≤ m)
    to n text m s e = let p = fits_parts parts.Count tail m n e.1 in ((omega (arith, ltb-true n (2 ^ 31) p.0), (number_spelled n text s).1), p.1)

    from : (n : ℕ) (text : List ℕ) (m : ℕ) → Unsigned w32 (2 ^ 31) n text → 8 * n + tail ≤ m → (k : ℕ) × (n ≡ k) × IsNumber 4 k text × Passes 4 (part_fits parts.Count tail) k m
    from n text m s le = (n, refl, spelled_number n text (omega (arith, s.0), s.1), (omega (arith, s.0), parts_fit parts.Count tail m n (lt-ltb n (2 ^ 31) s.0) le))

-- ---- the operands

abbrev pub table_in : ℕ → ℕ → ℕ → List ℕ → Result (Raw × List ℕ) ℕ
table_in at tail missing bytes = do
  pad ← bytes_at (padding at) bytes
  other ← signed_at w32 pad.1
  low ← low_in tail missing other.1
  high ← high_in low.0 tail missing low.1
  offsets ← times (signed_at w32) (targets low.0 high.0) high.1
  Ok (raw.Table low.0 high.0 other.0 offsets.0, offsets.1)

abbrev TableText : ℕ → Raw → List ℕ → Type 0
TableText at = Then (Bytes (padding at)) (λ pad. Then (Signed w32) (λ other. Then (Signed w32) (λ low. Then (Signed w32) (λ high. Seen (λ offsets. raw.Table low high other offsets) (Listed (FitsSigned w32) (signed w32) (targets low high))))))

-- Texts behind each other are the same for both kinds of readers.
pub plain_then : {A B : Type 0} {S : A → List ℕ → Type 0} {T U : A → B → List ℕ → Type 0} → ((first : A) (value : B) (text : List ℕ) → T first value text → U first value text) → (value : B) (text : List ℕ) → Then S T value text → plain.Then S U value text
plain_then to value text t = record { first = t.first; front = t.front; back = t.back; parts = t.parts; first_is = t.first_is; second_is = to t.first value t.back t.second_is }

pub then_plain : {A B : Type 0} {S : A → List ℕ → Type 0} {T U : A → B → List ℕ → Type 0} → ((first : A) (value : B) (text : List ℕ) → U first value text → T first value text) → (value : B) (text : List ℕ) → plain.Then S U value text → Then S T value text
then_plain to value text t = record { first = t.first; front = t.front; back = t.back; parts = t.parts; first_is = t.first_is; second_is = to t.first value t.back t.second_is }

offsets_reads : (low high other : ℤ) (tail : ℕ)
    → Reads (λ missing bytes. times (signed_at w32) (targets low high) bytes >>= λ offsets. Ok (raw.Table low high other offsets.0, offsets.1)) (Seen (λ offsets. raw.Table low high other offsets) (Listed (FitsSigned w32) (signed w32) (targets low high))) (λ n. 4 * targets low high + tail ≤ n) (λ _ m. tail ≤ m)
offsets_reads low high other tail = seen (λ m. tail ≤ m) (λ offsets. raw.Table low high other offsets) (sized (4 * targets low high) tail (λ offsets text t. omega (arith, ap length t.2, four_each offsets, t.0)) (listed (FitsSigned w32) (signed w32) (signed_at w32) int_signed (targets low high)))

table_text_reads : (at tail : ℕ) → Reads (table_in at tail) (TableText at) (λ n. padding at + (4 + (4 + 4 + tail)) ≤ n) (λ _ m. tail ≤ m)
table_text_reads at tail = then
    (λ pad missing bytes. signed_at w32 bytes >>= λ other. low_in tail missing other.1 >>= λ low. high_in low.0 tail missing low.1 >>= λ high. times (signed_at w32) (targets low.0 high.0) high.1 >>= λ offsets. Ok (raw.Table low.0 high.0 other.0 offsets.0, offsets.1))
    (sized (padding at) (4 + (4 + 4 + tail)) (λ pad text t. ap length t.2 ∙ t.0) (some_bytes (padding at)))
    (λ pad. then (λ other missing bytes. low_in tail missing bytes >>= λ low. high_in low.0 tail missing low.1 >>= λ high. times (signed_at w32) (targets low.0 high.0) high.1 >>= λ offsets. Ok (raw.Table low.0 high.0 other offsets.0, offsets.1))
    (sized 4 (4 + 4 + tail) (λ other text t. ap length t.1) int_signed)
    (λ other. then (λ low missing bytes. high_in low tail missing bytes >>= λ high. times (signed_at w32) (targets low high.0) high.1 >>= λ offsets. Ok (raw.Table low high.0 other offsets.0, offsets.1))
    (low_reads tail)
    (λ low. then (λ high missing bytes. times (signed_at w32) (targets low high) bytes >>= λ offsets. Ok (raw.Table low high other offsets.0, offsets.1))
    (high_reads low tail)
    (λ high. offsets_reads low high other tail))))

pub table_reads : (at op tail : ℕ) → Reads (table_in at tail) (Row at op form.Table) (λ n. padding at + 12 + tail ≤ n) (λ _ m. tail ≤ m)
table_reads at op tail =
    resized (λ n. padding at + (4 + (4 + 4 + tail)) ≤ n) (λ n. padding at + 12 + tail ≤ n) (λ n le. omega (arith, le)) (λ n le. omega (arith, le))
    (renamed (TableText at) (Row at op form.Table)
    (plain_then (λ pad. plain_then (λ other. plain_then (λ low. plain_then (λ high r text t. t)))))
    (then_plain (λ pad. then_plain (λ other. then_plain (λ low. then_plain (λ high r text t. t)))))
    (table_text_reads at tail))

abbrev pub lookup_in : ℕ → ℕ → ℕ → List ℕ → Result (Raw × List ℕ) ℕ
lookup_in at tail missing bytes = do
  pad ← bytes_at (padding at) bytes
  other ← signed_at w32 pad.1
  count ← count_in tail missing other.1
  cases ← times case_at count.0 count.1
  Ok (raw.Lookup other.0 cases.0, cases.1)

abbrev LookupText : ℕ → Raw → List ℕ → Type 0
LookupText at = Then (Bytes (padding at)) (λ pad. Then (Signed w32) (λ other. Then (Unsigned w32 (2 ^ 31)) (λ count. Seen (λ cases. raw.Lookup other cases) (Listed IsCase case count))))

cases_reads : (other : ℤ) (count tail : ℕ) → Reads (λ missing bytes. times case_at count bytes >>= λ cases. Ok (raw.Lookup other cases.0, cases.1)) (Seen (λ cases. raw.Lookup other cases) (Listed IsCase case count)) (λ n. 8 * count + tail ≤ n) (λ _ m. tail ≤ m)
cases_reads other count tail = seen (λ m. tail ≤ m) (λ cases. raw.Lookup other cases) (sized (8 * count) tail (λ cases text t. omega (arith, ap length t.2, eight_each cases, t.0)) (listed IsCase case case_at one_case count))

lookup_text_reads : (at tail : ℕ) → Reads (lookup_in at tail) (LookupText at) (λ n. padding at + (4 + (4 + 0 + tail)) ≤ n) (λ _ m. tail ≤ m)
lookup_text_reads at tail = then (λ pad missing bytes. signed_at w32 bytes >>= λ other. count_in tail missing other.1 >>= λ count. times case_at count.0 count.1 >>= λ cases. Ok (raw.Lookup other.0 cases.0, cases.1))
    (sized (padding at) (4 + (4 + 0 + tail)) (λ pad text t. ap length t.2 ∙ t.0) (some_bytes (padding at)))
    (λ pad. then (λ other missing bytes. count_in tail missing bytes >>= λ count. times case_at count.0 count.1 >>= λ cases. Ok (raw.Lookup other cases.0, cases.1))
    (sized 4 (4 + 0 + tail) (λ other text t. ap length t.1) int_signed)
    (λ other. then (λ count missing bytes. times case_at count bytes >>= λ cases. Ok (raw.Lookup other cases.0, cases.1)) (count_reads tail) (λ count. cases_reads other count tail)))

pub lookup_reads : (at op tail : ℕ) → Reads (lookup_in at tail) (Row at op form.Lookup) (λ n. padding at + 8 + tail ≤ n) (λ _ m. tail ≤ m)
lookup_reads at op tail =
    resized (λ n. padding at + (4 + (4 + 0 + tail)) ≤ n) (λ n. padding at + 8 + tail ≤ n) (λ n le. omega (arith, le)) (λ n le. omega (arith, le))
    (renamed (LookupText at) (Row at op form.Lookup) (plain_then (λ pad. plain_then (λ other. plain_then (λ count r text t. t)))) (then_plain (λ pad. then_plain (λ other. then_plain (λ count r text t. t)))) (lookup_text_reads at tail))

-- ---- the tests of the room come before the reading

chosen : {A : Type 0} (b : Bool) (r : Result A ℕ) (d : ℕ) (x : A) → cond b r (Err d) ≡ Ok x → (b ≡ true) × (r ≡ Ok x)
chosen true r d x e = (refl, e)
chosen false r d x e = absurd cc

-- a number that fits is the number of its bytes, and fits
record Read (test : ℕ → Bool) (bytes : List ℕ) (x : ℕ × List ℕ) : Type 0 where
  is : unsigned_at w32 bytes ≡ Ok x
  passes : test x.0 ≡ true
  high : get_or bytes 0 0 * 16777216 ≤ x.0
  some : 4 ≤ length bytes

last_passes : (test : ℕ → Bool) (n : ℕ) → some_below (256 ^ 0) (λ k. test (n * 256 ^ 0 + k)) ≡ true → test n ≡ true
last_passes test n e = let k = some_true (256 ^ 0) (λ k. test (n * 256 ^ 0 + k)) e in subst (λ (i : ℕ). test i ≡ true) (omega (arith, k.1)) k.2

four_read : (test : ℕ → Bool) (a b c d n : ℕ) (rest : List ℕ) (x : ℕ × List ℕ) → n ≡ (((0 * 256 + a) * 256 + b) * 256 + c) * 256 + d → (n, rest) ≡ x → test n ≡ true → Read test (a ∷ b ∷ c ∷ d ∷ rest) x
four_read test a b c d n rest x value same e = subst (λ (y : ℕ × List ℕ). Read test (a ∷ b ∷ c ∷ d ∷ rest) y) same
    (record {
      is = rw (le-ltb (length (a ∷ b ∷ c ∷ d ∷ rest)) 4 (omega arith)) (ap (λ (k : ℕ). Ok (k, rest)) (omega (arith, value)));
      passes = e;
      high = omega (arith, value);
      some = omega arith;
    })

step : (test : ℕ → Bool) (w n b : ℕ) (rest : List ℕ) (x : ℕ × List ℕ) → number_from test (suc w) n (b ∷ rest) ≡ Ok x → (some_with test w (n * 256 + b) ≡ true) × (number_from test w (n * 256 + b) rest ≡ Ok x)
unfolding number_from
step test w n b rest x e = chosen (some_with test w (n * 256 + b)) (number_from test w (n * 256 + b) rest) (suc (length rest)) x e

ends : (test : ℕ → Bool) (w n : ℕ) (x : ℕ × List ℕ) → number_from test (suc w) n [] ≡ Ok x → ⊥
unfolding number_from
ends test w n x e = let failed : Path (Result (ℕ × List ℕ) ℕ) (Err 0) (Ok x) = e in absurd cc

is_read : (test : ℕ → Bool) (n : ℕ) (rest : List ℕ) (x : ℕ × List ℕ) → number_from test 0 n rest ≡ Ok x → (n, rest) ≡ x
unfolding number_from
is_read test n rest x e = ok_is (n, rest) x e

number_read : (test : ℕ → Bool) (bytes : List ℕ) (x : ℕ × List ℕ) → number_from test 4 0 bytes ≡ Ok x → Read test bytes x
number_read test [] x e = absurd (ends test 3 0 x e)
number_read test (a ∷ []) x e = absurd (ends test 2 (0 * 256 + a) x (step test 3 0 a [] x e).1)
number_read test (a ∷ b ∷ []) x e = absurd (ends test 1 ((0 * 256 + a) * 256 + b) x (step test 2 (0 * 256 + a) b [] x (step test 3 0 a (b ∷ []) x e).1).1)
number_read test (a ∷ b ∷ c ∷ []) x e =
    let f = step test 3 0 a (b ∷ c ∷ []) x e in
    let g = step test 2 (0 * 256 + a) b (c ∷ []) x f.1 in
    absurd (ends test 0 (((0 * 256 + a) * 256 + b) * 256 + c) x (step test 1 ((0 * 256 + a) * 256 + b) c [] x g.1).1)
number_read test (a ∷ b ∷ c ∷ d ∷ rest) x e =
    let n : ℕ = (((0 * 256 + a) * 256 + b) * 256 + c) * 256 + d in
    let f = step test 3 0 a (b ∷ c ∷ d ∷ rest) x e in
    let g = step test 2 (0 * 256 + a) b (c ∷ d ∷ rest) x f.1 in
    let h = step test 1 ((0 * 256 + a) * 256 + b) c (d ∷ rest) x g.1 in
    let i = step test 0 (((0 * 256 + a) * 256 + b) * 256 + c) d rest x h.1 in
    four_read test a b c d n rest x refl (is_read test n rest x i.1) (last_passes test n i.0)

part_signed : (part : SwitchPart) (tail missing : ℕ) (bytes : List ℕ) (x : ℕ × List ℕ) → part_at part tail missing bytes ≡ Ok x → signed_at w32 bytes ≡ Ok (cast_signed w32 x.0, x.1)
part_signed part tail missing bytes x e = rw (number_read (part_fits part tail (length bytes + missing - 4)) bytes x e).is refl

read_counted : (tail room : ℕ) (bytes : List ℕ) (x : ℕ × List ℕ) → Read (part_fits parts.Count tail room) bytes x → count_at bytes ≡ Ok x
read_counted tail room [] x r = absurd (omega (arith, r.some))
read_counted tail room (b ∷ rest) x r =
    let p = fits_parts parts.Count tail room x.0 r.passes in
    let small : leb 128 b ≡ false = lt-leb 128 b (omega (arith, r.high, ltb-true x.0 (2 ^ 31) p.0)) in
    rw small r.is

part_counted : (tail missing : ℕ) (bytes : List ℕ) (x : ℕ × List ℕ) → part_at parts.Count tail missing bytes ≡ Ok x → count_at bytes ≡ Ok x
part_counted tail missing bytes x e = read_counted tail (length bytes + missing - 4) bytes x (number_read (part_fits parts.Count tail (length bytes + missing - 4)) bytes x e)

abbrev passed : Result (Unit {0}) ℕ
passed = Ok tt

abbrev high_room : ℕ → ℕ → ℤ × List ℕ → Result (Unit {0}) ℕ
high_room tail missing low = part_at (parts.High low.0) tail missing low.1 >>= λ high. passed

abbrev behind_high : ℤ → ℤ × List ℕ → ℤ × List ℕ → Result (Raw × List ℕ) ℕ
behind_high other low high = times (signed_at w32) (targets low.0 high.0) high.1 >>= λ offsets. Ok (raw.Table low.0 high.0 other offsets.0, offsets.1)

pub table_alike : (at tail missing : ℕ) (bytes : List ℕ) → (table_room at tail missing bytes >>= λ u. table_at at bytes) ≡ table_in at tail missing bytes
unfolding table_room table_at
table_alike at tail missing bytes =
    bind_tested (bytes_at (padding at) bytes) (bytes_at (padding at) bytes) _ _ (λ pad e. e)
    ∙ bind_same (bytes_at (padding at) bytes) _ _ (λ pad.
    bind_tested (signed_at w32 pad.1) (signed_at w32 pad.1) _ _ (λ other e. e)
    ∙ bind_same (signed_at w32 pad.1) _ _ (λ other.
    bind_seen (part_at parts.Low tail missing other.1) (signed_at w32 other.1) (λ x. (cast_signed w32 x.0, x.1)) (high_room tail missing) (λ low. signed_at w32 low.1 >>= behind_high other.0 low) (part_signed parts.Low tail missing other.1)
    ∙ bind_same (low_in tail missing other.1) _ _ (λ low.
    bind_seen (part_at (parts.High low.0) tail missing low.1) (signed_at w32 low.1) (λ x. (cast_signed w32 x.0, x.1)) (λ y. passed) (behind_high other.0 low) (part_signed (parts.High low.0) tail missing low.1))))

pub lookup_alike : (at tail missing : ℕ) (bytes : List ℕ) → (lookup_room at tail missing bytes >>= λ u. lookup_at at bytes) ≡ lookup_in at tail missing bytes
unfolding lookup_room lookup_at
lookup_alike at tail missing bytes =
    bind_tested (bytes_at (padding at) bytes) (bytes_at (padding at) bytes) _ _ (λ pad e. e)
    ∙ bind_same (bytes_at (padding at) bytes) _ _ (λ pad.
    bind_tested (signed_at w32 pad.1) (signed_at w32 pad.1) _ _ (λ other e. e)
    ∙ bind_same (signed_at w32 pad.1) _ _ (λ other.
    bind_seen (part_at parts.Count tail missing other.1) (count_at other.1) (λ x. (x.0, x.1)) (λ y. passed) (λ count. times case_at count.0 count.1 >>= λ cases. Ok (raw.Lookup other.0 cases.0, cases.1)) (part_counted tail missing other.1)))
