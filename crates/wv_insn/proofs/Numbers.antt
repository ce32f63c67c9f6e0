-- The readers of bytes and numbers.
use Rattle.std.proofs.Common.{◌≡◌, ℕ, zero, suc, ◌-◌, ◌/◌, ◌%◌, ◌^◌, ◌<◌, ◌≤◌, Bool, true, false, cond, ltb, leb, List, [], ◌∷◌, ◌++◌, length, get_or, take, drop, ℤ, Fits, Result, Ok, Err, refl, sym, ap, subst, ◌∙◌, arith, ◌⊎◌, inl, inr}
use Rattle.std.specs.Prelude.{FitsSigned, replicate}
use Rattle.std.specs.List.{flat_map, AllByRecursion}
use Rattle.std.specs.Int.{Width, w8, w16, w32, byte_len, from_be_bytes, to_be_bytes, cast_signed, cast_unsigned}
use Rattle.std.proofs.lemmas.Bool.{cases_lt, ltb-false, ltb-true, le-ltb, leb-false, lt-leb}
use Rattle.std.proofs.lemmas.Int.{to_z-of_z, of_z-to_z}
use Rattle.std.proofs.lemmas.List.{take_at, drop_at, take-append-drop, length-append, length-take, length-replicate, get_or-take, get_or_past, append-nil, nil_from_length}
use Rattle.std.proofs.lemmas.List.Concat.{flat_map-cons}
use mir.Val.{bits}
use Rattle.std.proofs.Math.Facts.{sfits_to_z, Fits-of_z}
use Rattle.std.proofs.lemmas.Nat.{be_bytes_2, be_bytes_4, from_be_bytes-to_be_bytes_2, from_be_bytes-to_be_bytes_4}
use Rattle.wv_insn.specs.Spelling.{unsigned, signed}
use Rattle.wv_insn.specs.Reading.{◌>>=◌, byte_at, zero_at, bytes_at, unsigned_at, signed_at, count_at, times}
use Rattle.wv_insn.proofs.Readers.{IsBytes, IsBytes-rest, ok_is, Ended, Broken, Reads, renamed, done, Then, then, Seen, seen}

IsBytes-take : (n : ℕ) (bytes : List ℕ) → IsBytes bytes → IsBytes (take n bytes)
IsBytes-take n bytes h i =
    elim (cases_lt i n) [
      | inl lt ↦ rw (get_or-take n bytes i 0 lt) (h i)
      | inr le ↦ rw (get_or_past (take n bytes) i 0 (omega (arith, length-take n bytes))) (omega arith)
    ]

all_bytes : (bytes : List ℕ) → IsBytes bytes → AllByRecursion (λ byte. byte < 2 ^ 8) bytes
all_bytes [] h = tt
all_bytes (b ∷ bytes) h = (h 0, all_bytes bytes (IsBytes-rest b bytes h))

-- zeros behind bytes
zeros_behind : (bytes : List ℕ) (n : ℕ) → IsBytes bytes → IsBytes (bytes ++ replicate n 0)
zeros_behind [] zero h i = h i
zeros_behind [] (suc n) h zero = omega arith
zeros_behind [] (suc n) h (suc i) = zeros_behind [] n h i
zeros_behind (b ∷ bytes) n h zero = h 0
zeros_behind (b ∷ bytes) n h (suc i) = zeros_behind bytes n (IsBytes-rest b bytes h) i

-- a test that chooses between a failure and a value
chosen_ok : {A : Type 0} (b : Bool) (d : ℕ) (x y : A) → cond b (Err d) (Ok x) ≡ Ok y → (b ≡ false) × (x ≡ y)
chosen_ok true d x y e = absurd cc
chosen_ok false d x y e = (refl, cc)

chosen_err : {A : Type 0} (b : Bool) (d left : ℕ) (x : A) → cond b (Err d) (Ok x) ≡ Err left → (b ≡ true) × (d ≡ left)
chosen_err true d left x e = (refl, cc)
chosen_err false d left x e = absurd cc

-- a test that chooses between a failure and a reading
chosen_read : {A : Type 0} (b : Bool) (d : ℕ) (read : Result A ℕ) (y : A) → cond b (Err d) read ≡ Ok y → (b ≡ false) × (read ≡ Ok y)
chosen_read true d read y e = absurd cc
chosen_read false d read y e = (refl, e)

chosen_stop : {A : Type 0} (b : Bool) (d left : ℕ) (read : Result A ℕ) → cond b (Err d) read ≡ Err left → ((b ≡ true) × (d ≡ left)) ⊎ ((b ≡ false) × (read ≡ Err left))
chosen_stop true d left read e = inl (refl, cc)
chosen_stop false d left read e = inr (refl, e)

-- ---- bytes

abbrev pub Byte : ℕ → List ℕ → Type 0
Byte n text = (n < 2 ^ 8) × (text ≡ n ∷ [])

pub byte : Reads byte_at Byte
byte = record { takes = takes; again = again; stops = stops; some = (0, 0 ∷ [], (omega arith, refl)) }
  where
    takes : (bytes : List ℕ) (x : ℕ × List ℕ) → IsBytes bytes → byte_at bytes ≡ Ok x → (text : List ℕ) × (bytes ≡ text ++ x.1) × Byte x.0 text
    takes [] x fits e = absurd cc
    takes (b ∷ rest) x fits e = subst (λ (y : ℕ × List ℕ). (text : List ℕ) × (b ∷ rest ≡ text ++ y.1) × Byte y.0 text) (ok_is (b, rest) x e) (b ∷ [], refl, (fits 0, refl))

    again : (value : ℕ) (text rest : List ℕ) → Byte value text → byte_at (text ++ rest) ≡ Ok (value, rest)
    again value text rest s = rw s.1 refl

    stops : (bytes : List ℕ) (left : ℕ) → IsBytes bytes → byte_at bytes ≡ Err left → Ended Byte bytes left ⊎ Broken byte_at Byte bytes left
    stops [] left fits e = inl (record { nothing = cc; more = 0 ∷ []; value = 0; whole = (omega arith, refl) })
    stops (b ∷ rest) left fits e = absurd cc

abbrev pub Zero : ℕ → List ℕ → Type 0
Zero n text = text ≡ n ∷ [] × (n ≡ 0)

pub zero_byte : Reads zero_at Zero
zero_byte = record { takes = takes; again = again; stops = stops; some = (0, 0 ∷ [], (refl, refl)) }
  where
    takes : (bytes : List ℕ) (x : ℕ × List ℕ) → IsBytes bytes → zero_at bytes ≡ Ok x → (text : List ℕ) × (bytes ≡ text ++ x.1) × Zero x.0 text
    takes [] x fits e = absurd cc
    takes (zero ∷ rest) x fits e = subst (λ (y : ℕ × List ℕ). (text : List ℕ) × (0 ∷ rest ≡ text ++ y.1) × Zero y.0 text) (ok_is (0, rest) x e) (0 ∷ [], refl, (refl, refl))
    takes (suc b ∷ rest) x fits e = absurd cc

    again : (value : ℕ) (text rest : List ℕ) → Zero value text → zero_at (text ++ rest) ≡ Ok (value, rest)
    again value text rest s = rw (s.0, s.1) refl

    stops : (bytes : List ℕ) (left : ℕ) → IsBytes bytes → zero_at bytes ≡ Err left → Ended Zero bytes left ⊎ Broken zero_at Zero bytes left
    stops [] left fits e = inl (record { nothing = cc; more = 0 ∷ []; value = 0; whole = (refl, refl) })
    stops (zero ∷ rest) left fits e = absurd cc
    stops (suc b ∷ rest) left fits e = inr (record { front = []; byte = suc b; rest = rest; parts = refl; place = cc; more = 0 ∷ []; value = 0; whole = (refl, refl); stays = λ others. refl })

abbrev pub Bytes : ℕ → List ℕ → List ℕ → Type 0
Bytes count value text = (length value ≡ count) × AllByRecursion (λ byte. byte < 2 ^ 8) value × (text ≡ value)

zeros_are_bytes : (n : ℕ) → AllByRecursion (λ byte. byte < 2 ^ 8) (replicate n 0)
zeros_are_bytes zero = tt
zeros_are_bytes (suc n) = (omega arith, zeros_are_bytes n)

pub some_bytes : (count : ℕ) → Reads (bytes_at count) (Bytes count)
some_bytes count = record { takes = takes; again = again; stops = stops; some = (replicate count 0, replicate count 0, (length-replicate {A = ℕ} count 0, zeros_are_bytes count, refl)) }
  where
    takes : (bytes : List ℕ) (x : List ℕ × List ℕ) → IsBytes bytes → bytes_at count bytes ≡ Ok x → (text : List ℕ) × (bytes ≡ text ++ x.1) × Bytes count x.0 text
    takes bytes x fits e =
        let g = chosen_ok (ltb (length bytes) count) 0 (take count bytes, drop count bytes) x e in
        let long : count ≤ length bytes = ltb-false _ _ g.0 in
        subst (λ (y : List ℕ × List ℕ). (text : List ℕ) × (bytes ≡ text ++ y.1) × Bytes count y.0 text) g.1
        (take count bytes, sym (take-append-drop count bytes), (omega (arith, length-take count bytes), all_bytes (take count bytes) (IsBytes-take count bytes fits), refl))

    again : (value text rest : List ℕ) → Bytes count value text → bytes_at count (text ++ rest) ≡ Ok (value, rest)
    again value text rest s =
        let long : ltb (length (value ++ rest)) count ≡ false = le-ltb _ _ (omega (arith, length-append value rest, s.0)) in
        rw (s.2, long, take_at value rest count s.0, drop_at value rest count s.0) refl

    stops : (bytes : List ℕ) (left : ℕ) → IsBytes bytes → bytes_at count bytes ≡ Err left → Ended (Bytes count) bytes left ⊎ Broken (bytes_at count) (Bytes count) bytes left
    stops bytes left fits e =
        let g = chosen_err (ltb (length bytes) count) 0 left (take count bytes, drop count bytes) e in
        let short : length bytes < count = ltb-true _ _ g.0 in
        let n : ℕ = count - length bytes in
        inl (record { nothing = sym g.1; more = replicate n 0; value = bytes ++ replicate n 0; whole = (omega (arith, length-append bytes (replicate n 0), length-replicate {A = ℕ} n 0), all_bytes (bytes ++ replicate n 0) (zeros_behind bytes n fits), refl) })

-- ---- numbers

pub record IsWide (w : Width) (limit : ℕ) : Type 0 where
  pub positive : 0 < limit
  pub len : (n : ℕ) → length (to_be_bytes w n) ≡ byte_len w
  pub back : (bytes : List ℕ) → length bytes ≡ byte_len w → IsBytes bytes → to_be_bytes w (from_be_bytes w bytes) ≡ bytes
  pub again : (n : ℕ) → n < limit → from_be_bytes w (to_be_bytes w n) ≡ n
  pub below : (bytes : List ℕ) → IsBytes bytes → from_be_bytes w bytes < limit

one_byte : (bytes : List ℕ) → length bytes ≡ 1 → IsBytes bytes → to_be_bytes w8 (from_be_bytes w8 bytes) ≡ bytes
one_byte [] len fits = absurd (omega arith)
one_byte (b ∷ []) len fits = ap (λ (n : ℕ). n ∷ []) (omega (arith, fits 0))
one_byte (b ∷ c ∷ bytes) len fits = absurd (omega arith)

pub wide8 : IsWide w8 (2 ^ 8)
wide8 = record {
  positive = omega arith;
  len = λ n. refl;
  back = λ bytes len fits. one_byte bytes len fits;
  again = λ n lt. omega arith;
  below = λ bytes fits. omega (arith, fits 0);
}

pub wide16 : IsWide w16 (2 ^ 16)
wide16 = record {
  positive = omega arith;
  len = λ n. refl;
  back = λ bytes len fits. be_bytes_2 bytes _ len fits refl;
  again = λ n lt. from_be_bytes-to_be_bytes_2 n lt;
  below = λ bytes fits. omega (arith, fits 0, fits 1);
}

pub wide32 : IsWide w32 (2 ^ 32)
wide32 = record {
  positive = omega arith;
  len = λ n. refl;
  back = λ bytes len fits. be_bytes_4 bytes _ len fits refl;
  again = λ n lt. from_be_bytes-to_be_bytes_4 n lt;
  below = λ bytes fits. omega (arith, fits 0, fits 1, fits 2, fits 3);
}

abbrev pub Unsigned : Width → ℕ → ℕ → List ℕ → Type 0
Unsigned w limit n text = (n < limit) × (text ≡ unsigned w n)

number_ends : (w : Width) (limit : ℕ) → IsWide w limit → (bytes : List ℕ) (left : ℕ) → IsBytes bytes → unsigned_at w bytes ≡ Err left → Ended (Unsigned w limit) bytes left
number_ends w limit wide bytes left fits e =
    let g = chosen_err (ltb (length bytes) (byte_len w)) 0 left (from_be_bytes w (take (byte_len w) bytes), drop (byte_len w) bytes) e in
    let short : length bytes < byte_len w = ltb-true _ _ g.0 in
    let n : ℕ = byte_len w - length bytes in
    let whole : List ℕ = bytes ++ replicate n 0 in
    let whole_fits : IsBytes whole = zeros_behind bytes n fits in
    record { nothing = sym g.1; more = replicate n 0; value = from_be_bytes w whole; whole = (wide.below whole whole_fits, sym (wide.back whole (omega (arith, length-append bytes (replicate n 0), length-replicate {A = ℕ} n 0)) whole_fits)) }

pub unsigned_number : (w : Width) (limit : ℕ) → IsWide w limit → Reads (unsigned_at w) (Unsigned w limit)
unsigned_number w limit wide = record { takes = takes; again = again; stops = λ bytes left fits e. inl (number_ends w limit wide bytes left fits e); some = (0, to_be_bytes w 0, (wide.positive, refl)) }
  where
    takes : (bytes : List ℕ) (x : ℕ × List ℕ) → IsBytes bytes → unsigned_at w bytes ≡ Ok x → (text : List ℕ) × (bytes ≡ text ++ x.1) × Unsigned w limit x.0 text
    takes bytes x fits e =
        let front : List ℕ = take (byte_len w) bytes in
        let g = chosen_ok (ltb (length bytes) (byte_len w)) 0 (from_be_bytes w front, drop (byte_len w) bytes) x e in
        let long : byte_len w ≤ length bytes = ltb-false _ _ g.0 in
        let front_fits : IsBytes front = IsBytes-take (byte_len w) bytes fits in
        subst (λ (y : ℕ × List ℕ). (text : List ℕ) × (bytes ≡ text ++ y.1) × Unsigned w limit y.0 text) g.1
        (front, sym (take-append-drop (byte_len w) bytes), (wide.below front front_fits, sym (wide.back front (omega (arith, length-take (byte_len w) bytes)) front_fits)))

    again : (value : ℕ) (text rest : List ℕ) → Unsigned w limit value text → unsigned_at w (text ++ rest) ≡ Ok (value, rest)
    again value text rest s =
        let len = wide.len value in
        let long : ltb (length (to_be_bytes w value ++ rest)) (byte_len w) ≡ false = le-ltb _ _ (omega (arith, length-append (to_be_bytes w value) rest)) in
        ap (λ (t : List ℕ). unsigned_at w (t ++ rest)) s.1 ∙ rw (long, take_at (to_be_bytes w value) rest (byte_len w) len, drop_at (to_be_bytes w value) rest (byte_len w) len, wide.again value s.0) refl

abbrev pub Signed : Width → ℤ → List ℕ → Type 0
Signed w z text = FitsSigned w z × (text ≡ signed w z)

-- a signed number is an unsigned one, seen in two's complement
pub signed_number : (w : Width) → IsWide w (2 ^ bits w) → Reads (signed_at w) (Signed w)
signed_number w wide =
    renamed (Seen (cast_signed w) (Unsigned w (2 ^ bits w))) (Signed w)
    (λ z text t. let fits : Fits w t.0 = record { fits = t.2.0 } in
    subst (λ (y : ℤ). Signed w y text) (sym t.1) (sfits_to_z fits, t.2.1 ∙ ap (to_be_bytes w) (sym (of_z-to_z w t.0 t.2.0))))
    (λ z text t. (cast_unsigned w z, sym (to_z-of_z w z t.0), (below w z t.0, t.1)))
    (seen (cast_signed w) (unsigned_number w (2 ^ bits w) wide))
  where
    below : (w : Width) (z : ℤ) → FitsSigned w z → cast_unsigned w z < 2 ^ bits w
    below w z fits = (Fits-of_z {w = w} {z = z} fits).fits

pub byte_signed : Reads (signed_at w8) (Signed w8)
byte_signed = signed_number w8 wide8

pub short_signed : Reads (signed_at w16) (Signed w16)
short_signed = signed_number w16 wide16

pub int_signed : Reads (signed_at w32) (Signed w32)
int_signed = signed_number w32 wide32

pub short_unsigned : Reads (unsigned_at w16) (Unsigned w16 (2 ^ 16))
short_unsigned = unsigned_number w16 (2 ^ 16) wide16

-- a count is below half of what four bytes hold
pub count_number : Reads count_at (Unsigned w32 (2 ^ 31))
count_number = record { takes = takes; again = again; stops = stops; some = (0, to_be_bytes w32 0, (omega arith, refl)) }
  where
    number : Reads (unsigned_at w32) (Unsigned w32 (2 ^ 32))
    number = unsigned_number w32 (2 ^ 32) wide32

    -- the first byte has no sign exactly where the number is below half
    low : (n : ℕ) (rest others : List ℕ) (b : ℕ) → n < 2 ^ 32 → b ∷ rest ≡ unsigned w32 n ++ others → b < 128 → n < 2 ^ 31
    low n rest others b lt e h =
        let head : b ≡ n / 16777216 % 256 = ap (λ (t : List ℕ). get_or t 0 0) e in
        omega arith

    takes : (bytes : List ℕ) (x : ℕ × List ℕ) → IsBytes bytes → count_at bytes ≡ Ok x → (text : List ℕ) × (bytes ≡ text ++ x.1) × Unsigned w32 (2 ^ 31) x.0 text
    takes [] x fits e = absurd cc
    takes (b ∷ rest) x fits e =
        let g = chosen_read (leb 128 b) (suc (length rest)) (unsigned_at w32 (b ∷ rest)) x e in
        let t = number.takes (b ∷ rest) x fits g.1 in
        (t.0, t.1, (low x.0 rest x.1 b t.2.0 (t.1 ∙ ap (λ (z : List ℕ). z ++ x.1) t.2.1) (leb-false 128 b g.0), t.2.1))

    again : (value : ℕ) (text rest : List ℕ) → Unsigned w32 (2 ^ 31) value text → count_at (text ++ rest) ≡ Ok (value, rest)
    again value text rest s =
        let small : leb 128 (value / 16777216 % 256) ≡ false = lt-leb _ _ (omega (arith, s.0)) in
        ap (λ (t : List ℕ). count_at (t ++ rest)) s.1 ∙ rw small (number.again value (unsigned w32 value) rest (omega (arith, s.0), refl))

    stops : (bytes : List ℕ) (left : ℕ) → IsBytes bytes → count_at bytes ≡ Err left → Ended (Unsigned w32 (2 ^ 31)) bytes left ⊎ Broken count_at (Unsigned w32 (2 ^ 31)) bytes left
    stops [] left fits e = inl (record { nothing = cc; more = unsigned w32 0; value = 0; whole = (omega arith, refl) })
    stops (b ∷ rest) left fits e =
        elim (chosen_stop (leb 128 b) (suc (length rest)) left (unsigned_at w32 (b ∷ rest)) e) [
          | inl g ↦ inr (record { front = []; byte = b; rest = rest; parts = refl; place = sym g.1; more = unsigned w32 0; value = 0; whole = (omega arith, refl); stays = λ others. rw g.0 refl })
          | inr g ↦
              let d = number_ends w32 (2 ^ 32) wide32 (b ∷ rest) left fits g.1 in
              inl (record { nothing = d.nothing; more = d.more; value = d.value; whole = (low d.value (rest ++ d.more) [] b d.whole.0 (d.whole.1 ∙ sym (append-nil (unsigned w32 d.value))) (leb-false 128 b g.0), d.whole.1) })
        ]

-- ---- lists

-- as many items as are asked for, each spelled behind the one before
abbrev pub Listed : {A : Type 0} → (A → Type 0) → (A → List ℕ) → ℕ → List A → List ℕ → Type 0
Listed Fits spell n values text = (length values ≡ n) × AllByRecursion Fits values × (text ≡ flat_map spell values)

pub listed : {A : Type 0} (Fits : A → Type 0) (spell : A → List ℕ) (read : List ℕ → Result (A × List ℕ) ℕ) → Reads read (λ value text. Fits value × (text ≡ spell value)) → (n : ℕ) → Reads (times read n) (Listed Fits spell n)
unfolding times
listed {A} Fits spell read r zero =
    renamed (λ values text. (values ≡ []) × (text ≡ [])) (Listed Fits spell zero)
    (λ values text t. subst (λ (v : List A). Listed Fits spell zero v text) (sym t.0) (refl, tt, t.1))
    (λ values text t. let none : values ≡ [] = nil_from_length values t.0 in (none, t.2 ∙ ap (flat_map spell) none))
    (done [])
listed {A} Fits spell read r (suc n) =
    renamed (Then One (λ first. Seen (λ others. first ∷ others) (Listed Fits spell n))) (Listed Fits spell (suc n))
    (λ values text t. subst (λ (v : List A). Listed Fits spell (suc n) v text) (sym t.second_is.1)
    (ap suc t.second_is.2.0, (t.first_is.0, t.second_is.2.1), t.parts ∙ rw (t.first_is.1, t.second_is.2.2, flat_map-cons) refl))
    back
    (then {T = λ first. Seen (λ others. first ∷ others) (Listed Fits spell n)} (λ first bytes. times read n bytes >>= λ others. Ok (first ∷ others.0, others.1)) r
    (λ first. seen (λ others. first ∷ others) (listed Fits spell read r n)))
  where
    One : A → List ℕ → Type 0
    One value text = Fits value × (text ≡ spell value)

    back : (values : List A) (text : List ℕ) → Listed Fits spell (suc n) values text → Then One (λ first. Seen (λ others. first ∷ others) (Listed Fits spell n)) values text
    back [] text t = absurd (omega (arith, t.0))
    back (v ∷ vs) text t = record { first = v; front = spell v; back = flat_map spell vs; parts = t.2 ∙ flat_map-cons spell v vs; first_is = (t.1.0, refl); second_is = (vs, refl, (omega (arith, t.0), t.1.1, refl)) }
