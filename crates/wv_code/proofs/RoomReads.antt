-- Readers that know the room they need.
use Rattle.std.proofs.Common.{◌≡◌, ℕ, suc, ◌+◌, ◌-◌, ◌<◌, ◌≤◌, ◌^◌, Bool, true, false, cond, leb, List, [], ◌∷◌, ◌++◌, length, Option, Some, None, Result, Ok, Err, refl, sym, ap, subst, ◌∙◌, inl, inr, arith}
use Rattle.std.proofs.lemmas.Bool.{leb-true, le-leb}
use Rattle.std.proofs.lemmas.List.{append-nil, length-append}
use Rattle.wv_pool.specs.Reading.{◌>>=◌}
use Rattle.wv_insn.proofs.Readers.{option_is, Meant}
use Rattle.wv_insn.proofs.Readers as plain
use Rattle.wv_code.specs.Fitting.{byte_in}
use Rattle.wv_frames.proofs.Readers.{IsBytes, Begun, Stopped, Taken, Reads, bind_ok, bind_err, ok_is}

-- ---- texts that are all equally long

module _ {A : Type 0} {read : List ℕ → Result (A × List ℕ) ℕ} {S : A → List ℕ → Type 0} (k c : ℕ) (len : (value : A) (text : List ℕ) → S value text → length text ≡ k) (r : plain.Reads read S) where
  sized_begins : (front more : List ℕ) (value : A) (n : ℕ) → S value (front ++ more) → k + c ≤ length front + n → Begun S (λ value m. c ≤ m) front n
  sized_begins front more value n s room =
      let total : length front + length more ≡ k = sym (length-append front more) ∙ len value (front ++ more) s in
      record { value = value; more = more; extra = n - length more; spelled = s; rest = omega (arith, total, room); sum = omega (arith, total, room) }

  -- where the bytes end, some are missing
  sized_short : (bytes more : List ℕ) (value : A) (left missing : ℕ) → S value (bytes ++ more) → k + c ≤ length bytes + missing → read bytes ≡ Err left → 0 < missing
  sized_short bytes [] value left missing s room e =
      let again : read (bytes ++ []) ≡ Ok (value, []) = r.again value bytes [] (subst (S value) (append-nil bytes) s) in
      let failed : Path (Result (A × List ℕ) ℕ) (Err left) (Ok (value, [])) = sym e ∙ ap read (sym (append-nil bytes)) ∙ again in
      absurd cc
  sized_short bytes (b ∷ more) value left missing s room e =
      let total : length bytes + suc (length more) ≡ k = sym (length-append bytes (b ∷ more)) ∙ len value (bytes ++ b ∷ more) s in
      omega (arith, total, room)

  sized_stops : (missing : ℕ) (bytes : List ℕ) (left : ℕ) → IsBytes bytes → k + c ≤ length bytes + missing → read bytes ≡ Err left → Stopped (λ missing. read) S (λ value m. c ≤ m) missing bytes left
  sized_stops missing bytes left fits room e = elim (r.stops bytes left fits e) [
    | inl d ↦ inr (record { place = d.nothing; some = sized_short bytes d.more d.value left missing d.whole room e; begun = sized_begins bytes d.more d.value missing d.whole room })
    | inr d ↦
        let sizes : length bytes ≡ length d.front + suc (length d.rest) = ap length d.parts ∙ length-append d.front (d.byte ∷ d.rest) in
        inl (record {
          front = d.front;
          byte = d.byte;
          rest = d.rest;
          parts = d.parts;
          place = d.place;
          begun = sized_begins d.front d.more d.value (suc (length d.rest + missing)) d.whole (omega (arith, sizes, room));
          stays = λ others more len. d.stays others;
        })
  ]

  -- such a reader needs so much room, and the room behind it is the rest
  pub sized : Reads (λ missing. read) S (λ n. k + c ≤ n) (λ value m. c ≤ m)
  sized = record {
    takes = λ missing bytes x fits room e.
        let t = r.takes bytes x fits e in
        record { text = t.0; parts = t.1; spelled = t.2; rest = omega (arith, room, len x.0 t.0 t.2, ap length t.1, length-append t.0 x.1) };
    again = λ missing value text rest s room. r.again value text rest s;
    stops = sized_stops;
    there = λ n room. record { value = r.some.0; text = r.some.1; more = n - k; spelled = r.some.2; rest = omega (arith, room); sum = omega (arith, room, len r.some.0 r.some.1 r.some.2) };
    back = λ value text m s room. omega (arith, room, len value text s);
  }

-- ---- a byte behind which something fits

pub chosen_ok : {A : Type 0} (b : Bool) (d : ℕ) (x y : A) → cond b (Ok x) (Err d) ≡ Ok y → (b ≡ true) × (x ≡ y)
chosen_ok true d x y e = (refl, cc)
chosen_ok false d x y e = absurd cc

chosen_err : {A : Type 0} (b : Bool) (d left : ℕ) (x : A) → cond b (Ok x) (Err d) ≡ Err left → (b ≡ false) × (d ≡ left)
chosen_err true d left x e = absurd cc
chosen_err false d left x e = (refl, cc)

module _ {A : Type 0} (meaning : ℕ → Option A) (behind : A → ℕ) (tail least byte : ℕ) (value : A) (small : byte < 2 ^ 8) (means : meaning byte ≡ Some value) (is : behind value ≡ least) (all : (b : ℕ) (x : A) → meaning b ≡ Some x → least ≤ behind x) where
  abbrev Room : A → ℕ → Type 0
  Room x m = behind x + tail ≤ m

  example : Meant meaning value (byte ∷ [])
  example = record { byte = byte; small = small; means = means; alone = refl }

  byte_takes : (missing : ℕ) (bytes : List ℕ) (x : A × List ℕ) → IsBytes bytes → least + tail < length bytes + missing → byte_in meaning behind tail missing bytes ≡ Ok x → Taken (Meant meaning) Room missing bytes x
  byte_takes missing [] x fits room e = absurd cc
  byte_takes missing (b ∷ rest) x fits room e = elim (option_is (meaning b)) [
    | inl none ↦ absurd (let failed : Path (Result (A × List ℕ) ℕ) (Err (suc (length rest))) (Ok x) = rw none at e in cc)
    | inr some ↦
        let test : Bool = leb (behind some.0 + tail) (length rest + missing) in
        let found : Path (Result (A × List ℕ) ℕ) (cond test (Ok (some.0, rest)) (Err (suc (length rest)))) (Ok x) = rw some.1 at e in
        let chosen = chosen_ok test (suc (length rest)) (some.0, rest) x found in
        subst (λ (y : A × List ℕ). Taken (Meant meaning) Room missing (b ∷ rest) y) chosen.1
        (record { text = b ∷ []; parts = refl; spelled = record { byte = b; small = fits 0; means = some.1; alone = refl }; rest = leb-true (behind some.0 + tail) (length rest + missing) chosen.0 })
  ]

  byte_again : (missing : ℕ) (x : A) (text rest : List ℕ) → Meant meaning x text → behind x + tail ≤ length rest + missing → byte_in meaning behind tail missing (text ++ rest) ≡ Ok (x, rest)
  byte_again missing x text rest s room = ap (λ (t : List ℕ). byte_in meaning behind tail missing (t ++ rest)) s.alone ∙ rw (s.means, le-leb (behind x + tail) (length rest + missing) room) refl

  byte_breaks : (missing b : ℕ) (rest : List ℕ) (left : ℕ) → least + tail < suc (length rest) + missing → left ≡ suc (length rest)
      → ((others : List ℕ) (more : ℕ) → length others + more ≡ length rest + missing → byte_in meaning behind tail more (b ∷ others) ≡ Err (suc (length others))) → Stopped (byte_in meaning behind tail) (Meant meaning) Room missing (b ∷ rest) left
  byte_breaks missing b rest left room place stays = inl (record {
    front = [];
    byte = b;
    rest = rest;
    parts = refl;
    place = place;
    begun = record { value = value; more = byte ∷ []; extra = length rest + missing; spelled = example; rest = omega (arith, room, is); sum = omega arith };
    stays = stays;
  })

  none_stays : (b missing : ℕ) (rest : List ℕ) → meaning b ≡ None → (others : List ℕ) (more : ℕ) → length others + more ≡ length rest + missing → byte_in meaning behind tail more (b ∷ others) ≡ Err (suc (length others))
  none_stays b missing rest none others more len = rw none refl

  some_stays : (b missing : ℕ) (rest : List ℕ) (x : A) → meaning b ≡ Some x → leb (behind x + tail) (length rest + missing) ≡ false → (others : List ℕ) (more : ℕ) → length others + more ≡ length rest + missing
      → byte_in meaning behind tail more (b ∷ others) ≡ Err (suc (length others))
  some_stays b missing rest x some fails others more len =
      let same : leb (behind x + tail) (length others + more) ≡ false = ap (leb (behind x + tail)) len ∙ fails in
      rw (some, same) refl

  byte_stops : (missing : ℕ) (bytes : List ℕ) (left : ℕ) → IsBytes bytes → least + tail < length bytes + missing → byte_in meaning behind tail missing bytes ≡ Err left → Stopped (byte_in meaning behind tail) (Meant meaning) Room missing bytes left
  byte_stops missing [] left fits room e = inr (record {
    place = cc;
    some = omega (arith, room);
    begun = record { value = value; more = byte ∷ []; extra = missing - 1; spelled = example; rest = omega (arith, room, is); sum = omega (arith, room) };
  })
  byte_stops missing (b ∷ rest) left fits room e = elim (option_is (meaning b)) [
    | inl none ↦
        let failed : Path (Result (A × List ℕ) ℕ) (Err (suc (length rest))) (Err left) = rw none at e in
        let place : left ≡ suc (length rest) = cc in
        byte_breaks missing b rest left room place (none_stays b missing rest none)
    | inr some ↦
        let test : Bool = leb (behind some.0 + tail) (length rest + missing) in
        let failed : Path (Result (A × List ℕ) ℕ) (cond test (Ok (some.0, rest)) (Err (suc (length rest)))) (Err left) = rw some.1 at e in
        let chosen = chosen_err test (suc (length rest)) left (some.0, rest) failed in
        byte_breaks missing b rest left room (sym chosen.1) (some_stays b missing rest some.0 some.1 chosen.0)
  ]

  pub byte_reads : Reads (byte_in meaning behind tail) (Meant meaning) (λ n. least + tail < n) Room
  byte_reads = record {
    takes = byte_takes;
    again = byte_again;
    stops = byte_stops;
    there = λ n room. record { value = value; text = byte ∷ []; more = n - 1; spelled = example; rest = omega (arith, room, is); sum = omega (arith, room) };
    back = λ x text m s room. omega (arith, room, all s.byte x s.means, ap length s.alone);
  }

-- ---- what is read, seen otherwise with its room

module _ {A B : Type 0} {read : ℕ → List ℕ → Result (A × List ℕ) ℕ} {S : A → List ℕ → Type 0} {P : ℕ → Type 0} {Q : A → ℕ → Type 0} (T : B → List ℕ → Type 0) (U : B → ℕ → Type 0) (f : A → B)
    (to : (value : A) (text : List ℕ) (m : ℕ) → S value text → Q value m → T (f value) text × U (f value) m) (from : (other : B) (text : List ℕ) (m : ℕ) → T other text → U other m → (value : A) × (other ≡ f value) × S value text × Q value m) (r : Reads read S P Q) where
  abbrev mapped_read : ℕ → List ℕ → Result (B × List ℕ) ℕ
  mapped_read missing bytes = read missing bytes >>= λ x. Ok (f x.0, x.1)

  mapped_begun : (front : List ℕ) (n : ℕ) → Begun S Q front n → Begun T U front n
  mapped_begun front n b = let h = to b.value (front ++ b.more) b.extra b.spelled b.rest in record { value = f b.value; more = b.more; extra = b.extra; spelled = h.0; rest = h.1; sum = b.sum }

  mapped_stopped : (missing : ℕ) (bytes : List ℕ) (left : ℕ) → Stopped read S Q missing bytes left → Stopped mapped_read T U missing bytes left
  mapped_stopped missing bytes left (inl d) = inl (record {
    front = d.front;
    byte = d.byte;
    rest = d.rest;
    parts = d.parts;
    place = d.place;
    begun = mapped_begun d.front (suc (length d.rest + missing)) d.begun;
    stays = λ others more len. rw (d.stays others more len) refl;
  })
  mapped_stopped missing bytes left (inr d) = inr (record { place = d.place; some = d.some; begun = mapped_begun bytes missing d.begun })

  mapped_takes : (missing : ℕ) (bytes : List ℕ) (y : B × List ℕ) → IsBytes bytes → P (length bytes + missing) → mapped_read missing bytes ≡ Ok y → Taken T U missing bytes y
  mapped_takes missing bytes y fits p e =
      let b = bind_ok (read missing bytes) (λ (x : A × List ℕ). Ok (f x.0, x.1)) y e in
      let t = r.takes missing bytes b.0 fits p b.1 in
      let h = to b.0.0 t.text (length b.0.1 + missing) t.spelled t.rest in
      subst (λ (z : B × List ℕ). Taken T U missing bytes z) (ok_is (f b.0.0, b.0.1) y b.2) (record { text = t.text; parts = t.parts; spelled = h.0; rest = h.1 })

  mapped_again : (missing : ℕ) (other : B) (text rest : List ℕ) → T other text → U other (length rest + missing) → mapped_read missing (text ++ rest) ≡ Ok (other, rest)
  mapped_again missing other text rest t u =
      let h = from other text (length rest + missing) t u in
      rw (r.again missing h.0 text rest h.2 h.3) (ap (λ (z : B). Ok (z, rest)) (sym h.1))

  pub mapped : Reads mapped_read T P U
  mapped = record {
    takes = mapped_takes;
    again = mapped_again;
    stops = λ missing bytes left fits p e. elim (bind_err (read missing bytes) (λ (x : A × List ℕ). Ok (f x.0, x.1)) left e) [
      | inl first ↦ mapped_stopped missing bytes left (r.stops missing bytes left fits p first)
      | inr second ↦ absurd (let failed : Path (Result (B × List ℕ) ℕ) (Ok (f second.0.0, second.0.1)) (Err left) = second.2 in cc)
    ];
    there = λ n p. let g = r.there n p in let h = to g.value g.text g.more g.spelled g.rest in record { value = f g.value; text = g.text; more = g.more; spelled = h.0; rest = h.1; sum = g.sum };
    back = λ other text m t u. let h = from other text m t u in r.back h.0 text m h.2 h.3;
  }

-- ---- a test before a reading

pub bind_same : {A B : Type 0} (r : Result A ℕ) (f g : A → Result B ℕ) → ((x : A) → f x ≡ g x) → (r >>= f) ≡ (r >>= g)
bind_same (Ok x) f g same = same x
bind_same (Err d) f g same = refl

-- what a test reads, the reading reads too
pub bind_tested : {A B C : Type 0} (r s : Result A ℕ) (f : A → Result C ℕ) (g : A → Result B ℕ) → ((x : A) → r ≡ Ok x → s ≡ Ok x) → ((r >>= f) >>= λ u. s >>= g) ≡ (r >>= λ x. f x >>= λ u. g x)
bind_tested (Ok x) s f g same = rw (same x refl) refl
bind_tested (Err d) s f g same = refl

pub bind_seen : {A B C D : Type 0} (r : Result A ℕ) (s : Result B ℕ) (v : A → B) (f : B → Result D ℕ) (g : B → Result C ℕ) → ((x : A) → r ≡ Ok x → s ≡ Ok (v x)) → ((r >>= λ x. f (v x)) >>= λ u. s >>= g) ≡ ((r >>= λ x. Ok (v x)) >>= λ y. f y >>= λ u. g y)
bind_seen (Ok x) s v f g same = rw (same x refl) refl
bind_seen (Err d) s v f g same = refl
