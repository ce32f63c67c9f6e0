-- The readers of numbers, tags and counts.
use Rattle.std.proofs.Common.{◌≡◌, ℕ, zero, suc, ◌+◌, ◌*◌, ◌/◌, ◌%◌, ◌^◌, ◌<◌, ◌≤◌, Bool, true, false, cond, ltb, List, [], ◌∷◌, ◌++◌, length, take, drop, Option, Some, None, Result, Ok, Err, refl, sym, ap, subst, ◌∙◌, ◌⊎◌, inl, inr, arith}
use Rattle.std.proofs.lemmas.Bool.{cases_Bool, cases_lt, ltb-true, ltb-false, le-ltb}
use Rattle.std.proofs.lemmas.List.{take-append-drop, length-append, length-take, length-drop}
use Rattle.std.proofs.lemmas.Nat.{from_be_bytes-to_be_bytes_2}
use Rattle.std.proofs.lemmas.Bool.{both_ways}
use Rattle.wv_room.specs.declared.frames.Frames.{Frames}
use Rattle.wv_room.specs.declared.frame_count.FrameKind.{FrameKind}
use Rattle.wv_room.specs.Counts.{frames_with}
use Rattle.wv_pool.specs.Reading.{fixed, number}
use Rattle.wv_pool.specs.Entries.{number_bytes}
use Rattle.wv_pool.proofs.PlainEntries.{IsBytes-take, number_back}
use Rattle.wv_frames.specs.Reading.{fits_in, tag_found, tag_at, some_below, count_fits, begins_count, half_count, count_at}
use Rattle.wv_frames.proofs.Sizes.{Fit, fits_true, true_fits}
use Rattle.wv_frames.proofs.Readers.{IsBytes, Fill, Begun, Broken, Stopped, Taken, Reads}

-- a test that chooses
pub chosen_ok : {A : Type 0} (b : Bool) (d : ℕ) (x y : A) → cond b (Err d) (Ok x) ≡ Ok y → (b ≡ false) × (x ≡ y)
chosen_ok true d x y e = absurd cc
chosen_ok false d x y e = (refl, cc)

pub chosen_err : {A : Type 0} (b : Bool) (d left : ℕ) (x : A) → cond b (Err d) (Ok x) ≡ Err left → (b ≡ true) × (d ≡ left)
chosen_err true d left x e = (refl, cc)
chosen_err false d left x e = absurd cc

taken_ok : {A : Type 0} (b : Bool) (d : ℕ) (x y : A) → cond b (Ok x) (Err d) ≡ Ok y → (b ≡ true) × (x ≡ y)
taken_ok true d x y e = (refl, cc)
taken_ok false d x y e = absurd cc

taken_err : {A : Type 0} (b : Bool) (d left : ℕ) (x : A) → cond b (Ok x) (Err d) ≡ Err left → (b ≡ false) × (d ≡ left)
taken_err true d left x e = absurd cc
taken_err false d left x e = (refl, cc)

-- ---- numbers of two bytes

abbrev pub Short : ℕ → List ℕ → Type 0
Short n text = (n < 2 ^ 16) × (text ≡ number_bytes n)

pub record Room2 (Q : ℕ → Type 0) (n : ℕ) : Type 0 where
  pub more : ℕ
  pub sum : n ≡ 2 + more
  pub rest : Q more

pub short_len : (n : ℕ) (text : List ℕ) → Short n text → length text ≡ 2
short_len n text s = ap length s.1

pub short_again : (n : ℕ) (rest : List ℕ) → n < 2 ^ 16 → fixed 2 number (number_bytes n ++ rest) ≡ Ok (n, rest)
short_again n rest lt =
    let long : ltb (length (number_bytes n ++ rest)) 2 ≡ false = le-ltb _ _ (omega (arith, length-append (number_bytes n) rest)) in
    rw long (ap (λ (k : ℕ). Ok (k, rest)) (from_be_bytes-to_be_bytes_2 n lt))

pub pair_number : (h l : ℕ) → h < 256 → l < 256 → Short (h * 256 + l) (h ∷ l ∷ [])
pair_number h l a b =
    let back = number_back (h ∷ l ∷ []) refl (λ i. small i) in
    let same : number (h ∷ l ∷ []) ≡ h * 256 + l = omega arith in
    (omega arith, sym back.0 ∙ ap number_bytes same)
  where
    small : IsBytes (h ∷ l ∷ [])
    small zero = a
    small (suc zero) = b
    small (suc (suc i)) = omega arith

-- a number that the bytes begin
short_begun : (Q : ℕ → Type 0) (missing : ℕ) (bytes : List ℕ) → IsBytes bytes → length bytes < 2 → Room2 Q (length bytes + missing) → Begun Short (λ _. Q) bytes missing
short_begun Q missing [] fits lt p = record { value = 0; more = number_bytes 0; extra = p.more; spelled = (omega arith, refl); rest = p.rest; sum = omega (arith, p.sum) }
short_begun Q missing (h ∷ []) fits lt p = record { value = h * 256 + 0; more = 0 ∷ []; extra = p.more; spelled = pair_number h 0 (fits 0) (omega arith); rest = p.rest; sum = omega (arith, p.sum) }
short_begun Q missing (h ∷ l ∷ bytes) fits lt p = absurd (omega arith)

pub short : (Q : ℕ → Type 0) → Reads (λ missing. fixed 2 number) Short (Room2 Q) (λ _. Q)
short Q = record { takes = takes; again = again; stops = stops; there = there; back = back }
  where
    takes : (missing : ℕ) (bytes : List ℕ) (x : ℕ × List ℕ) → IsBytes bytes → Room2 Q (length bytes + missing) → fixed 2 number bytes ≡ Ok x → Taken Short (λ _. Q) missing bytes x
    takes missing bytes x fits p e =
        let g = chosen_ok (ltb (length bytes) 2) 0 (number (take 2 bytes), drop 2 bytes) x e in
        let long : 2 ≤ length bytes = ltb-false _ _ g.0 in
        let b = number_back (take 2 bytes) (omega (arith, length-take 2 bytes, long)) (IsBytes-take 2 bytes fits) in
        subst (λ (y : ℕ × List ℕ). Taken Short (λ _. Q) missing bytes y) g.1
        (record { text = take 2 bytes; parts = sym (take-append-drop 2 bytes); spelled = (b.1, sym b.0); rest = subst Q (omega (arith, length-drop 2 bytes, long, p.sum)) p.rest })

    again : (missing value : ℕ) (text rest : List ℕ) → Short value text → Q (length rest + missing) → fixed 2 number (text ++ rest) ≡ Ok (value, rest)
    again missing value text rest s q = ap (λ (t : List ℕ). fixed 2 number (t ++ rest)) s.1 ∙ short_again value rest s.0

    stops : (missing : ℕ) (bytes : List ℕ) (left : ℕ) → IsBytes bytes → Room2 Q (length bytes + missing) → fixed 2 number bytes ≡ Err left → Stopped (λ missing. fixed 2 number) Short (λ _. Q) missing bytes left
    stops missing bytes left fits p e =
        let g = chosen_err (ltb (length bytes) 2) 0 left (number (take 2 bytes), drop 2 bytes) e in
        let lt : length bytes < 2 = ltb-true _ _ g.0 in
        inr (record { place = sym g.1; some = omega (arith, lt, p.sum); begun = short_begun Q missing bytes fits lt p })

    there : (n : ℕ) → Room2 Q n → Fill Short (λ _. Q) n
    there n p = record { value = 0; text = number_bytes 0; more = p.more; spelled = (omega arith, refl); rest = p.rest; sum = p.sum }

    back : (value : ℕ) (text : List ℕ) (m : ℕ) → Short value text → Q m → Room2 Q (length text + m)
    back value text m s q = record { more = m; sum = omega (arith, short_len value text s); rest = q }

-- ---- tags

pub record Meant {A : Type 0} (meaning : ℕ → Option A) (value : A) (text : List ℕ) : Type 0 where
  pub byte : ℕ
  pub small : byte < 256
  pub means : meaning byte ≡ Some value
  pub alone : text ≡ byte ∷ []

module _ {A : Type 0} (meaning : ℕ → Option A) (to_come : A → Frames) where
  abbrev pub TagRoom : A → ℕ → Type 0
  TagRoom tag n = Fit (to_come tag) n

  found_takes : (missing b : ℕ) (rest : List ℕ) (o : Option A) (x : A × List ℕ) → b < 256 → meaning b ≡ o → tag_found missing to_come rest o ≡ Ok x → Taken (Meant meaning) TagRoom missing (b ∷ rest) x
  found_takes missing b rest None x lt m e = absurd cc
  found_takes missing b rest (Some tag) x lt m e =
      let g = taken_ok (fits_in (to_come tag) (length rest + missing)) (suc (length rest)) (tag, rest) x e in
      subst (λ (y : A × List ℕ). Taken (Meant meaning) TagRoom missing (b ∷ rest) y) g.1
      (record { text = b ∷ []; parts = refl; spelled = record { byte = b; small = lt; means = m; alone = refl }; rest = fits_true (to_come tag) (length rest + missing) g.0 })

  -- a tag that isn't read, and stays so
  found_stops : (missing more : ℕ) (rest others : List ℕ) (o : Option A) (left : ℕ) → length others + more ≡ length rest + missing → tag_found missing to_come rest o ≡ Err left → (left ≡ suc (length rest)) × (tag_found more to_come others o ≡ Err (suc (length others)))
  found_stops missing more rest others None left len e = (cc, refl)
  found_stops missing more rest others (Some tag) left len e =
      let g = taken_err (fits_in (to_come tag) (length rest + missing)) (suc (length rest)) left (tag, rest) e in
      let same : fits_in (to_come tag) (length others + more) ≡ false = ap (fits_in (to_come tag)) len ∙ g.0 in
      (sym g.1, rw same refl)

  pub tag : Reads (λ missing. tag_at missing meaning to_come) (Meant meaning) (Fill (Meant meaning) TagRoom) TagRoom
  unfolding tag_at
  tag = record { takes = takes; again = again; stops = stops; there = λ n p. p; back = λ value text m s q. record { value = value; text = text; more = m; spelled = s; rest = q; sum = refl } }
    where
      takes : (missing : ℕ) (bytes : List ℕ) (x : A × List ℕ) → IsBytes bytes → Fill (Meant meaning) TagRoom (length bytes + missing) → tag_at missing meaning to_come bytes ≡ Ok x → Taken (Meant meaning) TagRoom missing bytes x
      takes missing [] x fits p e = absurd cc
      takes missing (b ∷ rest) x fits p e = found_takes missing b rest (meaning b) x (fits 0) refl e

      again : (missing : ℕ) (value : A) (text rest : List ℕ) → Meant meaning value text → TagRoom value (length rest + missing) → tag_at missing meaning to_come (text ++ rest) ≡ Ok (value, rest)
      again missing value text rest s q =
          ap (λ (t : List ℕ). tag_at missing meaning to_come (t ++ rest)) s.alone ∙ ap (tag_found missing to_come rest) s.means ∙ rw (true_fits (to_come value) (length rest + missing) q) refl

      stops : (missing : ℕ) (bytes : List ℕ) (left : ℕ) → IsBytes bytes → Fill (Meant meaning) TagRoom (length bytes + missing) → tag_at missing meaning to_come bytes ≡ Err left → Stopped (λ missing. tag_at missing meaning to_come) (Meant meaning) TagRoom missing bytes left
      stops missing [] left fits p e = inr (record {
        place = cc;
        some = omega (arith, p.sum, ap length p.spelled.alone);
        begun = record { value = p.value; more = p.text; extra = p.more; spelled = p.spelled; rest = p.rest; sum = omega (arith, p.sum) };
      })
      stops missing (b ∷ rest) left fits p e = inl (record {
        front = [];
        byte = b;
        rest = rest;
        parts = refl;
        place = (found_stops missing missing rest rest (meaning b) left refl e).0;
        begun = record { value = p.value; more = p.text; extra = p.more; spelled = p.spelled; rest = p.rest; sum = omega (arith, p.sum) };
        stays = λ others more len. (found_stops missing more rest others (meaning b) left len e).1;
      })

-- ---- counts

pub some_true : (n : ℕ) (test : ℕ → Bool) → some_below n test ≡ true → (k : ℕ) × (k < n) × (test k ≡ true)
unfolding some_below
some_true zero test e = absurd cc
some_true (suc n) test e = elim (cases_Bool (test n)) [
  | inl holds ↦ (n, omega arith, holds)
  | inr fails ↦ let r = some_true n test (let f = rw fails at e in f) in (r.0, omega (arith, r.1), r.2)
]

pub true_some : (n k : ℕ) (test : ℕ → Bool) → k < n → test k ≡ true → some_below n test ≡ true
unfolding some_below
true_some zero k test lt e = absurd (omega arith)
true_some (suc n) k test lt e = elim (cases_Bool (test n)) [
  | inl holds ↦ rw holds refl
  | inr fails ↦ elim (cases_lt k n) [
    | inl less ↦ rw fails (true_some n k test less e)
    | inr most ↦ absurd (both_ways (test n) fails (subst (λ (i : ℕ). test i ≡ true) (omega arith) e))
  ]
]

-- the two bytes of a number
pub record TwoBytes (n : ℕ) : Type 0 where
  pub high : ℕ
  pub low : ℕ
  pub small : low < 256
  pub spelled : number_bytes n ≡ high ∷ low ∷ []
  pub sum : n ≡ high * 256 + low

pub two_bytes : (n : ℕ) → n < 2 ^ 16 → TwoBytes n
two_bytes n lt =
    let s : Short (n / 256 * 256 + n % 256) (n / 256 ∷ n % 256 ∷ []) = pair_number (n / 256) (n % 256) (omega arith) (omega arith) in
    let same : n / 256 * 256 + n % 256 ≡ n = omega arith in
    record { high = n / 256; low = n % 256; small = omega arith; spelled = ap number_bytes (sym same) ∙ sym s.1; sum = omega arith }

module _ (kind : FrameKind) (besides : Frames) where
  abbrev pub CountRoom : ℕ → ℕ → Type 0
  CountRoom k n = Fit (frames_with kind k besides) n

  abbrev pub test : ℕ → ℕ → ℕ → Bool
  test room h k = count_fits kind besides room (h * 256 + k)

  abbrev pub at_pair : ℕ → ℕ → List ℕ → Bool → Bool → Result (ℕ × List ℕ) ℕ
  at_pair h l rest some here = cond some (cond here (Ok (h * 256 + l, rest)) (Err (suc (length rest)))) (Err (suc (suc (length rest))))

  pub count_is : (missing h l : ℕ) (rest : List ℕ) → count_at missing kind besides (h ∷ l ∷ rest) ≡ at_pair h l rest (begins_count kind besides (length rest + missing) h) (test (length rest + missing) h l)
  unfolding count_at
  count_is missing h l rest = refl

  pair_ok : (h l : ℕ) (rest : List ℕ) (some here : Bool) (x : ℕ × List ℕ) → at_pair h l rest some here ≡ Ok x → (here ≡ true) × ((h * 256 + l, rest) ≡ x)
  pair_ok h l rest true true x e = (refl, cc)
  pair_ok h l rest true false x e = absurd cc
  pair_ok h l rest false here x e = absurd cc

  pair_err : (h l : ℕ) (rest : List ℕ) (some here : Bool) (left : ℕ) → at_pair h l rest some here ≡ Err left → ((some ≡ false) × (left ≡ suc (suc (length rest)))) ⊎ ((some ≡ true) × (here ≡ false) × (left ≡ suc (length rest)))
  pair_err h l rest true true left e = absurd cc
  pair_err h l rest true false left e = inr (refl, refl, cc)
  pair_err h l rest false here left e = inl (refl, cc)

  pub count_again : (missing k : ℕ) (rest : List ℕ) → k < 2 ^ 16 → CountRoom k (length rest + missing) → count_at missing kind besides (number_bytes k ++ rest) ≡ Ok (k, rest)
  count_again missing k rest lt q =
      let room = length rest + missing in
      let b = two_bytes k lt in
      let here : test room b.high b.low ≡ true = ap (λ (n : ℕ). count_fits kind besides room n) (sym b.sum) ∙ true_fits (frames_with kind k besides) room q in
      let some : begins_count kind besides room b.high ≡ true = true_some 256 b.low (test room b.high) b.small here in
      ap (λ (t : List ℕ). count_at missing kind besides (t ++ rest)) b.spelled ∙ count_is missing b.high b.low rest ∙ ap (λ (s : Bool). at_pair b.high b.low rest s (test room b.high b.low)) some ∙ ap (at_pair b.high b.low rest true) here ∙ ap (λ (n : ℕ). Ok (n, rest)) (sym b.sum)

  half_ok : (missing h : ℕ) (x : ℕ × List ℕ) → half_count missing kind besides h ≡ Ok x → ⊥
  half_ok zero h x e = cc
  half_ok (suc missing) h x e = neither (begins_count kind besides missing h) e
    where
      neither : (b : Bool) → Path (Result (ℕ × List ℕ) ℕ) (cond b (Err 0) (Err 1)) (Ok x) → ⊥
      neither true f = cc
      neither false f = cc

  pub count_takes : (missing : ℕ) (bytes : List ℕ) (x : ℕ × List ℕ) → IsBytes bytes → count_at missing kind besides bytes ≡ Ok x → Taken Short CountRoom missing bytes x
  unfolding count_at
  count_takes missing [] x fits e = absurd cc
  count_takes missing (h ∷ []) x fits e = absurd (half_ok missing h x e)
  count_takes missing (h ∷ l ∷ rest) x fits e =
      let room = length rest + missing in
      let g = pair_ok h l rest (begins_count kind besides room h) (test room h l) x e in
      subst (λ (y : ℕ × List ℕ). Taken Short CountRoom missing (h ∷ l ∷ rest) y) g.1
      (record { text = h ∷ l ∷ []; parts = refl; spelled = pair_number h l (fits 0) (fits 1); rest = fits_true (frames_with kind (h * 256 + l) besides) room g.0 })

  -- a first byte that begins no count fails whatever stands behind it
  pub half_fails : (missing room h : ℕ) → missing ≡ suc room → begins_count kind besides room h ≡ false → half_count missing kind besides h ≡ Err 1
  half_fails zero room h len none = absurd (omega arith)
  half_fails (suc missing) room h len none =
      let same : missing ≡ room = omega arith in
      ap (λ (n : ℕ). cond (begins_count kind besides n h) (Err 0) (Err 1)) same ∙ rw none refl

  first_fails : (room h : ℕ) → begins_count kind besides room h ≡ false → (others : List ℕ) (more : ℕ) → length others + more ≡ suc room → count_at more kind besides (h ∷ others) ≡ Err (suc (length others))
  unfolding count_at
  first_fails room h none [] more len = half_fails more room h (omega arith) none
  first_fails room h none (b ∷ others) more len =
      let sizes : length others + more ≡ room = omega arith in
      let none_too : begins_count kind besides (length others + more) h ≡ false = ap (λ (n : ℕ). begins_count kind besides n h) sizes ∙ none in
      count_is more h b others ∙ ap (λ (s : Bool). at_pair h b others s (test (length others + more) h b)) none_too

  first_breaks : (missing room n h : ℕ) (rest : List ℕ) → Fill Short CountRoom n → n ≡ suc (length rest + missing) → length rest + missing ≡ suc room → begins_count kind besides room h ≡ false → Broken (λ missing. count_at missing kind besides) Short CountRoom missing (h ∷ rest) (suc (length rest))
  first_breaks missing room n h rest p whole size none = record {
    front = [];
    byte = h;
    rest = rest;
    parts = refl;
    place = refl;
    begun = record { value = p.value; more = p.text; extra = p.more; spelled = p.spelled; rest = p.rest; sum = sym whole ∙ p.sum };
    stays = λ others more len. first_fails room h none others more (len ∙ size);
  }

  second_breaks : (missing h l : ℕ) (rest : List ℕ) → h < 256 → begins_count kind besides (length rest + missing) h ≡ true → test (length rest + missing) h l ≡ false → Broken (λ missing. count_at missing kind besides) Short CountRoom missing (h ∷ l ∷ rest) (suc (length rest))
  second_breaks missing h l rest small some fails =
      let room = length rest + missing in
      let k = some_true 256 (test room h) some in
      record {
        front = h ∷ [];
        byte = l;
        rest = rest;
        parts = refl;
        place = refl;
        begun = record { value = h * 256 + k.0; more = k.0 ∷ []; extra = room; spelled = pair_number h k.0 small k.1; rest = fits_true (frames_with kind (h * 256 + k.0) besides) room k.2; sum = omega arith };
        stays = λ others more len.
            let some_too : begins_count kind besides (length others + more) h ≡ true = ap (λ (n : ℕ). begins_count kind besides n h) len ∙ some in
            let not_here : test (length others + more) h l ≡ false = ap (λ (n : ℕ). test n h l) len ∙ fails in
            count_is more h l others ∙ ap (λ (s : Bool). at_pair h l others s (test (length others + more) h l)) some_too ∙ ap (at_pair h l others true) not_here;
      }

  -- the first byte begins a count, of which the second is missing
  half_begun : (room h : ℕ) → h < 256 → begins_count kind besides room h ≡ true → Begun Short CountRoom (h ∷ []) (suc room)
  half_begun room h small some =
      let k = some_true 256 (test room h) some in
      record { value = h * 256 + k.0; more = k.0 ∷ []; extra = room; spelled = pair_number h k.0 small k.1; rest = fits_true (frames_with kind (h * 256 + k.0) besides) room k.2; sum = omega arith }

  abbrev CountStops : ℕ → List ℕ → ℕ → Type 0
  CountStops missing bytes left = Stopped (λ missing. count_at missing kind besides) Short CountRoom missing bytes left

  half_is : (room h : ℕ) (b : Bool) → begins_count kind besides room h ≡ b → half_count (suc room) kind besides h ≡ cond b (Err 0) (Err 1)
  half_is room h b e = rw e refl

  err_is : (a b : ℕ) → Path (Result (ℕ × List ℕ) ℕ) (Err a) (Err b) → a ≡ b
  err_is a b e = cc

  half_stops : (missing h left : ℕ) → h < 256 → Fill Short CountRoom (1 + missing) → half_count missing kind besides h ≡ Err left → CountStops missing (h ∷ []) left
  half_stops zero h left small p e = absurd (omega (arith, p.sum, short_len p.value p.text p.spelled))
  half_stops (suc room) h left small p e = elim (cases_Bool (begins_count kind besides room h)) [
    | inl some ↦ inr (record { place = err_is left 0 (sym e ∙ half_is room h true some); some = omega arith; begun = half_begun room h small some })
    | inr none ↦
        subst (CountStops (suc room) (h ∷ [])) (err_is 1 left (sym (half_is room h false none) ∙ e))
        (inl (first_breaks (suc room) room (1 + suc room) h [] p (omega arith) (omega arith) none))
  ]

  pair_stops : (missing h l : ℕ) (rest : List ℕ) (left : ℕ) → h < 256 → Fill Short CountRoom (length (h ∷ l ∷ rest) + missing)
      → ((begins_count kind besides (length rest + missing) h ≡ false) × (left ≡ suc (suc (length rest)))) ⊎ ((begins_count kind besides (length rest + missing) h ≡ true) × (test (length rest + missing) h l ≡ false) × (left ≡ suc (length rest))) → CountStops missing (h ∷ l ∷ rest) left
  pair_stops missing h l rest left small p (inl first) =
      subst (CountStops missing (h ∷ l ∷ rest)) (sym first.1) (inl (first_breaks missing (length rest + missing) (length (h ∷ l ∷ rest) + missing) h (l ∷ rest) p (omega arith) (omega arith) first.0))
  pair_stops missing h l rest left small p (inr second) = subst (CountStops missing (h ∷ l ∷ rest)) (sym second.2) (inl (second_breaks missing h l rest small second.0 second.1))

  count_stops : (missing : ℕ) (bytes : List ℕ) (left : ℕ) → IsBytes bytes → Fill Short CountRoom (length bytes + missing) → count_at missing kind besides bytes ≡ Err left → CountStops missing bytes left
  unfolding count_at
  count_stops missing [] left fits p e = inr (record {
    place = cc;
    some = omega (arith, p.sum, short_len p.value p.text p.spelled);
    begun = record { value = p.value; more = p.text; extra = p.more; spelled = p.spelled; rest = p.rest; sum = omega (arith, p.sum) };
  })
  count_stops missing (h ∷ []) left fits p e = half_stops missing h left (fits 0) p e
  count_stops missing (h ∷ l ∷ rest) left fits p e =
      pair_stops missing h l rest left (fits 0) p (pair_err h l rest (begins_count kind besides (length rest + missing) h) (test (length rest + missing) h l) left e)

  pub count : Reads (λ missing. count_at missing kind besides) Short (Fill Short CountRoom) CountRoom
  count = record {
    takes = λ missing bytes x fits p e. count_takes missing bytes x fits e;
    again = λ missing value text rest s q. ap (λ (t : List ℕ). count_at missing kind besides (t ++ rest)) s.1 ∙ count_again missing value rest s.0 q;
    stops = count_stops;
    there = λ n p. p;
    back = λ value text m s q. record { value = value; text = text; more = m; spelled = s; rest = q; sum = refl };
  }
