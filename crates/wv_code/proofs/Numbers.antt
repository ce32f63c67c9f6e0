-- Numbers of which not every value fits: what reading them keeps.
use Rattle.std.proofs.Common.{◌≡◌, ℕ, zero, suc, ◌+◌, ◌-◌, ◌*◌, ◌/◌, ◌%◌, ◌^◌, ◌<◌, ◌≤◌, Bool, true, List, [], ◌∷◌, ◌++◌, length, take, drop, Result, Ok, Err, refl, sym, ap, subst, ◌∙◌, ◌⊎◌, inl, inr, arith, add-one}
use Rattle.std.specs.List.{AllByRecursion}
use Rattle.std.proofs.lemmas.Bool.{cases_Bool, cases_lt, both_ways}
use Rattle.std.proofs.lemmas.List.{length-append, length-take, take-append-drop, append-nil}
use Rattle.std.proofs.Math.Nat.{pow-suc, pow-succ', div-add-mod, mul-le-mul_left, div-lt_iff_lt-mul}
use Rattle.wv_room.specs.Number.{number_of, BeginsWith, IsFirstFault}
use Rattle.wv_code.specs.Number.{some_below, number_from, number_at}
use Rattle.wv_frames.proofs.Readers.{IsBytes, IsBytes-rest, Fill, Begun, Stopped, Taken, Reads, ok_is}

abbrev pub AreBytes : List ℕ → Type 0
AreBytes bytes = AllByRecursion (λ b. b < 256) bytes

pub some_true : (n : ℕ) (test : ℕ → Bool) → some_below n test ≡ true → (k : ℕ) × (k < n) × (test k ≡ true)
unfolding some_below
some_true zero test e = absurd cc
some_true (suc n) test e = elim (cases_Bool (test n)) [
  | inl holds ↦ (n, omega arith, holds)
  | inr fails ↦ let r = some_true n test (let f = rw fails at e in f) in (r.0, omega (arith, r.1), r.2)
]

pub true_some : (n k : ℕ) (test : ℕ → Bool) → k < n → test k ≡ true → some_below n test ≡ true
unfolding some_below
true_some zero k test lt e = absurd (omega arith)
true_some (suc n) k test lt e = elim (cases_Bool (test n)) [
  | inl holds ↦ rw holds refl
  | inr fails ↦ elim (cases_lt k n) [
    | inl less ↦ rw fails (true_some n k test less e)
    | inr most ↦ absurd (both_ways (test n) fails (subst (λ (i : ℕ). test i ≡ true) (omega arith) e))
  ]
]

pow_pos : (k : ℕ) → 0 < 256 ^ k
pow_pos zero = omega arith
pow_pos (suc k) = let p = pow_pos k in rw pow-suc (omega arith)

pub below : (bytes : List ℕ) → AreBytes bytes → number_of bytes < 256 ^ length bytes
below [] h = omega arith
below (b ∷ bytes) h = let p = below bytes h.1 in rw pow-succ' (omega (arith, mul-le-mul_left (256 ^ length bytes) h.0))

-- the bytes of a number, so many
digits : ℕ → ℕ → List ℕ
digits zero n = []
digits (suc k) n = n / 256 ^ k ∷ digits k (n % 256 ^ k)

pub record Digits (k n : ℕ) : Type 0 where
  pub text : List ℕ
  pub long : length text ≡ k
  pub bytes : AreBytes text
  pub spelled : number_of text ≡ n

pub digits_of : (k n : ℕ) → n < 256 ^ k → Digits k n
digits_of zero n h = record { text = []; long = refl; bytes = tt; spelled = omega arith }
digits_of (suc k) n h =
    let pos = pow_pos k in
    let rest = digits_of k (n % 256 ^ k) (omega (arith, pos)) in
    let parts = div-add-mod n (256 ^ k) in
    let upper : n < 256 * 256 ^ k = rw (← pow-succ' 256 k) h in
    let first : n / 256 ^ k < 256 = (div-lt_iff_lt-mul {k = 256 ^ k} {x = n} {y = 256} pos).1 upper in
    record { text = n / 256 ^ k ∷ rest.text; long = ap suc rest.long; bytes = (first, rest.bytes); spelled = rw rest.long (omega (arith, parts, rest.spelled)) }

-- the value with the next digit taken
pub stepped : (n b w m : ℕ) → (n * 256 + b) * 256 ^ w + m ≡ n * 256 ^ suc w + (b * 256 ^ w + m)
stepped n b w m = rw (pow-succ' 256 w) (product (256 ^ w))
  where
    product : (p : ℕ) → (n * 256 + b) * p + m ≡ n * (256 * p) + (b * p + m)
    product p = grind arith

pub again_from : (test : ℕ → Bool) (w n : ℕ) (text rest : List ℕ) → length text ≡ w → AreBytes text → test (n * 256 ^ w + number_of text) ≡ true → number_from test w n (text ++ rest) ≡ Ok (n * 256 ^ w + number_of text, rest)
unfolding number_from
again_from test zero n [] rest len bytes e = ap (λ (k : ℕ). Ok (k, rest)) (omega arith)
again_from test zero n (b ∷ text) rest len bytes e = absurd (omega arith)
again_from test (suc w) n [] rest len bytes e = absurd (omega arith)
again_from test (suc w) n (b ∷ text) rest len bytes e =
    let long : length text ≡ w = omega arith in
    let same : (n * 256 + b) * 256 ^ w + number_of text ≡ n * 256 ^ suc w + number_of (b ∷ text) = rw long (stepped n b w (number_of text)) in
    let holds : test ((n * 256 + b) * 256 ^ w + number_of text) ≡ true = ap test same ∙ e in
    let some : some_below (256 ^ w) (λ k. test ((n * 256 + b) * 256 ^ w + k)) ≡ true = true_some (256 ^ w) (number_of text) (λ k. test ((n * 256 + b) * 256 ^ w + k)) (subst (λ (k : ℕ). number_of text < 256 ^ k) long (below text bytes.1)) holds in
    rw some (again_from test w (n * 256 + b) text rest long bytes.1 holds ∙ ap (λ (k : ℕ). Ok (k, rest)) same)

-- some number that passes begins with the bytes
pub record Goes (test : ℕ → Bool) (w n : ℕ) (front : List ℕ) : Type 0 where
  pub more : List ℕ
  pub long : length front + length more ≡ w
  pub bytes : AreBytes (front ++ more)
  pub passes : test (n * 256 ^ w + number_of (front ++ more)) ≡ true

pub some_goes : (test : ℕ → Bool) (w n b : ℕ) (front : List ℕ) → Goes test (suc w) n (b ∷ front) → Goes test w (n * 256 + b) front
some_goes test w n b front g = record {
  more = g.more;
  long = omega (arith, g.long);
  bytes = g.bytes.1;
  passes =
      let long : length (front ++ g.more) ≡ w = omega (arith, g.long, length-append front g.more) in
      let same : (n * 256 + b) * 256 ^ w + number_of (front ++ g.more) ≡ n * 256 ^ suc w + number_of (b ∷ front ++ g.more) = rw long (stepped n b w (number_of (front ++ g.more))) in
      ap test same ∙ g.passes;
}

pub goes_some : (test : ℕ → Bool) (w n b : ℕ) (front : List ℕ) → b < 256 → Goes test w (n * 256 + b) front → Goes test (suc w) n (b ∷ front)
goes_some test w n b front small g = record {
  more = g.more;
  long = omega (arith, g.long);
  bytes = (small, g.bytes);
  passes =
      let long : length (front ++ g.more) ≡ w = omega (arith, g.long, length-append front g.more) in
      let same : (n * 256 + b) * 256 ^ w + number_of (front ++ g.more) ≡ n * 256 ^ suc w + number_of (b ∷ front ++ g.more) = rw long (stepped n b w (number_of (front ++ g.more))) in
      ap test (sym same) ∙ g.passes;
}

abbrev pub some_with : (ℕ → Bool) → ℕ → ℕ → Bool
some_with test w n = some_below (256 ^ w) (λ k. test (n * 256 ^ w + k))

-- the test over all numbers that begin with n
pub goes_true : (test : ℕ → Bool) (w n : ℕ) (front : List ℕ) → Goes test w n front → some_with test w n ≡ true
goes_true test w n front g =
    let long : length (front ++ g.more) ≡ w = omega (arith, g.long, length-append front g.more) in
    true_some (256 ^ w) (number_of (front ++ g.more)) (λ k. test (n * 256 ^ w + k)) (subst (λ (k : ℕ). number_of (front ++ g.more) < 256 ^ k) long (below (front ++ g.more) g.bytes)) g.passes

pub true_goes : (test : ℕ → Bool) (w n : ℕ) → some_with test w n ≡ true → Goes test w n []
true_goes test w n e =
    let k = some_true (256 ^ w) (λ k. test (n * 256 ^ w + k)) e in
    let d = digits_of w k.0 k.1 in
    record { more = d.text; long = omega (arith, d.long); bytes = d.bytes; passes = ap (λ (i : ℕ). test (n * 256 ^ w + i)) d.spelled ∙ k.2 }

-- the place is the first at which no number that passes goes on
pub fault_from : (test : ℕ → Bool) (w n place : ℕ) (bytes : List ℕ) → AreBytes bytes → place < w → place ≤ length bytes → (0 < place → Goes test w n (take place bytes))
    → (length bytes ≡ place) ⊎ (Goes test w n (take (suc place) bytes) → ⊥) → number_from test w n bytes ≡ Err (length bytes - place)
unfolding number_from
fault_from test zero n place bytes are within read begun stopped = absurd (omega arith)
fault_from test (suc w) n zero [] are within read begun stopped = refl
fault_from test (suc w) n zero (b ∷ rest) are within read begun (inl ended) = absurd (omega arith)
fault_from test (suc w) n zero (b ∷ rest) are within read begun (inr none) = elim (cases_Bool (some_with test w (n * 256 + b))) [
  | inl holds ↦ absurd (none (goes_some test w n b [] are.0 (true_goes test w (n * 256 + b) holds)))
  | inr fails ↦ rw fails (ap Err (omega arith))
]
fault_from test (suc w) n (suc place) [] are within read begun stopped = absurd (omega arith)
fault_from test (suc w) n (suc place) (b ∷ rest) are within read begun stopped =
    let g = some_goes test w n b (take place rest) (begun (omega arith)) in
    rw (goes_true test w (n * 256 + b) (take place rest) g)
    (fault_from test w (n * 256 + b) place rest are.1 (omega arith) (omega arith) (λ _. g)
    (elim stopped [
      | inl ended ↦ inl (omega arith)
      | inr none ↦ inr (λ (h : Goes test w (n * 256 + b) (take (suc place) rest)). none (goes_some test w n b (take (suc place) rest) are.0 h))
    ]) ∙ ap Err (omega arith))

pub are_bytes : (bytes : List ℕ) → IsBytes bytes → AreBytes bytes
are_bytes [] h = tt
are_bytes (b ∷ bytes) h = (h 0, are_bytes bytes (IsBytes-rest b bytes h))

pub are_append : (front back : List ℕ) → AreBytes front → AreBytes back → AreBytes (front ++ back)
are_append [] back f b = b
are_append (x ∷ front) back f b = (f.0, are_append front back f.1 b)

pub are_take : (n : ℕ) (bytes : List ℕ) → AreBytes bytes → AreBytes (take n bytes)
are_take zero bytes h = tt
are_take (suc n) [] h = tt
are_take (suc n) (b ∷ bytes) h = (h.0, are_take n bytes h.1)

zero_times : (p m : ℕ) → 0 * p + m ≡ m
zero_times p m = grind arith

-- an allowed number that begins with the bytes
pub begins_goes : (allows : ℕ → Type 0) (test : ℕ → Bool) → ((n : ℕ) → allows n → test n ≡ true) → (w : ℕ) (front : List ℕ) → AreBytes front → (n : ℕ) → allows n → BeginsWith w front n → Goes test w 0 front
begins_goes allows test is w front are n allowed b = record {
  more = b.rest;
  long = b.wide;
  bytes = are_append front b.rest are b.bytes;
  passes = ap test (zero_times (256 ^ w) (number_of (front ++ b.rest)) ∙ sym b.spelled) ∙ is n allowed;
}

pub goes_begins : (allows : ℕ → Type 0) (test : ℕ → Bool) → ((n : ℕ) → test n ≡ true → allows n) → (w : ℕ) (front : List ℕ) → Goes test w 0 front → (n : ℕ) × allows n × BeginsWith w front n
goes_begins allows test is w front g = (
  number_of (front ++ g.more),
  is (number_of (front ++ g.more)) (ap test (sym (zero_times (256 ^ w) (number_of (front ++ g.more)))) ∙ g.passes),
  record { rest = g.more; bytes = are_behind front g.more g.bytes; wide = g.long; spelled = refl },
)
  where
    are_behind : (front more : List ℕ) → AreBytes (front ++ more) → AreBytes more
    are_behind [] more h = h
    are_behind (x ∷ front) more h = are_behind front more h.1

-- what the reading of a number from its bytes is, from its clauses
pub number_found : (allows : ℕ → Type 0) (test : ℕ → Bool) → ((n : ℕ) → allows n → test n ≡ true) → (w : ℕ) (bytes : List ℕ) → AreBytes bytes → w ≤ length bytes → (n : ℕ) → n ≡ number_of (take w bytes) → allows n → number_from test w 0 bytes ≡ Ok (n, drop w bytes)
number_found allows test is w bytes are long n spelled allowed =
    let same : 0 * 256 ^ w + number_of (take w bytes) ≡ n = zero_times (256 ^ w) (number_of (take w bytes)) ∙ sym spelled in
    ap (number_from test w 0) (sym (take-append-drop w bytes))
    ∙ again_from test w 0 (take w bytes) (drop w bytes) (omega (arith, length-take w bytes)) (are_take w bytes are) (ap test same ∙ is n allowed)
    ∙ ap (λ (k : ℕ). Ok (k, drop w bytes)) same

pub number_stops : (allows : ℕ → Type 0) (test : ℕ → Bool) → ((n : ℕ) → allows n → test n ≡ true) → ((n : ℕ) → test n ≡ true → allows n) → (w : ℕ) (bytes : List ℕ) → AreBytes bytes → (place : ℕ) → IsFirstFault allows w bytes place → number_from test w 0 bytes ≡ Err (length bytes - place)
number_stops allows test is from w bytes are place f = fault_from test w 0 place bytes are f.within f.read
    (λ some. let b = f.begun some in begins_goes allows test is w (take place bytes) (are_take place bytes are) b.0 b.1 b.2)
    (elim f.stopped [
      | inl ended ↦ inl ended
      | inr none ↦ inr (λ (g : Goes test w 0 (take (suc place) bytes)). let b = goes_begins allows test from w (take (suc place) bytes) g in none b.0 b.1 (rw add-one b.2))
    ])

-- ---- the reader of a number

-- the number in so many bytes
abbrev pub IsNumber : ℕ → ℕ → List ℕ → Type 0
IsNumber w n text = (length text ≡ w) × AreBytes text × (number_of text ≡ n)

pub record NumberRoom (w : ℕ) (test : ℕ → ℕ → Bool) (total : ℕ) : Type 0 where
  pub more : ℕ
  pub sum : total ≡ w + more
  pub some : some_with (test more) w 0 ≡ true

record TakenFrom (test : ℕ → Bool) (w n : ℕ) (bytes : List ℕ) (x : ℕ × List ℕ) : Type 0 where
  text : List ℕ
  parts : bytes ≡ text ++ x.1
  long : length text ≡ w
  bytes_are : AreBytes text
  value : x.0 ≡ n * 256 ^ w + number_of text
  passes : test x.0 ≡ true

last_passes : (test : ℕ → Bool) (n : ℕ) → some_with test 0 n ≡ true → test n ≡ true
last_passes test n e = let k = some_true (256 ^ 0) (λ k. test (n * 256 ^ 0 + k)) e in subst (λ (i : ℕ). test i ≡ true) (omega (arith, k.1)) k.2

taken_from : (test : ℕ → Bool) (w n : ℕ) (bytes : List ℕ) (x : ℕ × List ℕ) → AreBytes bytes → some_with test w n ≡ true → number_from test w n bytes ≡ Ok x → TakenFrom test w n bytes x
unfolding number_from
taken_from test zero n bytes x are some e =
    let same : (n, bytes) ≡ x = ok_is (n, bytes) x e in
    subst (λ (y : ℕ × List ℕ). TakenFrom test 0 n bytes y) same
    (record { text = []; parts = refl; long = refl; bytes_are = tt; value = omega arith; passes = last_passes test n some })
taken_from test (suc w) n [] x are some e = absurd cc
taken_from test (suc w) n (b ∷ rest) x are some e = elim (cases_Bool (some_with test w (n * 256 + b))) [
  | inl holds ↦
      let t = taken_from test w (n * 256 + b) rest x are.1 holds (let f = rw holds at e in f) in
      record {
        text = b ∷ t.text;
        parts = ap (λ (z : List ℕ). b ∷ z) t.parts;
        long = ap suc t.long;
        bytes_are = (are.0, t.bytes_are);
        value = t.value ∙ stepped n b w (number_of t.text) ∙ ap (λ (k : ℕ). n * 256 ^ suc w + (b * 256 ^ k + number_of t.text)) (sym t.long);
        passes = t.passes;
      }
  | inr fails ↦ absurd (let f = rw fails at e in cc)
]

pub record BrokenFrom (test : ℕ → Bool) (w n : ℕ) (bytes : List ℕ) (left : ℕ) : Type 0 where
  pub front : List ℕ
  pub byte : ℕ
  pub rest : List ℕ
  pub parts : bytes ≡ front ++ byte ∷ rest
  pub place : left ≡ suc (length rest)
  pub goes : Goes test w n front
  pub stays : (others : List ℕ) → number_from test w n (front ++ byte ∷ others) ≡ Err (suc (length others))

pub record EndedFrom (test : ℕ → Bool) (w n : ℕ) (bytes : List ℕ) (left : ℕ) : Type 0 where
  pub place : left ≡ 0
  pub goes : Goes test w n bytes
  pub short : length bytes < w

stopped_from : (test : ℕ → Bool) (w n : ℕ) (bytes : List ℕ) (left : ℕ) → AreBytes bytes → some_with test w n ≡ true → number_from test w n bytes ≡ Err left → BrokenFrom test w n bytes left ⊎ EndedFrom test w n bytes left
unfolding number_from
stopped_from test zero n bytes left are some e = absurd cc
stopped_from test (suc w) n [] left are some e = inr (record { place = cc; goes = true_goes test (suc w) n some; short = omega arith })
stopped_from test (suc w) n (b ∷ rest) left are some e = elim (cases_Bool (some_with test w (n * 256 + b))) [
  | inl holds ↦ elim (stopped_from test w (n * 256 + b) rest left are.1 holds (let f = rw holds at e in f)) [
    | inl d ↦ inl (record {
      front = b ∷ d.front;
      byte = d.byte;
      rest = d.rest;
      parts = ap (λ (z : List ℕ). b ∷ z) d.parts;
      place = d.place;
      goes = goes_some test w n b d.front are.0 d.goes;
      stays = λ others. rw holds (d.stays others);
    })
    | inr d ↦ inr (record { place = d.place; goes = goes_some test w n b rest are.0 d.goes; short = omega (arith, d.short) })
  ]
  | inr fails ↦ inl (record {
    front = [];
    byte = b;
    rest = rest;
    parts = refl;
    place = let f : Path (Result (ℕ × List ℕ) ℕ) (Err (suc (length rest))) (Err left) = rw fails at e in cc;
    goes = true_goes test (suc w) n some;
    stays = λ others. rw fails refl;
  })
]

-- a number of so many bytes that passes the test for what is left
abbrev pub Passes : ℕ → (ℕ → ℕ → Bool) → ℕ → ℕ → Type 0
Passes w test n m = (n < 256 ^ w) × (test m n ≡ true)

number_below : (w : ℕ) (text : List ℕ) → length text ≡ w → AreBytes text → number_of text < 256 ^ w
number_below w text long are = subst (λ (k : ℕ). number_of text < 256 ^ k) long (below text are)

-- what begins a number that passes
goes_begun : (w : ℕ) (test : ℕ → ℕ → Bool) (room : ℕ) (front : List ℕ) (n : ℕ) → Goes (test room) w 0 front → n + length front ≡ w + room → Begun (IsNumber w) (Passes w test) front n
goes_begun w test room front n g sum = record {
  value = number_of (front ++ g.more);
  more = g.more;
  extra = room;
  spelled = (omega (arith, length-append front g.more, g.long), g.bytes, refl);
  rest = (number_below w (front ++ g.more) (omega (arith, length-append front g.more, g.long)) g.bytes, ap (test room) (sym (zero_times (256 ^ w) (number_of (front ++ g.more)))) ∙ g.passes);
  sum = omega (arith, sum, g.long);
}

-- A number of so many bytes, behind which it passes the test for what is left.
pub numbers : (w : ℕ) (test : ℕ → ℕ → Bool) → Reads (number_at w test) (IsNumber w) (NumberRoom w test) (Passes w test)
numbers w test = record { takes = takes; again = again; stops = stops; there = there; back = back }
  where
    room_is : (missing total : ℕ) (bytes : List ℕ) (p : NumberRoom w test (length bytes + missing)) → length bytes + missing - w ≡ p.more
    room_is missing total bytes p = omega (arith, p.sum)

    with_room : (missing : ℕ) (bytes : List ℕ) (r : Result (ℕ × List ℕ) ℕ) (p : NumberRoom w test (length bytes + missing)) → number_at w test missing bytes ≡ r → number_from (test p.more) w 0 bytes ≡ r
    with_room missing bytes r p e = ap (λ (k : ℕ). number_from (test k) w 0 bytes) (sym (room_is missing 0 bytes p)) ∙ e

    takes : (missing : ℕ) (bytes : List ℕ) (x : ℕ × List ℕ) → IsBytes bytes → NumberRoom w test (length bytes + missing) → number_at w test missing bytes ≡ Ok x → Taken (IsNumber w) (Passes w test) missing bytes x
    takes missing bytes x fits p e =
        let t = taken_from (test p.more) w 0 bytes x (are_bytes bytes fits) p.some (with_room missing bytes (Ok x) p e) in
        let value : number_of t.text ≡ x.0 = sym (t.value ∙ zero_times (256 ^ w) (number_of t.text)) in
        record {
          text = t.text;
          parts = t.parts;
          spelled = (t.long, t.bytes_are, value);
          rest = (
            subst (λ (k : ℕ). k < 256 ^ w) value (number_below w t.text t.long t.bytes_are),
            subst (λ (k : ℕ). test k x.0 ≡ true) (omega (arith, p.sum, t.long, ap length t.parts, length-append t.text x.1)) t.passes,
          );
        }

    again : (missing value : ℕ) (text rest : List ℕ) → IsNumber w value text → Passes w test value (length rest + missing) → number_at w test missing (text ++ rest) ≡ Ok (value, rest)
    again missing value text rest s q =
        let room : length (text ++ rest) + missing - w ≡ length rest + missing = omega (arith, s.0, length-append text rest) in
        let same : 0 * 256 ^ w + number_of text ≡ value = zero_times (256 ^ w) (number_of text) ∙ s.2 in
        ap (λ (k : ℕ). number_from (test k) w 0 (text ++ rest)) room
        ∙ again_from (test (length rest + missing)) w 0 text rest s.0 s.1 (ap (test (length rest + missing)) same ∙ q.1)
        ∙ ap (λ (k : ℕ). Ok (k, rest)) same

    stops : (missing : ℕ) (bytes : List ℕ) (left : ℕ) → IsBytes bytes → NumberRoom w test (length bytes + missing) → number_at w test missing bytes ≡ Err left → Stopped (number_at w test) (IsNumber w) (Passes w test) missing bytes left
    stops missing bytes left fits p e = elim (stopped_from (test p.more) w 0 bytes left (are_bytes bytes fits) p.some (with_room missing bytes (Err left) p e)) [
      | inl d ↦
          let sizes : length bytes ≡ length d.front + suc (length d.rest) = ap length d.parts ∙ length-append d.front (d.byte ∷ d.rest) in
          inl (record {
            front = d.front;
            byte = d.byte;
            rest = d.rest;
            parts = d.parts;
            place = d.place;
            begun = goes_begun w test p.more d.front (suc (length d.rest + missing)) d.goes (omega (arith, sizes, p.sum));
            stays = λ others more len. ap (λ (k : ℕ). number_from (test k) w 0 (d.front ++ d.byte ∷ others)) (omega (arith, p.sum, sizes, len, length-append d.front (d.byte ∷ others))) ∙ d.stays others;
          })
      | inr d ↦ inr (record { place = d.place; some = omega (arith, d.short, p.sum); begun = goes_begun w test p.more bytes missing d.goes (omega (arith, p.sum)) })
    ]

    there : (n : ℕ) → NumberRoom w test n → Fill (IsNumber w) (Passes w test) n
    there n p =
        let g = true_goes (test p.more) w 0 p.some in
        record { value = number_of g.more; text = g.more; more = p.more; spelled = (omega (arith, g.long), g.bytes, refl); rest = (number_below w g.more (omega (arith, g.long)) g.bytes, ap (test p.more) (sym (zero_times (256 ^ w) (number_of g.more))) ∙ g.passes); sum = omega (arith, p.sum, g.long) }

    back : (value : ℕ) (text : List ℕ) (m : ℕ) → IsNumber w value text → Passes w test value m → NumberRoom w test (length text + m)
    back value text m s q = record {
      more = m;
      sum = omega (arith, s.0);
      some = goes_true (test m) w 0 text (record { more = []; long = omega (arith, s.0); bytes = subst AreBytes (sym (append-nil text)) s.1; passes = ap (test m) (zero_times (256 ^ w) (number_of (text ++ [])) ∙ ap number_of (append-nil text) ∙ s.2) ∙ q.1 });
    }

pub number_short : (w : ℕ) (bytes : List ℕ) → AreBytes bytes → w ≤ length bytes → number_of (take w bytes) < 256 ^ w
number_short w bytes are long = number_below w (take w bytes) (omega (arith, length-take w bytes, long)) (are_take w bytes are)
