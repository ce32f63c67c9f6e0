-- The parts of a Code attribute's content: how each is read, and what fits.
use Rattle.std.proofs.Common.{◌≡◌, ℕ, zero, suc, ◌+◌, ◌-◌, ◌*◌, ◌^◌, ◌<◌, Bool, List, [], ◌∷◌, ◌++◌, length, replicate, Result, Ok, Err, refl, sym, ap, subst, ◌∙◌, inl, inr, arith}
use Rattle.std.specs.List.{flat_map, AllByRecursion}
use Rattle.std.specs.Int.{w16, w32, from_be_bytes}
use Rattle.std.proofs.lemmas.List.{length-append, length-replicate}
use Rattle.std.proofs.lemmas.Nat.{be_bytes_2, be_bytes_4}
use Rattle.wv_insn.specs.declared.raw.Raw.TheVariants as raws
use Rattle.wv_base.specs.Opcodes.{nop}
use Rattle.wv_insn.specs.Spelling.{padding, Spells}
use Rattle.wv_insn.proofs.Operands.{nop_is}
use Rattle.wv_room.specs.Number.{number_of}
use Rattle.wv_pool.specs.Reading.{◌>>=◌, fixed, number}
use Rattle.wv_pool.specs.Entries.{number_bytes}
use Rattle.wv_frames.proofs.Readers.{IsBytes, Fill, Begun, Stopped, Taken, Reads, resized, renamed, done, Then, then, Seen, seen, alike}
use Rattle.wv_frames.proofs.Tags.{Short, Room2, short}
use Rattle.wv_code.specs.declared.raw_body.RawRange.{RawRange}
use Rattle.wv_code.specs.Content.{length_bytes, range_bytes, IsRange}
use Rattle.wv_code.specs.Number.{number_at}
use Rattle.wv_code.specs.Reading.{insns_from, code_at, times, range_at}
use Rattle.wv_code.specs.Fitting.{insn_at}
use Rattle.wv_code.proofs.Numbers.{AreBytes, below, digits_of, IsNumber, NumberRoom, Passes, numbers}
use Rattle.wv_code.proofs.Insns.{Code, Lines, BegunCode, insns_take, insns_again, code_there, insns_stop}
use Rattle.wv_code.proofs.InsnReads.{insn_reads}

-- ---- numbers of two and of four bytes

are_one_by_one : (bytes : List ℕ) → AreBytes bytes → IsBytes bytes
are_one_by_one [] h i = omega arith
are_one_by_one (b ∷ bytes) h zero = h.0
are_one_by_one (b ∷ bytes) h (suc i) = are_one_by_one bytes h.1 i

abbrev pub Long : ℕ → List ℕ → Type 0
Long n text = (n < 2 ^ 32) × (text ≡ length_bytes n)

two_value : (text : List ℕ) → length text ≡ 2 → number_of text ≡ from_be_bytes w16 text
two_value [] e = absurd (omega arith)
two_value (a ∷ []) e = absurd (omega arith)
two_value (a ∷ b ∷ []) e = omega arith
two_value (a ∷ b ∷ c ∷ text) e = absurd (omega arith)

four_value : (text : List ℕ) → length text ≡ 4 → number_of text ≡ from_be_bytes w32 text
four_value [] e = absurd (omega arith)
four_value (a ∷ []) e = absurd (omega arith)
four_value (a ∷ b ∷ []) e = absurd (omega arith)
four_value (a ∷ b ∷ c ∷ []) e = absurd (omega arith)
four_value (a ∷ b ∷ c ∷ d ∷ []) e = omega arith
four_value (a ∷ b ∷ c ∷ d ∷ f ∷ text) e = absurd (omega arith)

short_is : (n : ℕ) (text : List ℕ) → IsNumber 2 n text → Short n text
short_is n text s = (
  (let b : number_of text < 256 ^ length text = below text s.1 in let c : number_of text < 256 ^ 2 = subst (λ (k : ℕ). number_of text < 256 ^ k) s.0 b in omega (arith, c, s.2)),
  sym (be_bytes_2 text n s.0 (are_one_by_one text s.1) (sym s.2 ∙ two_value text s.0)),
)

long_text : (n : ℕ) (text : List ℕ) → IsNumber 4 n text → Long n text
long_text n text s = (
  (let b : number_of text < 256 ^ length text = below text s.1 in let c : number_of text < 256 ^ 4 = subst (λ (k : ℕ). number_of text < 256 ^ k) s.0 b in omega (arith, c, s.2)),
  sym (be_bytes_4 text n s.0 (are_one_by_one text s.1) (sym s.2 ∙ four_value text s.0)),
)

is_short : (n : ℕ) (text : List ℕ) → Short n text → IsNumber 2 n text
is_short n text s =
    let d = digits_of 2 n (omega (arith, s.0)) in
    let same : number_bytes n ≡ d.text = be_bytes_2 d.text n d.long (are_one_by_one d.text d.bytes) (sym d.spelled ∙ two_value d.text d.long) in
    subst (λ (t : List ℕ). IsNumber 2 n t) (sym (s.1 ∙ same)) (d.long, d.bytes, d.spelled)

is_long_text : (n : ℕ) (text : List ℕ) → Long n text → IsNumber 4 n text
is_long_text n text s =
    let d = digits_of 4 n (omega (arith, s.0)) in
    let same : length_bytes n ≡ d.text = be_bytes_4 d.text n d.long (are_one_by_one d.text d.bytes) (sym d.spelled ∙ four_value d.text d.long) in
    subst (λ (t : List ℕ). IsNumber 4 n t) (sym (s.1 ∙ same)) (d.long, d.bytes, d.spelled)

pub shorts : (test : ℕ → ℕ → Bool) → Reads (number_at 2 test) Short (NumberRoom 2 test) (Passes 2 test)
shorts test = renamed (IsNumber 2) Short short_is is_short (numbers 2 test)

pub longs : (test : ℕ → ℕ → Bool) → Reads (number_at 4 test) Long (NumberRoom 4 test) (Passes 4 test)
longs test = renamed (IsNumber 4) Long long_text is_long_text (numbers 4 test)

-- so many bytes, and what fits behind them
pub record Span (k : ℕ) (Q : ℕ → Type 0) (n : ℕ) : Type 0 where
  pub more : ℕ
  pub sum : n ≡ k + more
  pub rest : Q more

-- ---- code

abbrev pub CodeText : ℕ → Code → List ℕ → Type 0
CodeText len code text = (length text ≡ len) × Lines 0 code.0 code.1 text

pub nop_spelled : (at : ℕ) → Spells at (raws.Plain nop) (nop ∷ [])
nop_spelled at = record {
  pad = replicate (padding at) 0;
  padded = length-replicate {A = ℕ} (padding at) 0;
  pad_bytes = zeros (padding at);
  typed = omega arith;
  instruction = nop_is;
  spelled = refl;
}
  where
    zeros : (n : ℕ) → AllByRecursion (λ b. b < 256) (replicate n 0)
    zeros zero = tt
    zeros (suc n) = (omega arith, zeros n)

code_begun : (len tail : ℕ) (Q : ℕ → Type 0) (front : List ℕ) (n : ℕ) → Q tail → length front + n ≡ len + tail → BegunCode 0 tail front n → Begun (CodeText len) (λ _. Q) front n
code_begun len tail Q front n q sum b = record {
  value = (b.raws, b.offsets);
  more = b.more;
  extra = tail;
  spelled = (omega (arith, sum, b.sum, length-append front b.more), b.lines);
  rest = q;
  sum = b.sum;
}

pub code_read : (len : ℕ) (Q : ℕ → Type 0) → Reads (code_at len) (CodeText len) (Span len Q) (λ _. Q)
code_read len Q = record { takes = takes; again = again; stops = stops; there = there; back = back }
  where
    tail_is : (missing : ℕ) (bytes : List ℕ) (p : Span len Q (length bytes + missing)) → length bytes + missing - len ≡ p.more
    tail_is missing bytes p = omega (arith, p.sum)

    takes : (missing : ℕ) (bytes : List ℕ) (x : Code × List ℕ) → IsBytes bytes → Span len Q (length bytes + missing) → code_at len missing bytes ≡ Ok x → Taken (CodeText len) (λ _. Q) missing bytes x
    takes missing bytes x fits p e =
        let tail = length bytes + missing - len in
        let is : tail ≡ p.more = tail_is missing bytes p in
        let t = insns_take insn_at insn_reads nop_spelled (suc (length bytes)) 0 tail missing bytes x (omega arith) fits (omega (arith, p.sum)) e in
        record { text = t.text; parts = t.parts; spelled = (omega (arith, ap length t.parts, length-append t.text x.1, t.left, p.sum), t.lines); rest = subst Q (sym (t.left ∙ is)) p.rest }

    again : (missing : ℕ) (code : Code) (text rest : List ℕ) → CodeText len code text → Q (length rest + missing) → code_at len missing (text ++ rest) ≡ Ok (code, rest)
    again missing code text rest s q =
        let tail : length (text ++ rest) + missing - len ≡ length rest + missing = omega (arith, length-append text rest, s.0) in
        ap (λ (k : ℕ). insns_from insn_at (suc (length (text ++ rest))) 0 k missing (text ++ rest)) tail
        ∙ insns_again insn_at insn_reads nop_spelled (suc (length (text ++ rest))) 0 (length rest + missing) missing code.0 code.1 text rest (omega arith) s.1 refl

    stops : (missing : ℕ) (bytes : List ℕ) (left : ℕ) → IsBytes bytes → Span len Q (length bytes + missing) → code_at len missing bytes ≡ Err left → Stopped (code_at len) (CodeText len) (λ _. Q) missing bytes left
    stops missing bytes left fits p e =
        let tail = length bytes + missing - len in
        let is : tail ≡ p.more = tail_is missing bytes p in
        let q : Q tail = subst Q (sym is) p.rest in
        elim (insns_stop insn_at insn_reads nop_spelled (suc (length bytes)) 0 tail missing bytes left (omega arith) fits (omega (arith, p.sum)) e) [
          | inl d ↦
              let sizes : length bytes ≡ length d.front + suc (length d.rest) = ap length d.parts ∙ length-append d.front (d.byte ∷ d.rest) in
              inl (record {
                front = d.front;
                byte = d.byte;
                rest = d.rest;
                parts = d.parts;
                place = d.place;
                begun = code_begun len tail Q d.front (suc (length d.rest + missing)) q (omega (arith, sizes, p.sum, is)) d.begun;
                stays = λ others more same.
                    let tail_too : length (d.front ++ d.byte ∷ others) + more - len ≡ tail = omega (arith, sizes, same, length-append d.front (d.byte ∷ others)) in
                    ap (λ (k : ℕ). insns_from insn_at (suc (length (d.front ++ d.byte ∷ others))) 0 k more (d.front ++ d.byte ∷ others)) tail_too
                    ∙ d.stays (suc (length (d.front ++ d.byte ∷ others))) others more (omega arith) same;
              })
          | inr d ↦ inr (record { place = d.place; some = d.some; begun = code_begun len tail Q bytes missing q (omega (arith, p.sum, is)) d.begun })
        ]

    there : (n : ℕ) → Span len Q n → Fill (CodeText len) (λ _. Q) n
    there n p =
        let c = code_there insn_at insn_reads nop_spelled 0 p.more n (omega (arith, p.sum)) in
        record { value = (c.raws, c.offsets); text = c.more; more = p.more; spelled = (omega (arith, c.sum, p.sum), c.lines); rest = p.rest; sum = c.sum }

    back : (code : Code) (text : List ℕ) (m : ℕ) → CodeText len code text → Q m → Span len Q (length text + m)
    back code text m s q = record { more = m; sum = omega (arith, s.0); rest = q }

-- ---- a range

abbrev pub RangeText : RawRange → List ℕ → Type 0
RangeText r text = IsRange r × (text ≡ range_bytes r)

abbrev range_of : ℕ → ℕ → ℕ → ℕ → RawRange
range_of start end handler catch = record { start = start; end = end; handler = handler; catch = catch }

abbrev range_steps : ℕ → List ℕ → Result (RawRange × List ℕ) ℕ
range_steps missing bytes = fixed 2 number bytes >>= λ start. fixed 2 number start.1 >>= λ end. fixed 2 number end.1 >>= λ handler. fixed 2 number handler.1 >>= λ catch. Ok (range_of start.0 end.0 handler.0 catch.0, catch.1)

range_alike : (missing : ℕ) (bytes : List ℕ) → range_at bytes ≡ range_steps missing bytes
unfolding range_at
range_alike missing bytes = refl

abbrev FourNumbers : RawRange → List ℕ → Type 0
FourNumbers = Then Short (λ start. Then Short (λ end. Then Short (λ handler. Seen (λ catch. range_of start end handler catch) Short)))

range_to : (r : RawRange) (text : List ℕ) → FourNumbers r text → RangeText r text
range_to r text a =
    let b = a.second_is in
    let c = b.second_is in
    let d = c.second_is in
    let same : r ≡ range_of a.first b.first c.first d.0 = d.1 in
    subst (λ (x : RawRange). RangeText x text) (sym same)
    ((a.first_is.0, b.first_is.0, c.first_is.0, d.2.0), rw (a.parts, b.parts, c.parts, a.first_is.1, b.first_is.1, c.first_is.1, d.2.1) refl)

range_from : (r : RawRange) (text : List ℕ) → RangeText r text → FourNumbers r text
range_from r text s = record {
  first = r.start;
  front = number_bytes r.start;
  back = number_bytes r.end ++ (number_bytes r.handler ++ number_bytes r.catch);
  parts = s.1;
  first_is = (s.0.0, refl);
  second_is = record {
    first = r.end;
    front = number_bytes r.end;
    back = number_bytes r.handler ++ number_bytes r.catch;
    parts = refl;
    first_is = (s.0.1, refl);
    second_is = record { first = r.handler; front = number_bytes r.handler; back = number_bytes r.catch; parts = refl; first_is = (s.0.2, refl); second_is = (r.catch, refl, (s.0.3, refl)) };
  };
}

pub range_read : (Q : ℕ → Type 0) → Reads (λ missing. range_at) RangeText (Span 8 Q) (λ _. Q)
range_read Q =
    alike range_steps (λ missing. range_at) range_alike
    (renamed FourNumbers RangeText range_to range_from
    (resized (Room2 (Room2 (Room2 (Room2 Q)))) (Span 8 Q)
    (λ n p. record { more = 6 + p.more; sum = omega (arith, p.sum); rest = record { more = 4 + p.more; sum = omega arith; rest = record { more = 2 + p.more; sum = omega arith; rest = record { more = p.more; sum = omega arith; rest = p.rest } } } })
    (λ n p. record { more = p.rest.rest.rest.more; sum = omega (arith, p.sum, p.rest.sum, p.rest.rest.sum, p.rest.rest.rest.sum); rest = p.rest.rest.rest.rest })
    (then (λ start missing bytes. fixed 2 number bytes >>= λ end. fixed 2 number end.1 >>= λ handler. fixed 2 number handler.1 >>= λ catch. Ok (range_of start end.0 handler.0 catch.0, catch.1)) (short (Room2 (Room2 (Room2 Q)))) (λ start.
    then (λ end missing bytes. fixed 2 number bytes >>= λ handler. fixed 2 number handler.1 >>= λ catch. Ok (range_of start end handler.0 catch.0, catch.1)) (short (Room2 (Room2 Q))) (λ end.
    then (λ handler missing bytes. fixed 2 number bytes >>= λ catch. Ok (range_of start end handler catch.0, catch.1)) (short (Room2 Q)) (λ handler.
    seen Q (λ catch. range_of start end handler catch) (short Q)))))))

-- ---- so many items

abbrev pub Item : {A : Type 0} → (A → Type 0) → (A → List ℕ) → A → List ℕ → Type 0
Item Is spelling value text = Is value × (text ≡ spelling value)

abbrev pub Items : {A : Type 0} → (A → Type 0) → (A → List ℕ) → ℕ → List A → List ℕ → Type 0
Items Is spelling k all text = (length all ≡ k) × AllByRecursion Is all × (text ≡ flat_map spelling all)

module _ {A : Type 0} (Is : A → Type 0) (spelling : A → List ℕ) (one : ℕ → ℕ → List ℕ → Result (A × List ℕ) ℕ) (P : ℕ → ℕ → Type 0) (each : (n : ℕ) → Reads (one n) (Item Is spelling) (P (suc n)) (λ _. P n)) where
  items_to : (k : ℕ) (all : List A) (text : List ℕ) → Then (Item Is spelling) (λ item. Seen (λ others. item ∷ others) (Items Is spelling k)) all text → Items Is spelling (suc k) all text
  items_to k all text t =
      let s = t.second_is in
      subst (λ (xs : List A). Items Is spelling (suc k) xs text) (sym s.1)
      (ap suc s.2.0, (t.first_is.0, s.2.1), t.parts ∙ ap (λ (z : List ℕ). z ++ t.back) t.first_is.1 ∙ ap (λ (z : List ℕ). spelling t.first ++ z) s.2.2)

  items_from : (k : ℕ) (all : List A) (text : List ℕ) → Items Is spelling (suc k) all text → Then (Item Is spelling) (λ item. Seen (λ others. item ∷ others) (Items Is spelling k)) all text
  items_from k [] text s = absurd (omega (arith, s.0))
  items_from k (item ∷ others) text s = record {
    first = item;
    front = spelling item;
    back = flat_map spelling others;
    parts = s.2;
    first_is = (s.1.0, refl);
    second_is = (others, refl, (omega (arith, s.0), s.1.1, refl));
  }

  no_items : Reads (times one 0) (Items Is spelling 0) (P 0) (λ _. P 0)
  unfolding times
  no_items =
      renamed (λ (all : List A) text. (all ≡ []) × (text ≡ [])) (Items Is spelling 0)
      (λ all text s. subst (λ (xs : List A). Items Is spelling 0 xs text) (sym s.0) (refl, tt, s.1))
      (λ all text s. none all text s)
      (done [] (P 0))
    where
      none : (all : List A) (text : List ℕ) → Items Is spelling 0 all text → (all ≡ []) × (text ≡ [])
      none [] text s = (refl, s.2)
      none (item ∷ others) text s = absurd (omega (arith, s.0))

  abbrev items_steps : ℕ → ℕ → List ℕ → Result (List A × List ℕ) ℕ
  items_steps k missing bytes = one k missing bytes >>= λ item. times one k missing item.1 >>= λ others. Ok (item.0 ∷ others.0, others.1)

  items_alike : (k missing : ℕ) (bytes : List ℕ) → times one (suc k) missing bytes ≡ items_steps k missing bytes
  unfolding times
  items_alike k missing bytes = refl

  pub items_read : (k : ℕ) → Reads (times one k) (Items Is spelling k) (P k) (λ _. P 0)
  items_read zero = no_items
  items_read (suc k) =
      alike (items_steps k) (times one (suc k)) (items_alike k)
      (renamed (Then (Item Is spelling) (λ item. Seen (λ others. item ∷ others) (Items Is spelling k))) (Items Is spelling (suc k)) (items_to k) (items_from k)
      (then (λ item missing bytes. times one k missing bytes >>= λ others. Ok (item ∷ others.0, others.1)) (each k) (λ item. seen (P 0) (λ others. item ∷ others) (items_read k))))

-- the ranges of an exception table
abbrev pub RangesRoom : (ℕ → Type 0) → ℕ → ℕ → Type 0
RangesRoom Q k n = Span (8 * k) Q n

pub ranges_read : (Q : ℕ → Type 0) (k : ℕ) → Reads (times (λ left missing. range_at) k) (Items IsRange range_bytes k) (RangesRoom Q k) (λ _. RangesRoom Q 0)
ranges_read Q k = items_read IsRange range_bytes (λ left missing. range_at) (RangesRoom Q)
    (λ n. resized (Span 8 (RangesRoom Q n)) (RangesRoom Q (suc n))
    (λ m p. record { more = 8 * n + p.more; sum = omega (arith, p.sum); rest = record { more = p.more; sum = refl; rest = p.rest } })
    (λ m p. record { more = p.rest.more; sum = omega (arith, p.sum, p.rest.sum); rest = p.rest.rest })
    (range_read (RangesRoom Q n)))
    k
