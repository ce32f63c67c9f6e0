-- Instructions one behind the other that end where the tail begins: what reading them keeps.
use Rattle.std.proofs.Common.{◌≡◌, ℕ, zero, suc, ◌+◌, ◌-◌, ◌<◌, ◌≤◌, List, [], ◌∷◌, ◌++◌, length, Result, Ok, Err, refl, sym, ap, subst, ◌∙◌, ◌⊎◌, inl, inr, arith, append_assoc}
use Rattle.std.proofs.lemmas.Bool.Decides.{eqb_tells}
use Rattle.std.proofs.lemmas.Bool.{eq-eqb}
use Rattle.std.proofs.lemmas.List.{length-append}
use Rattle.wv_base.specs.Opcodes.{nop}
use Rattle.wv_insn.specs.declared.raw.Raw.{Raw}
use Rattle.wv_insn.specs.declared.raw.Raw.TheVariants as raws
use Rattle.wv_insn.specs.Spelling.{Spells}
use Rattle.wv_pool.specs.Reading.{◌>>=◌}
use Rattle.wv_code.specs.Reading.{insns_from}
use Rattle.wv_frames.proofs.Readers.{IsBytes, IsBytes-behind, Begun, Broken, Stopped, Reads, ok_is, bind_ok, bind_err}

abbrev pub Code : Type 0
Code = List Raw × List ℕ

-- these instructions, the first of which stands at the offset, are spelled so, one behind the other at these offsets
abbrev pub Lines : ℕ → List Raw → List ℕ → List ℕ → Type 0
Lines at [] [] text = text ≡ []
Lines at (r ∷ raws) (o ∷ offsets) text = (o ≡ at) × ((front : List ℕ) × (back : List ℕ) × (text ≡ front ++ back) × Spells at r front × Lines (at + length front) raws offsets back)
Lines at _ _ text = ⊥

pub record TakenCode (at tail missing : ℕ) (bytes : List ℕ) (x : Code × List ℕ) : Type 0 where
  pub text : List ℕ
  pub parts : bytes ≡ text ++ x.1
  pub lines : Lines at x.0.0 x.0.1 text
  pub left : length x.1 + missing ≡ tail

-- the bytes begin lines that end where the tail begins, so many bytes further
pub record BegunCode (at tail : ℕ) (front : List ℕ) (n : ℕ) : Type 0 where
  pub raws : List Raw
  pub offsets : List ℕ
  pub more : List ℕ
  pub lines : Lines at raws offsets (front ++ more)
  pub sum : n ≡ length more + tail

module _ (one : ℕ → ℕ → ℕ → List ℕ → Result (Raw × List ℕ) ℕ) (reads : (at tail : ℕ) → Reads (one at tail) (Spells at) (λ n. tail < n) (λ _ m. tail ≤ m)) (nop_spelled : (at : ℕ) → Spells at (raws.Plain nop) (nop ∷ [])) where
  pub some_bytes : (at : ℕ) (r : Raw) (text : List ℕ) → Spells at r text → 0 < length text
  some_bytes at r text s = let h : 0 < length text + 0 = (reads at 0).back r text 0 s (omega arith) in omega (arith, h)

  abbrev behind : ℕ → ℕ → Raw → Code × List ℕ → Result (Code × List ℕ) ℕ
  behind at steps r others = Ok ((r ∷ others.0.0, at ∷ others.0.1), others.1)

  abbrev rest_from : ℕ → ℕ → ℕ → ℕ → List ℕ → Raw × List ℕ → Result (Code × List ℕ) ℕ
  rest_from steps at tail missing bytes insn = insns_from one steps (at + (length bytes - length insn.1)) tail missing insn.1 >>= behind at steps insn.0

  -- one step of reading
  pub ended : (steps at tail missing : ℕ) (bytes : List ℕ) → length bytes + missing ≡ tail → insns_from one (suc steps) at tail missing bytes ≡ Ok (([], []), bytes)
  unfolding insns_from
  ended steps at tail missing bytes e = rw (eq-eqb (length bytes + missing) tail e) refl

  pub stepped : (steps at tail missing : ℕ) (bytes : List ℕ) → tail < length bytes + missing → insns_from one (suc steps) at tail missing bytes ≡ (one at tail missing bytes >>= rest_from steps at tail missing bytes)
  unfolding insns_from
  stepped steps at tail missing bytes lt = elim (eqb_tells (length bytes + missing) tail) [
    | inl same ↦ absurd (omega (arith, same.1))
    | inr more ↦ rw more.0 refl
  ]

  -- the rest behind an instruction that was read
  moved : (steps at tail missing : ℕ) (bytes text : List ℕ) (insn : Raw × List ℕ) → bytes ≡ text ++ insn.1 → rest_from steps at tail missing bytes insn ≡ (insns_from one steps (at + length text) tail missing insn.1 >>= behind at steps insn.0)
  moved steps at tail missing bytes text insn parts =
      ap (λ (k : ℕ). insns_from one steps (at + k) tail missing insn.1 >>= behind at steps insn.0) (omega (arith, ap length parts, length-append text insn.1))

  pub insns_take : (steps at tail missing : ℕ) (bytes : List ℕ) (x : Code × List ℕ) → length bytes < steps → IsBytes bytes → tail ≤ length bytes + missing → insns_from one steps at tail missing bytes ≡ Ok x → TakenCode at tail missing bytes x
  insns_take zero at tail missing bytes x few fits le e = absurd (omega arith)
  insns_take (suc steps) at tail missing bytes x few fits le e = elim (eqb_tells (length bytes + missing) tail) [
    | inl end ↦
        let same : (([], []), bytes) ≡ x = ok_is (([], []), bytes) x (sym (ended steps at tail missing bytes end.1) ∙ e) in
        subst (λ (y : Code × List ℕ). TakenCode at tail missing bytes y) same (record { text = []; parts = refl; lines = refl; left = end.1 })
    | inr more ↦
        let lt : tail < length bytes + missing = omega (arith, more.1) in
        let b = bind_ok (one at tail missing bytes) (rest_from steps at tail missing bytes) x (sym (stepped steps at tail missing bytes lt) ∙ e) in
        let t = (reads at tail).takes missing bytes b.0 fits lt b.1 in
        let long : 0 < length t.text = some_bytes at b.0.0 t.text t.spelled in
        let c = bind_ok (insns_from one steps (at + length t.text) tail missing b.0.1) (behind at steps b.0.0) x (sym (moved steps at tail missing bytes t.text b.0 t.parts) ∙ b.2) in
        let u = insns_take steps (at + length t.text) tail missing b.0.1 c.0 (omega (arith, ap length t.parts, length-append t.text b.0.1)) (IsBytes-behind t.text b.0.1 (subst IsBytes t.parts fits)) t.rest c.1 in
        let same : ((b.0.0 ∷ c.0.0.0, at ∷ c.0.0.1), c.0.1) ≡ x = ok_is ((b.0.0 ∷ c.0.0.0, at ∷ c.0.0.1), c.0.1) x c.2 in
        subst (λ (y : Code × List ℕ). TakenCode at tail missing bytes y) same (record {
          text = t.text ++ u.text;
          parts = t.parts ∙ ap (λ (z : List ℕ). t.text ++ z) u.parts ∙ sym (append_assoc t.text u.text c.0.1);
          lines = (refl, (t.text, u.text, refl, t.spelled, u.lines));
          left = u.left;
        })
  ]

  -- behind the first of some lines the others are read
  behind_first : (steps at tail missing : ℕ) (r : Raw) (front rest : List ℕ) → Spells at r front → tail ≤ length rest + missing → insns_from one (suc steps) at tail missing (front ++ rest) ≡ (insns_from one steps (at + length front) tail missing rest >>= behind at steps r)
  behind_first steps at tail missing r front rest s le =
      let long : 0 < length front = some_bytes at r front s in
      stepped steps at tail missing (front ++ rest) (omega (arith, length-append front rest))
      ∙ ap (λ (z : Result (Raw × List ℕ) ℕ). z >>= rest_from steps at tail missing (front ++ rest)) ((reads at tail).again missing r front rest s le)
      ∙ moved steps at tail missing (front ++ rest) front (r, rest) refl

  pub insns_again : (steps at tail missing : ℕ) (raws : List Raw) (offsets text rest : List ℕ) → length (text ++ rest) < steps → Lines at raws offsets text → length rest + missing ≡ tail → insns_from one steps at tail missing (text ++ rest) ≡ Ok ((raws, offsets), rest)
  insns_again zero at tail missing raws offsets text rest few lines left = absurd (omega arith)
  insns_again (suc steps) at tail missing [] [] text rest few lines left = rw lines (ended steps at tail missing rest left)
  insns_again (suc steps) at tail missing [] (o ∷ offsets) text rest few lines left = absurd lines
  insns_again (suc steps) at tail missing (r ∷ raws) [] text rest few lines left = absurd lines
  insns_again (suc steps) at tail missing (r ∷ raws) (o ∷ offsets) text rest few lines left =
      let front = lines.1.0 in
      let back = lines.1.1 in
      let parts : text ≡ front ++ back = lines.1.2 in
      let s : Spells at r front = lines.1.3 in
      let long : 0 < length front = some_bytes at r front s in
      let whole : text ++ rest ≡ front ++ (back ++ rest) = ap (λ (z : List ℕ). z ++ rest) parts ∙ append_assoc front back rest in
      let others = insns_again steps (at + length front) tail missing raws offsets back rest (omega (arith, few, ap length whole, length-append front (back ++ rest))) lines.1.4 left in
      ap (insns_from one (suc steps) at tail missing) whole
      ∙ behind_first steps at tail missing r front (back ++ rest) s (omega (arith, left, length-append back rest))
      ∙ ap (λ (z : Result (Code × List ℕ) ℕ). z >>= behind at steps r) others
      ∙ ap (λ (k : ℕ). Ok ((r ∷ raws, k ∷ offsets), rest)) (sym lines.0)

  -- where an instruction behind lines isn't read, reading stops
  pub insns_stuck : (steps at tail missing : ℕ) (raws : List Raw) (offsets text rest : List ℕ) (left : ℕ) → length (text ++ rest) < steps → Lines at raws offsets text → tail < length rest + missing
      → one (at + length text) tail missing rest ≡ Err left → insns_from one steps at tail missing (text ++ rest) ≡ Err left
  insns_stuck zero at tail missing raws offsets text rest left few lines lt e = absurd (omega arith)
  insns_stuck (suc steps) at tail missing [] [] text rest left few lines lt e =
      let here : one at tail missing rest ≡ Err left = ap (λ (k : ℕ). one k tail missing rest) (omega (arith, ap length lines)) ∙ e in
      rw lines (stepped steps at tail missing rest lt ∙ ap (λ (z : Result (Raw × List ℕ) ℕ). z >>= rest_from steps at tail missing rest) here)
  insns_stuck (suc steps) at tail missing [] (o ∷ offsets) text rest left few lines lt e = absurd lines
  insns_stuck (suc steps) at tail missing (r ∷ raws) [] text rest left few lines lt e = absurd lines
  insns_stuck (suc steps) at tail missing (r ∷ raws) (o ∷ offsets) text rest left few lines lt e =
      let front = lines.1.0 in
      let back = lines.1.1 in
      let parts : text ≡ front ++ back = lines.1.2 in
      let s : Spells at r front = lines.1.3 in
      let long : 0 < length front = some_bytes at r front s in
      let whole : text ++ rest ≡ front ++ (back ++ rest) = ap (λ (z : List ℕ). z ++ rest) parts ∙ append_assoc front back rest in
      let here : one (at + length front + length back) tail missing rest ≡ Err left = ap (λ (k : ℕ). one k tail missing rest) (omega (arith, ap length parts, length-append front back)) ∙ e in
      let others = insns_stuck steps (at + length front) tail missing raws offsets back rest left (omega (arith, few, ap length whole, length-append front (back ++ rest))) lines.1.4 lt here in
      ap (insns_from one (suc steps) at tail missing) whole
      ∙ behind_first steps at tail missing r front (back ++ rest) s (omega (arith, lt, length-append back rest))
      ∙ ap (λ (z : Result (Code × List ℕ) ℕ). z >>= behind at steps r) others

  -- so many nops
  record Nops (at k : ℕ) : Type 0 where
    raws : List Raw
    offsets : List ℕ
    text : List ℕ
    long : length text ≡ k
    lines : Lines at raws offsets text

  nops : (k at : ℕ) → Nops at k
  nops zero at = record { raws = []; offsets = []; text = []; long = refl; lines = refl }
  nops (suc k) at =
      let others = nops k (at + length (nop ∷ [])) in
      record { raws = raws.Plain nop ∷ others.raws; offsets = at ∷ others.offsets; text = nop ∷ others.text; long = ap suc others.long; lines = (refl, (nop ∷ [], others.text, refl, nop_spelled at, others.lines)) }

  -- an instruction that the bytes begin, and nops up to the tail
  begun_code : (at tail : ℕ) (front : List ℕ) (n : ℕ) → Begun (Spells at) (λ _ m. tail ≤ m) front n → BegunCode at tail front n
  begun_code at tail front n b =
      let others = nops (b.extra - tail) (at + length (front ++ b.more)) in
      record {
        raws = b.value ∷ others.raws;
        offsets = at ∷ others.offsets;
        more = b.more ++ others.text;
        lines = (refl, (front ++ b.more, others.text, sym (append_assoc front b.more others.text), b.spelled, others.lines));
        sum = omega (arith, b.sum, b.rest, others.long, length-append b.more others.text);
      }

  -- code up to the tail begins with no bytes
  pub code_there : (at tail n : ℕ) → tail ≤ n → BegunCode at tail [] n
  code_there at tail n le = let all = nops (n - tail) at in record { raws = all.raws; offsets = all.offsets; more = all.text; lines = all.lines; sum = omega (arith, all.long) }

  pub record BrokenCode (at tail missing : ℕ) (bytes : List ℕ) (left : ℕ) : Type 0 where
    pub front : List ℕ
    pub byte : ℕ
    pub rest : List ℕ
    pub parts : bytes ≡ front ++ byte ∷ rest
    pub place : left ≡ suc (length rest)
    pub begun : BegunCode at tail front (suc (length rest + missing))
    pub stays : (steps : ℕ) (others : List ℕ) (more : ℕ) → length (front ++ byte ∷ others) < steps → length others + more ≡ length rest + missing → insns_from one steps at tail more (front ++ byte ∷ others) ≡ Err (suc (length others))

  pub record EndedCode (at tail missing : ℕ) (bytes : List ℕ) (left : ℕ) : Type 0 where
    pub place : left ≡ 0
    pub some : 0 < missing
    pub begun : BegunCode at tail bytes missing

  first_stays : (at tail missing : ℕ) (bytes : List ℕ) (left : ℕ) → tail < length bytes + missing → (d : Broken (one at tail) (Spells at) (λ _ m. tail ≤ m) missing bytes left) → (steps : ℕ) (others : List ℕ) (more : ℕ) → length (d.front ++ d.byte ∷ others) < steps
      → length others + more ≡ length d.rest + missing → insns_from one steps at tail more (d.front ++ d.byte ∷ others) ≡ Err (suc (length others))
  first_stays at tail missing bytes left lt d zero others more few len = absurd (omega arith)
  first_stays at tail missing bytes left lt d (suc steps) others more few len =
      let bytes_are = d.front ++ d.byte ∷ others in
      let room : tail < length bytes_are + more = omega (arith, lt, len, ap length d.parts, length-append d.front (d.byte ∷ d.rest), length-append d.front (d.byte ∷ others)) in
      stepped steps at tail more bytes_are room ∙ ap (λ (z : Result (Raw × List ℕ) ℕ). z >>= rest_from steps at tail more bytes_are) (d.stays others more len)

  first_stops : (at tail missing : ℕ) (bytes : List ℕ) (left : ℕ) → tail < length bytes + missing → Stopped (one at tail) (Spells at) (λ _ m. tail ≤ m) missing bytes left → BrokenCode at tail missing bytes left ⊎ EndedCode at tail missing bytes left
  first_stops at tail missing bytes left lt (inl d) = inl (record {
    front = d.front;
    byte = d.byte;
    rest = d.rest;
    parts = d.parts;
    place = d.place;
    begun = begun_code at tail d.front (suc (length d.rest + missing)) d.begun;
    stays = first_stays at tail missing bytes left lt d;
  })
  first_stops at tail missing bytes left lt (inr d) = inr (record { place = d.place; some = d.some; begun = begun_code at tail bytes missing d.begun })

  -- code behind an instruction
  more_code : (at tail : ℕ) (r : Raw) (text front : List ℕ) (n : ℕ) → Spells at r text → BegunCode (at + length text) tail front n → BegunCode at tail (text ++ front) n
  more_code at tail r text front n s b = record { raws = r ∷ b.raws; offsets = at ∷ b.offsets; more = b.more; lines = (refl, (text, front ++ b.more, append_assoc text front b.more, s, b.lines)); sum = b.sum }

  second_stays : (at tail missing : ℕ) (bytes rest text : List ℕ) (r : Raw) (left : ℕ) → bytes ≡ text ++ rest → Spells at r text → tail ≤ length rest + missing → (d : BrokenCode (at + length text) tail missing rest left) → (steps : ℕ) (others : List ℕ) (more : ℕ)
      → length ((text ++ d.front) ++ d.byte ∷ others) < steps → length others + more ≡ length d.rest + missing → insns_from one steps at tail more ((text ++ d.front) ++ d.byte ∷ others) ≡ Err (suc (length others))
  second_stays at tail missing bytes rest text r left parts s le d zero others more few len = absurd (omega arith)
  second_stays at tail missing bytes rest text r left parts s le d (suc steps) others more few len =
      let behind_text = d.front ++ d.byte ∷ others in
      let whole : (text ++ d.front) ++ d.byte ∷ others ≡ text ++ behind_text = append_assoc text d.front (d.byte ∷ others) in
      let long : 0 < length text = some_bytes at r text s in
      let room : tail ≤ length behind_text + more = omega (arith, le, len, ap length d.parts, length-append d.front (d.byte ∷ d.rest), length-append d.front (d.byte ∷ others)) in
      ap (insns_from one (suc steps) at tail more) whole
      ∙ behind_first steps at tail more r text behind_text s room
      ∙ ap (λ (z : Result (Code × List ℕ) ℕ). z >>= behind at steps r) (d.stays steps others more (omega (arith, few, ap length whole, length-append text behind_text)) len)

  second_stops : (at tail missing : ℕ) (bytes rest text : List ℕ) (r : Raw) (left : ℕ) → bytes ≡ text ++ rest → Spells at r text → tail ≤ length rest + missing → BrokenCode (at + length text) tail missing rest left ⊎ EndedCode (at + length text) tail missing rest left
      → BrokenCode at tail missing bytes left ⊎ EndedCode at tail missing bytes left
  second_stops at tail missing bytes rest text r left parts s le (inl d) = inl (record {
    front = text ++ d.front;
    byte = d.byte;
    rest = d.rest;
    parts = parts ∙ ap (λ (z : List ℕ). text ++ z) d.parts ∙ sym (append_assoc text d.front (d.byte ∷ d.rest));
    place = d.place;
    begun = more_code at tail r text d.front (suc (length d.rest + missing)) s d.begun;
    stays = second_stays at tail missing bytes rest text r left parts s le d;
  })
  second_stops at tail missing bytes rest text r left parts s le (inr d) = inr (record { place = d.place; some = d.some; begun = subst (λ (z : List ℕ). BegunCode at tail z missing) (sym parts) (more_code at tail r text rest missing s d.begun) })

  behind_fails : (at steps : ℕ) (r : Raw) (z : Result (Code × List ℕ) ℕ) (left : ℕ) → (z >>= behind at steps r) ≡ Err left → z ≡ Err left
  behind_fails at steps r z left e = elim (bind_err z (behind at steps r) left e) [
    | inl first ↦ first
    | inr second ↦ absurd (let f = second.2 in cc)
  ]

  pub insns_stop : (steps at tail missing : ℕ) (bytes : List ℕ) (left : ℕ) → length bytes < steps → IsBytes bytes → tail ≤ length bytes + missing → insns_from one steps at tail missing bytes ≡ Err left → BrokenCode at tail missing bytes left ⊎ EndedCode at tail missing bytes left
  insns_stop zero at tail missing bytes left few fits le e = absurd (omega arith)
  insns_stop (suc steps) at tail missing bytes left few fits le e = elim (eqb_tells (length bytes + missing) tail) [
    | inl end ↦ absurd (let never : Path (Result (Code × List ℕ) ℕ) (Ok (([], []), bytes)) (Err left) = sym (ended steps at tail missing bytes end.1) ∙ e in cc)
    | inr more ↦
        let lt : tail < length bytes + missing = omega (arith, more.1) in
        elim (bind_err (one at tail missing bytes) (rest_from steps at tail missing bytes) left (sym (stepped steps at tail missing bytes lt) ∙ e)) [
          | inl first ↦ first_stops at tail missing bytes left lt ((reads at tail).stops missing bytes left fits lt first)
          | inr second ↦
              let insn = second.0 in
              let t = (reads at tail).takes missing bytes insn fits lt second.1 in
              let long : 0 < length t.text = some_bytes at insn.0 t.text t.spelled in
              let others = behind_fails at steps insn.0 (insns_from one steps (at + length t.text) tail missing insn.1) left (sym (moved steps at tail missing bytes t.text insn t.parts) ∙ second.2) in
              let d = insns_stop steps (at + length t.text) tail missing insn.1 left (omega (arith, ap length t.parts, length-append t.text insn.1)) (IsBytes-behind t.text insn.1 (subst IsBytes t.parts fits)) t.rest others in
              second_stops at tail missing bytes insn.1 t.text insn.0 left t.parts t.spelled t.rest d
        ]
  ]
