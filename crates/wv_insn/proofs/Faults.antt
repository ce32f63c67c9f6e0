-- Where an instruction stands, and where the first fault is.
use Rattle.std.proofs.Common.{◌≡◌, ℕ, suc, ◌+◌, ◌-◌, ◌<◌, ◌≤◌, List, [], ◌∷◌, ◌++◌, length, take, drop, Result, Ok, Err, refl, sym, ap, subst, ◌∙◌, arith, append_assoc, inl, inr}
use Rattle.std.proofs.lemmas.List.{append-nil, take-append-drop, length-append, length-take, length-drop, take_at, take_rest, nil_from_length}
use Rattle.wv_insn.specs.declared.raw.Raw.{Raw}
use Rattle.wv_insn.specs.Spelling.{Spells}
use Rattle.wv_insn.specs.Reading.{instruction_at}
use Rattle.wv_insn.specs.Standing.{Stands, IsFirstFault}
use Rattle.wv_insn.proofs.Readers.{IsBytes, ok_is}
use Rattle.wv_insn.proofs.Rows.{reads}

-- what stands at an offset is read there
pub stands_read : (code : List ℕ) (at : ℕ) (r : Raw) (len : ℕ) → Stands code at r len → instruction_at at (drop at code) ≡ Ok (r, drop len (drop at code))
stands_read code at r len s =
    ap (instruction_at at) (sym (take-append-drop len (drop at code))) ∙ (reads at).again r (take len (drop at code)) (drop len (drop at code)) s.spelled

front_is : (bytes front rest : List ℕ) (n : ℕ) → bytes ≡ front ++ rest → n ≡ length front → take n bytes ≡ front
front_is bytes front rest n e len = ap (take n) e ∙ take_at front rest n (sym len)

-- what is read stands there
pub read_stands : (code : List ℕ) (at : ℕ) (x : Raw × List ℕ) → at ≤ length code → IsBytes (drop at code) → instruction_at at (drop at code) ≡ Ok x
    → (length x.1 ≤ length (drop at code)) × Stands code at x.0 (length (drop at code) - length x.1)
read_stands code at x le fits e =
    let t = (reads at).takes (drop at code) x fits e in
    let lengths : length (drop at code) ≡ length t.0 + length x.1 = ap length t.1 ∙ length-append t.0 x.1 in
    let len : length (drop at code) - length x.1 ≡ length t.0 = omega arith in
    (omega arith, record { within = omega (arith, length-drop at code); spelled = subst (Spells at x.0) (sym (front_is (drop at code) t.0 x.1 _ t.1 len)) t.2 })

-- where something else is read, it doesn't stand
pub reads_one : (code : List ℕ) (at : ℕ) (x : Raw × List ℕ) (r : Raw) (len : ℕ) → instruction_at at (drop at code) ≡ Ok x → Stands code at r len
    → Path (Raw × ℕ) (x.0, length (drop at code) - length x.1) (r, len)
reads_one code at x r len e s =
    let same : x ≡ (r, drop len (drop at code)) = ok_is x (r, drop len (drop at code)) (sym e ∙ stands_read code at r len s) in
    let rest : length x.1 ≡ length (drop at code) - len = ap (λ (y : Raw × List ℕ). length y.1) same ∙ length-drop len (drop at code) in
    let count : length (drop at code) - length x.1 ≡ len = omega (arith, s.within, length-drop at code) in
    let first : x.0 ≡ r = ap (λ (y : Raw × List ℕ). y.0) same in
    rw (first, count) refl

pub none_stands : (code : List ℕ) (at left : ℕ) (r : Raw) (len : ℕ) → instruction_at at (drop at code) ≡ Err left → Stands code at r len → ⊥
none_stands code at left r len e s =
    let failed : Path (Result (Raw × List ℕ) ℕ) (Err left) (Ok (r, drop len (drop at code))) = sym e ∙ stands_read code at r len s in
    cc

-- behind the code's end nothing stands, and each instruction begins with no bytes
pub past_end : (code : List ℕ) (at : ℕ) → length code < at → IsFirstFault code at at
past_end code at lt =
    let some = (reads at).some in
    let none : take (at - at) (drop at code) ≡ [] = nil_from_length _ (omega (arith, length-take (at - at) (drop at code))) in
    record {
      none = λ r len s. omega (arith, s.within);
      from = omega arith;
      to = omega arith;
      begun = (some.1, some.0, subst (λ (t : List ℕ). Spells at some.0 (t ++ some.1)) (sym none) some.2);
      broken = λ within. absurd (omega arith);
    }

-- the reader stops at the first fault
pub first_fault : (code : List ℕ) (at left : ℕ) → at ≤ length code → IsBytes (drop at code) → instruction_at at (drop at code) ≡ Err left → (left ≤ length code) × IsFirstFault code at (length code - left)
first_fault code at left le fits e = elim ((reads at).stops (drop at code) left fits e) [
  | inl d ↦
      let nothing : left ≡ 0 = d.nothing in
      let whole : take (length code - left - at) (drop at code) ≡ drop at code = ap (λ (n : ℕ). take (length code - n - at) (drop at code)) nothing ∙ ap (λ (n : ℕ). take n (drop at code)) (omega arith) ∙ take_rest code at in (
        omega arith,
        record {
          none = λ r len s. none_stands code at left r len e s;
          from = omega arith;
          to = omega arith;
          begun = (d.more, d.value, subst (λ (t : List ℕ). Spells at d.value (t ++ d.more)) (sym whole) d.whole);
          broken = λ within. absurd (omega arith);
        },
      )
  | inr d ↦
      let lengths : length (drop at code) ≡ length d.front + suc (length d.rest) = ap length d.parts ∙ length-append d.front (d.byte ∷ d.rest) in
      let place : left ≡ suc (length d.rest) = d.place in
      let total : length code ≡ at + length d.front + left = omega (arith, length-drop at code) in
      let front : take (length code - left - at) (drop at code) ≡ d.front = front_is (drop at code) d.front (d.byte ∷ d.rest) _ d.parts (omega arith) in
      let longer : take (length code - left + 1 - at) (drop at code) ≡ d.front ++ d.byte ∷ [] = front_is (drop at code) (d.front ++ d.byte ∷ []) d.rest _ (d.parts ∙ sym (append_assoc d.front (d.byte ∷ []) d.rest)) (omega (arith, length-append d.front (d.byte ∷ []))) in (
        omega arith,
        record {
          none = λ r len s. none_stands code at left r len e s;
          from = omega arith;
          to = omega arith;
          begun = (d.more, d.value, subst (λ (t : List ℕ). Spells at d.value (t ++ d.more)) (sym front) d.whole);
          broken = λ within b. goes_on d.front d.byte b.0 b.1 d.stays (subst (λ (t : List ℕ). Spells at b.1 (t ++ b.0)) longer b.2);
        },
      )
]
  where
    goes_on : (front : List ℕ) (byte : ℕ) (more : List ℕ) (r : Raw) → ((others : List ℕ) → instruction_at at (front ++ byte ∷ others) ≡ Err (suc (length others))) → Spells at r ((front ++ byte ∷ []) ++ more) → ⊥
    goes_on front byte more r stays s =
        let again : instruction_at at (((front ++ byte ∷ []) ++ more) ++ []) ≡ Ok (r, []) = (reads at).again r ((front ++ byte ∷ []) ++ more) [] s in
        let same : ((front ++ byte ∷ []) ++ more) ++ [] ≡ front ++ byte ∷ more = append-nil ((front ++ byte ∷ []) ++ more) ∙ append_assoc front (byte ∷ []) more in
        let failed : Path (Result (Raw × List ℕ) ℕ) (Err (suc (length more))) (Ok (r, [])) = sym (stays more) ∙ ap (instruction_at at) (sym same) ∙ again in
        cc
