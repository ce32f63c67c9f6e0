-- Reading instruction after instruction, as a loop does.
use Rattle.std.proofs.Common.{◌≡◌, ℕ, suc, ◌+◌, ◌-◌, ◌<◌, ◌≤◌, List, [], ◌∷◌, ◌++◌, length, take, drop, Ok, Err, refl, sym, ap, subst, ◌∙◌, arith, append_assoc}
use Rattle.std.proofs.lemmas.List.{length-append, length-take, length-drop, take-append-drop, take_at}
use Rattle.wv_insn.specs.declared.raw.Raw.{Raw}
use Rattle.wv_insn.specs.Spelling.{Spells}
use Rattle.wv_frames.proofs.Readers.{IsBytes, IsBytes-behind}
use Rattle.wv_code.specs.declared.stop.Stop.{Stop}
use Rattle.wv_code.specs.declared.stop.Stop.TheVariants as stop
use Rattle.wv_code.specs.Answers.{Fails}
use Rattle.wv_code.specs.Reading.{insns_from, code_at}
use Rattle.wv_code.specs.Fitting.{insn_at}
use Rattle.wv_code.proofs.Insns.{Lines, some_bytes, insns_again, insns_stuck}
use Rattle.wv_code.proofs.InsnReads.{insn_reads}
use Rattle.wv_code.proofs.ContentParts.{nop_spelled}

-- an instruction behind lines
pub lines_push : (at : ℕ) (raws : List Raw) (offsets text : List ℕ) (r : Raw) (more : List ℕ) → Lines at raws offsets text → Spells (at + length text) r more → Lines at (raws ++ r ∷ []) (offsets ++ (at + length text) ∷ []) (text ++ more)
lines_push at [] [] text r more lines s =
    let none : text ≡ [] = lines in
    let here : at + length text ≡ at = omega (arith, ap length none) in
    subst (λ (z : List ℕ). Lines at (r ∷ []) ((at + length text) ∷ []) (z ++ more)) (sym none) (here, (more, [], sym (append_none more), subst (λ (k : ℕ). Spells k r more) here s, refl))
  where
    append_none : (xs : List ℕ) → xs ++ [] ≡ xs
    append_none [] = refl
    append_none (x ∷ xs) = ap (λ (z : List ℕ). x ∷ z) (append_none xs)
lines_push at [] (o ∷ offsets) text r more lines s = absurd lines
lines_push at (q ∷ raws) [] text r more lines s = absurd lines
lines_push at (q ∷ raws) (o ∷ offsets) text r more lines s =
    let front = lines.1.0 in
    let back = lines.1.1 in
    let parts : text ≡ front ++ back = lines.1.2 in
    let here : at + length text ≡ at + length front + length back = omega (arith, ap length parts, length-append front back) in
    let others = lines_push (at + length front) raws offsets back r more lines.1.4 (subst (λ (k : ℕ). Spells k r more) here s) in (
      lines.0,
      (
        front,
        back ++ more,
        ap (λ (z : List ℕ). z ++ more) parts ∙ append_assoc front back more,
        lines.1.3,
        subst (λ (k : ℕ). Lines (at + length front) (raws ++ r ∷ []) (offsets ++ k ∷ []) (back ++ more)) (sym here) others,
      ),
    )

-- What the loop keeps: lines up to a place, and room for the rest.
pub record Going (bytes : List ℕ) (tail missing at : ℕ) (raws : List Raw) (offsets : List ℕ) : Type 0 where
  pub within : at ≤ length bytes
  pub lines : Lines 0 raws offsets (take at bytes)
  pub room : tail ≤ length bytes - at + missing

-- the next instruction
pub record Step (bytes : List ℕ) (tail missing at : ℕ) (raws : List Raw) (offsets : List ℕ) (raw : Raw) (rest : List ℕ) : Type 0 where
  pub going : Going bytes tail missing (length bytes - length rest) (raws ++ raw ∷ []) (offsets ++ at ∷ [])
  pub further : at < length bytes - length rest
  pub shorter : length rest ≤ length bytes

pub goes_on : (bytes : List ℕ) (tail missing at : ℕ) (raws : List Raw) (offsets : List ℕ) (raw : Raw) (rest : List ℕ) → IsBytes bytes → Going bytes tail missing at raws offsets → tail < length bytes - at + missing → insn_at at tail missing (drop at bytes) ≡ Ok (raw, rest)
    → Step bytes tail missing at raws offsets raw rest
goes_on bytes tail missing at raws offsets raw rest fits g lt e =
    let whole : bytes ≡ take at bytes ++ drop at bytes = sym (take-append-drop at bytes) in
    let size : length (drop at bytes) ≡ length bytes - at = length-drop at bytes in
    let behind : IsBytes (drop at bytes) = IsBytes-behind (take at bytes) (drop at bytes) (subst IsBytes whole fits) in
    let t = (insn_reads at tail).takes missing (drop at bytes) (raw, rest) behind (omega (arith, lt, size)) e in
    let long : 0 < length t.text = some_bytes insn_at insn_reads nop_spelled at raw t.text t.spelled in
    let sum : length (drop at bytes) ≡ length t.text + length rest = ap length t.parts ∙ length-append t.text rest in
    let place : length bytes - length rest ≡ at + length t.text = omega (arith, g.within, size, sum) in
    let front : length (take at bytes) ≡ at = omega (arith, length-take at bytes, g.within) in
    let all : bytes ≡ (take at bytes ++ t.text) ++ rest = whole ∙ ap (λ (z : List ℕ). take at bytes ++ z) t.parts ∙ sym (append_assoc (take at bytes) t.text rest) in
    let taken : take (length bytes - length rest) bytes ≡ take at bytes ++ t.text =
    ap (take (length bytes - length rest)) all ∙ take_at (take at bytes ++ t.text) rest (length bytes - length rest) (omega (arith, length-append (take at bytes) t.text, front, place)) in
    let here : 0 + length (take at bytes) ≡ at = omega (arith, front) in
    let pushed : Lines 0 (raws ++ raw ∷ []) (offsets ++ at ∷ []) (take at bytes ++ t.text) =
    subst (λ (k : ℕ). Lines 0 (raws ++ raw ∷ []) (offsets ++ k ∷ []) (take at bytes ++ t.text)) here (lines_push 0 raws offsets (take at bytes) raw t.text g.lines (subst (λ (k : ℕ). Spells k raw t.text) (sym here) t.spelled)) in
    record {
      going = record { within = omega arith; lines = subst (λ (z : List ℕ). Lines 0 (raws ++ raw ∷ []) (offsets ++ at ∷ []) z) (sym taken) pushed; room = omega (arith, t.rest, g.within, size, sum) };
      further = omega (arith, place, long);
      shorter = omega (arith, g.within, size, sum);
    }

pub stops : (bytes : List ℕ) (len tail missing at : ℕ) (raws : List Raw) (offsets : List ℕ) (left : ℕ) → tail ≡ length bytes + missing - len → Going bytes tail missing at raws offsets → tail < length bytes - at + missing → insn_at at tail missing (drop at bytes) ≡ Err left → code_at len missing bytes ≡ Err left
stops bytes len tail missing at raws offsets left is g lt e =
    let whole : take at bytes ++ drop at bytes ≡ bytes = take-append-drop at bytes in
    let here : 0 + length (take at bytes) ≡ at = omega (arith, length-take at bytes, g.within) in
    let read : insn_at (0 + length (take at bytes)) tail missing (drop at bytes) ≡ Err left = ap (λ (k : ℕ). insn_at k tail missing (drop at bytes)) here ∙ e in
    let stuck = insns_stuck insn_at insn_reads nop_spelled (suc (length bytes)) 0 tail missing raws offsets (take at bytes) (drop at bytes) left (omega (arith, ap length whole)) g.lines (omega (arith, lt, length-drop at bytes)) read in
    ap (λ (k : ℕ). insns_from insn_at (suc (length bytes)) 0 k missing bytes) (sym is) ∙ ap (insns_from insn_at (suc (length bytes)) 0 tail missing) (sym whole) ∙ stuck

pub ends : (bytes : List ℕ) (len tail missing at : ℕ) (raws : List Raw) (offsets : List ℕ) → tail ≡ length bytes + missing - len → Going bytes tail missing at raws offsets → length bytes - at + missing ≡ tail → code_at len missing bytes ≡ Ok ((raws, offsets), drop at bytes)
ends bytes len tail missing at raws offsets is g e =
    let whole : take at bytes ++ drop at bytes ≡ bytes = take-append-drop at bytes in
    ap (λ (k : ℕ). insns_from insn_at (suc (length bytes)) 0 k missing bytes) (sym is)
    ∙ ap (insns_from insn_at (suc (length bytes)) 0 tail missing) (sym whole)
    ∙ insns_again insn_at insn_reads nop_spelled (suc (length bytes)) 0 tail missing raws offsets (take at bytes) (drop at bytes) (omega (arith, ap length whole)) g.lines (omega (arith, e, length-drop at bytes))

pub fails : (e : Stop) (bytes : List ℕ) (len tail missing at : ℕ) (raws : List Raw) (offsets : List ℕ) → tail ≡ length bytes + missing - len → Going bytes tail missing at raws offsets → tail < length bytes - at + missing → Fails e (insn_at at tail missing (drop at bytes)) → Fails e (code_at len missing bytes)
fails stop.Memory bytes len tail missing at raws offsets is g lt e = tt
fails (stop.Left left) bytes len tail missing at raws offsets is g lt e = stops bytes len tail missing at raws offsets left is g lt e
