-- What decoding answers is what is read from lists.
use Rattle.std.proofs.Common.{◌≡◌, ℕ, ◌+◌, ◌-◌, ◌<◌, ◌≤◌, List, length, drop, Result, Ok, Err, refl, ap, ◌∙◌, arith, inl, inr}
use Rattle.std.proofs.lemmas.Bool.{cases_lt}
use Rattle.wv_insn.specs.declared.raw.Raw.{Raw}
use Rattle.wv_insn.specs.Reading.{instruction_at}
use Rattle.wv_insn.specs.Standing.{IsFirstFault}
use Rattle.wv_insn.proofs.Directions.{shorter}
use Rattle.wv_insn.proofs.Faults.{read_stands, first_fault}
use Rattle.wv_insn.proofs.Readers.{IsBytes}
use Rattle.wv_code.specs.Fitting.{room_at, insn_at}

module _ (code : List ℕ) (at : ℕ) (le : at ≤ length code) where
  not_before : (p q : ℕ) → IsFirstFault code at p → IsFirstFault code at q → p < q → ⊥
  not_before p q f g lt = f.broken (omega (arith, g.to, le, lt)) (shorter at (p + 1 - at) (q - at) (drop at code) (omega (arith, f.from, lt)) g.begun)

  -- there is one first fault
  one_fault : (p q : ℕ) → IsFirstFault code at p → IsFirstFault code at q → p ≡ q
  one_fault p q f g = elim (cases_lt p q) [
    | inl lt ↦ absurd (not_before p q f g lt)
    | inr ge ↦ elim (cases_lt q p) [
      | inl lt ↦ absurd (not_before q p g f lt)
      | inr same ↦ omega (arith, ge, same)
    ]
  ]

  by_result : (p : ℕ) → IsBytes (drop at code) → IsFirstFault code at p → (r : Result (Raw × List ℕ) ℕ) → instruction_at at (drop at code) ≡ r → instruction_at at (drop at code) ≡ Err (length code - p)
  by_result p fits f (Ok x) e = absurd (f.none x.0 _ (read_stands code at x le fits e).1)
  by_result p fits f (Err left) e =
      let g = first_fault code at left le fits e in
      e ∙ ap Err (omega (arith, g.0, one_fault p (length code - left) f g.1))

  pub fault_read : (p : ℕ) → IsBytes (drop at code) → IsFirstFault code at p → instruction_at at (drop at code) ≡ Err (length code - p)
  fault_read p fits f = by_result p fits f (instruction_at at (drop at code)) refl

pub room_passes : (at tail missing : ℕ) (bytes : List ℕ) (u : Unit {0}) → room_at at tail missing bytes ≡ Ok u → insn_at at tail missing bytes ≡ instruction_at at bytes
unfolding insn_at
room_passes at tail missing bytes u e = rw e refl
