-- Pad bytes of zero.
use Rattle.std.proofs.Common.{◌≡◌, ℕ, zero, suc, ◌≤◌, ◌<◌, ◌^◌, [], ◌∷◌, take, refl, arith}
use Rattle.std.specs.Prelude.{replicate}
use Rattle.std.specs.List.{AllByRecursion}
use Rattle.std.proofs.Math.ListN.{length-replicate}
use Rattle.wv_insn.specs.declared.raw.Raw.{Raw}
use Rattle.wv_insn.specs.Spelling.{padding, plain_spelling, IsTyped, IsInstruction, Spells}

pub zeros_taken : (n : ℕ) → n ≤ 3 → take {A = ℕ} n (0 ∷ 0 ∷ 0 ∷ []) ≡ replicate n 0
zeros_taken zero le = refl
zeros_taken (suc zero) le = refl
zeros_taken (suc (suc zero)) le = refl
zeros_taken (suc (suc (suc zero))) le = refl
zeros_taken (suc (suc (suc (suc n)))) le = absurd (omega arith)

are_bytes : (n : ℕ) → AllByRecursion (λ byte. byte < 2 ^ 8) (replicate n 0)
are_bytes zero = tt
are_bytes (suc n) = (omega arith, are_bytes n)

-- an instruction is spelled with zeros for pad bytes
pub is_plain : (at : ℕ) (r : Raw) → IsTyped r → IsInstruction r → Spells at r (plain_spelling at r)
is_plain at r typed instruction = record {
  pad = replicate (padding at) 0;
  padded = length-replicate (padding at) 0;
  pad_bytes = are_bytes (padding at);
  typed = typed;
  instruction = instruction;
  spelled = refl;
}
