-- Counts and keys of instructions.
use Rattle.std.proofs.Common.{◌≡◌, ℕ, zero, suc, ◌+◌, ◌-◌, ◌<◌, ◌≤◌, ◌↔◌, Bool, inl, inr, List, [], ◌∷◌, length, get_or, take, sym, ap, ◌∙◌, arith}
use Rattle.std.specs.Prelude.{IsTrue, nat_lt, ◌<ℤ◌}
use Rattle.std.proofs.lemmas.Bool.Decides.{nat_tests}
use Rattle.wv_base.specs.declared.insn.Case.{Case}
use Rattle.wv_base.specs.Descriptor.{HasWords, parameter_words}
use Rattle.wv_base.proofs.MethodTypes.{method_cancel}
use Rattle.wv_base.specs.Opcodes.{invokeinterface}
use Rattle.wv_code.specs.Formed.{IsCounted, TakesMember, KeysAscend}

pub words_same : (descriptor : List ℕ) (n m : ℕ) → HasWords descriptor n → HasWords descriptor m → n ≡ m
words_same descriptor n m a b = a.3 ∙ ap parameter_words (method_cancel a.0 b.0 a.1 b.1 (sym a.2 ∙ b.2)) ∙ sym b.3

pub counted : (descriptor : List ℕ) (n : ℕ) → HasWords descriptor n → IsTrue (nat_lt n 255) ↔ IsCounted descriptor
counted descriptor n has = (λ t. (n, has, grind (arith, nat_tests)), λ is. few is)
  where
    few : IsCounted descriptor → IsTrue (nat_lt n 255)
    few is = let e : n ≡ is.0 = words_same descriptor n is.0 has is.1 in let lt : is.0 < 255 = is.2 in grind (arith, nat_tests)

pub ascends_on : (cases : List Case) (p : ℕ) (d : Case) → suc p < length cases → KeysAscend (take (suc p) cases) → (get_or cases p d).key <ℤ (get_or cases (suc p) d).key → KeysAscend (take (suc (suc p)) cases)
ascends_on [] p d lt h k = absurd (omega arith)
ascends_on (a ∷ []) p d lt h k = absurd (omega arith)
ascends_on (a ∷ b ∷ others) zero d lt h k = (k, tt)
ascends_on (a ∷ b ∷ others) (suc p) d lt h k = (h.0, ascends_on (b ∷ others) p d (omega arith) h.1 k)

pub ascend_at : (cases : List Case) (p : ℕ) (d : Case) → suc p < length cases → KeysAscend cases → (get_or cases p d).key <ℤ (get_or cases (suc p) d).key
ascend_at [] p d lt h = absurd (omega arith)
ascend_at (a ∷ []) p d lt h = absurd (omega arith)
ascend_at (a ∷ b ∷ others) zero d lt h = h.0
ascend_at (a ∷ b ∷ others) (suc p) d lt h = ascend_at (b ∷ others) p d (omega arith) h.1

-- the same, by the place of the second
pub ascends_to : (cases : List Case) (place : ℕ) (d : Case) → 1 ≤ place → place < length cases → KeysAscend (take place cases) → (get_or cases (place - 1) d).key <ℤ (get_or cases place d).key → KeysAscend (take (place + 1) cases)
ascends_to cases zero d some lt h k = absurd (omega arith)
ascends_to cases (suc p) d some lt h k =
    let e : suc p - 1 ≡ p = omega arith in
    let two : suc p + 1 ≡ suc (suc p) = omega arith in
    rw two (ascends_on cases p d lt h (rw e at k))

pub not_ascending : (cases : List Case) (place : ℕ) (d : Case) → 1 ≤ place → place < length cases → ((get_or cases (place - 1) d).key <ℤ (get_or cases place d).key → ⊥) → KeysAscend cases → ⊥
not_ascending cases zero d some lt h k = absurd (omega arith)
not_ascending cases (suc p) d some lt h k =
    let e : suc p - 1 ≡ p = omega arith in
    h (rw e (ascend_at cases p d lt k))

-- what an opcode takes has few words
pub words_few : (op : ℕ) (descriptor : List ℕ) (interface : Bool) (n : ℕ) → TakesMember op descriptor interface → op ≡ invokeinterface → HasWords descriptor n → n < 255
words_few op descriptor interface n (inl h) is has = absurd (omega (arith, h.1))
words_few op descriptor interface n (inr (inl h)) is has = absurd (omega (arith, h.1))
words_few op descriptor interface n (inr (inr h)) is has = let e : n ≡ h.2.0 = words_same descriptor n h.2.0 has h.2.1 in omega (arith, h.2.2)
