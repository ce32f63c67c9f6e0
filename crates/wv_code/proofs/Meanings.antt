-- The instructions that bytes mean, as a loop goes over them.
use Rattle.std.proofs.Common.{◌≡◌, ℕ, zero, suc, ◌+◌, ◌<◌, ◌≤◌, List, [], ◌∷◌, ◌++◌, length, get_or, take, sym, ap, ◌∙◌, arith}
use Rattle.std.proofs.lemmas.List.{take_all, take_more}
use Rattle.wv_base.specs.declared.class_file.PoolEntry.{PoolEntry}
use Rattle.wv_base.specs.declared.insn.Insn.{Insn}
use Rattle.wv_insn.specs.declared.raw.Raw.{Raw}
use Rattle.wv_insn.specs.Spelling.{IsInstruction}
use Rattle.wv_code.specs.Code.{Follow, AllMean}
use Rattle.wv_code.specs.Meaning.{Means}
use Rattle.wv_code.proofs.Follows.{mean_push}

-- one instruction more
pub means_on : (pool : List PoolEntry) (offsets : List ℕ) (raws : List Raw) (ats : List ℕ) (k : ℕ) (r : Raw) (insns : List Insn) (i : Insn) → k < length raws → length raws ≡ length ats → r ≡ get_or raws k r
    → AllMean pool offsets (take k raws) (take k ats) insns → Means pool offsets (get_or ats k 0) r i → AllMean pool offsets (take (k + 1) raws) (take (k + 1) ats) (insns ++ i ∷ [])
means_on pool offsets raws ats k r insns i lt many is h means =
    let front : take (k + 1) raws ≡ take k raws ++ r ∷ [] = take_more raws k r lt ∙ ap (λ (x : Raw). take k raws ++ x ∷ []) (sym is) in
    let places : take (k + 1) ats ≡ take k ats ++ get_or ats k 0 ∷ [] = take_more ats k 0 (omega arith) in
    rw (front, places) (mean_push pool offsets (take k raws) (take k ats) insns r (get_or ats k 0) i h means)

pub means_all : (pool : List PoolEntry) (offsets : List ℕ) (raws : List Raw) (ats : List ℕ) (k : ℕ) (insns : List Insn) → length raws ≡ length ats → length raws ≤ k → AllMean pool offsets (take k raws) (take k ats) insns → AllMean pool offsets raws ats insns
means_all pool offsets raws ats k insns many le h = rw (take_all k raws le, take_all k ats (omega arith)) at h

-- each of the instructions that follow one another is spelled
pub spelled_at : (code : List ℕ) (at : ℕ) (raws : List Raw) (offsets : List ℕ) (end k : ℕ) (d : Raw) → Follow code at raws offsets end → k < length raws → IsInstruction (get_or raws k d)
spelled_at code at [] offsets end k d h lt = absurd (omega arith)
spelled_at code at (r ∷ raws) [] end k d h lt = absurd h
spelled_at code at (r ∷ raws) (o ∷ offsets) end zero d h lt = h.1.1.spelled.instruction
spelled_at code at (r ∷ raws) (o ∷ offsets) end (suc k) d h lt = spelled_at code (at + h.1.0) raws offsets end k d h.1.2 (omega arith)
