-- Instructions one behind the other in code that grows.
use Rattle.std.proofs.Common.{◌≡◌, ℕ, ◌+◌, ◌≤◌, List, [], ◌∷◌, ◌++◌, length, take, drop, sym, ap, subst, ◌∙◌, arith}
use Rattle.std.proofs.lemmas.List.{append-nil, length-append, length-drop, take-append-le, drop-append-le}
use Rattle.wv_base.specs.declared.class_file.PoolEntry.{PoolEntry}
use Rattle.wv_base.specs.declared.insn.Insn.{Insn}
use Rattle.wv_insn.specs.declared.raw.Raw.{Raw}
use Rattle.wv_insn.specs.Spelling.{plain_spelling, IsTyped, IsInstruction, Spells}
use Rattle.wv_insn.specs.Standing.{Stands}
use Rattle.wv_insn.proofs.Directions.{encoded_stands}
use Rattle.wv_code.specs.Meaning.{Means}
use Rattle.wv_code.specs.Code.{Follow, AllMean}

-- what stands in code still does, when more is put behind
stands_more : (code more : List ℕ) (at : ℕ) (r : Raw) (len : ℕ) → Stands code at r len → Stands (code ++ more) at r len
stands_more code more at r len s =
    let within : at + len ≤ length code = s.within in
    let behind : drop at (code ++ more) ≡ drop at code ++ more = drop-append-le at code more (omega arith) in
    let front : take len (drop at (code ++ more)) ≡ take len (drop at code) = ap (take len) behind ∙ take-append-le len (drop at code) more (omega (arith, length-drop at code)) in
    record {
      within = omega (arith, length-append code more);
      spelled = subst (Spells at r) (sym front) s.spelled;
    }

pub follow_more : (code more : List ℕ) (at : ℕ) (raws : List Raw) (offsets : List ℕ) (end : ℕ) → Follow code at raws offsets end → Follow (code ++ more) at raws offsets end
follow_more code more at [] [] end h = h
follow_more code more at [] (o ∷ offsets) end h = absurd h
follow_more code more at (r ∷ raws) [] end h = absurd h
follow_more code more at (r ∷ raws) (o ∷ offsets) end h = (h.0, (h.1.0, stands_more code more at r h.1.0 h.1.1, follow_more code more (at + h.1.0) raws offsets end h.1.2))

pub follow_push : (code : List ℕ) (at : ℕ) (raws : List Raw) (offsets : List ℕ) (end len : ℕ) (r : Raw) → Follow code at raws offsets end → Stands code end r len → Follow code at (raws ++ r ∷ []) (offsets ++ end ∷ []) (end + len)
follow_push code at [] [] end len r h s = (h, (len, subst (λ (z : ℕ). Stands code z r len) h s, ap (λ (z : ℕ). z + len) h))
follow_push code at [] (o ∷ offsets) end len r h s = absurd h
follow_push code at (q ∷ raws) [] end len r h s = absurd h
follow_push code at (q ∷ raws) (o ∷ offsets) end len r h s = (h.0, (h.1.0, h.1.1, follow_push code (at + h.1.0) raws offsets end len r h.1.2 s))

-- an instruction is put behind those before it
pub follow_on : (code : List ℕ) (raws : List Raw) (offsets : List ℕ) (r : Raw) → Follow code 0 raws offsets (length code) → IsTyped r → IsInstruction r
    → Follow (code ++ plain_spelling (length code) r) 0 (raws ++ r ∷ []) (offsets ++ length code ∷ []) (length code + length (plain_spelling (length code) r))
follow_on code raws offsets r h typed instruction =
    let text : List ℕ = plain_spelling (length code) r in
    let stands : Stands (code ++ text) (length code) r (length text) = subst (λ (t : List ℕ). Stands t (length code) r (length text)) (append-nil (code ++ text)) (encoded_stands code [] r typed instruction) in
    follow_push (code ++ text) 0 raws offsets (length code) (length text) r (follow_more code text 0 raws offsets (length code) h) stands

pub mean_push : (pool : List PoolEntry) (offsets : List ℕ) (raws : List Raw) (ats : List ℕ) (insns : List Insn) (r : Raw) (at : ℕ) (i : Insn) → AllMean pool offsets raws ats insns → Means pool offsets at r i
    → AllMean pool offsets (raws ++ r ∷ []) (ats ++ at ∷ []) (insns ++ i ∷ [])
mean_push pool offsets [] [] [] r at i h m = (m, tt)
mean_push pool offsets (q ∷ raws) (z ∷ ats) (j ∷ insns) r at i h m = (h.0, mean_push pool offsets raws ats insns r at i h.1 m)
mean_push pool offsets [] [] (j ∷ insns) r at i h m = absurd h
mean_push pool offsets [] (z ∷ ats) insns r at i h m = absurd h
mean_push pool offsets (q ∷ raws) [] insns r at i h m = absurd h
mean_push pool offsets (q ∷ raws) (z ∷ ats) [] r at i h m = absurd h
