-- The instructions of a code array are the only ones.
use Rattle.std.proofs.Common.{◌≡◌, ℕ, zero, suc, ◌+◌, ◌<◌, ◌≤◌, true, false, List, [], ◌∷◌, length, take, drop, refl, sym, ap, subst, ◌∙◌, arith}
use Rattle.std.proofs.lemmas.List.{take-append-drop, length-take-le, length-drop}
use Rattle.wv_insn.specs.declared.raw.Raw.{Raw}
use Rattle.wv_insn.specs.declared.raw.Raw.TheVariants as raw
use Rattle.wv_insn.specs.Spelling.{spelling}
use Rattle.wv_insn.specs.Standing.{Stands}
use Rattle.wv_insn.proofs.Directions.{one_spelling}
use Rattle.wv_code.specs.Code.{Follow}
use Rattle.wv_code.specs.Splitting.{StopsBehind}

-- an instruction has bytes
some_bytes : (pad : List ℕ) (r : Raw) → [] ≡ spelling pad r → ⊥
some_bytes pad (raw.Local op slot true) e = absurd cc
some_bytes pad (raw.Local op slot false) e = absurd cc
some_bytes pad (raw.Inc slot by true) e = absurd cc
some_bytes pad (raw.Inc slot by false) e = absurd cc
some_bytes pad _ e = absurd cc

pub len_some : (code : List ℕ) (at : ℕ) (r : Raw) (len : ℕ) → Stands code at r len → 1 ≤ len
len_some code at r zero s = absurd (some_bytes s.spelled.pad r s.spelled.spelled)
len_some code at r (suc len) s = omega arith

-- one instruction stands at an offset, with one length
one_there : (code : List ℕ) (at : ℕ) (r q : Raw) (len more : ℕ) → Stands code at r len → Stands code at q more → (r ≡ q) × (len ≡ more)
one_there code at r q len more s t =
    let same =
    one_spelling at r q (take len (drop at code)) (take more (drop at code)) (drop len (drop at code)) (drop more (drop at code)) s.spelled t.spelled
    (take-append-drop len (drop at code) ∙ sym (take-append-drop more (drop at code)))
    in
    let lens : len ≡ length (take len (drop at code)) = sym (length-take-le len (drop at code) (omega (arith, s.within, length-drop at code))) in
    let mores : more ≡ length (take more (drop at code)) = sym (length-take-le more (drop at code) (omega (arith, t.within, length-drop at code))) in
    (same.0, lens ∙ ap length same.1 ∙ sym mores)

pub follow_one : (code : List ℕ) (at : ℕ) (raws : List Raw) (offsets : List ℕ) (others : List Raw) (places : List ℕ) → Follow code at raws offsets (length code) → Follow code at others places (length code) → (raws ≡ others) × (offsets ≡ places)
follow_one code at [] [] [] [] h k = (refl, refl)
follow_one code at [] [] [] (p ∷ places) h k = absurd k
follow_one code at [] [] (q ∷ others) [] h k = absurd k
follow_one code at [] [] (q ∷ others) (p ∷ places) h k = absurd (omega (arith, h, len_some code at q k.1.0 k.1.1, k.1.1.within))
follow_one code at [] (o ∷ offsets) others places h k = absurd h
follow_one code at (r ∷ raws) [] others places h k = absurd h
follow_one code at (r ∷ raws) (o ∷ offsets) [] [] h k = absurd (omega (arith, k, len_some code at r h.1.0 h.1.1, h.1.1.within))
follow_one code at (r ∷ raws) (o ∷ offsets) [] (p ∷ places) h k = absurd k
follow_one code at (r ∷ raws) (o ∷ offsets) (q ∷ others) [] h k = absurd k
follow_one code at (r ∷ raws) (o ∷ offsets) (q ∷ others) (p ∷ places) h k =
    let one = one_there code at r q h.1.0 k.1.0 h.1.1 k.1.1 in
    let rest = follow_one code (at + h.1.0) raws offsets others places h.1.2 (subst (λ (z : ℕ). Follow code (at + z) others places (length code)) (sym one.1) k.1.2) in
    let heads : o ≡ p = h.0 ∙ sym k.0 in
    (cc (one.0, rest.0), cc (heads, rest.1))

-- no instructions go on to the end where none stands
pub none_goes_on : (code : List ℕ) (at : ℕ) (raws : List Raw) (offsets : List ℕ) (end : ℕ) (others : List Raw) (places : List ℕ) → Follow code at raws offsets end → end < length code
    → ((r : Raw) (len : ℕ) → Stands code end r len → ⊥) → Follow code at others places (length code) → ⊥
none_goes_on code at [] [] end [] [] h lt none k = absurd (omega (arith, h, k))
none_goes_on code at [] [] end [] (p ∷ places) h lt none k = absurd k
none_goes_on code at [] [] end (q ∷ others) [] h lt none k = absurd k
none_goes_on code at [] [] end (q ∷ others) (p ∷ places) h lt none k = none q k.1.0 (subst (λ (z : ℕ). Stands code z q k.1.0) (sym h) k.1.1)
none_goes_on code at [] (o ∷ offsets) end others places h lt none k = absurd h
none_goes_on code at (r ∷ raws) [] end others places h lt none k = absurd h
none_goes_on code at (r ∷ raws) (o ∷ offsets) end [] [] h lt none k = absurd (omega (arith, k, len_some code at r h.1.0 h.1.1, h.1.1.within))
none_goes_on code at (r ∷ raws) (o ∷ offsets) end [] (p ∷ places) h lt none k = absurd k
none_goes_on code at (r ∷ raws) (o ∷ offsets) end (q ∷ others) [] h lt none k = absurd k
none_goes_on code at (r ∷ raws) (o ∷ offsets) end (q ∷ others) (p ∷ places) h lt none k =
    let one = one_there code at r q h.1.0 k.1.0 h.1.1 k.1.1 in
    none_goes_on code (at + h.1.0) raws offsets end others places h.1.2 lt none (subst (λ (z : ℕ). Follow code (at + z) others places (length code)) (sym one.1) k.1.2)

pub stops_alone : (code : List ℕ) (place : ℕ) (others : List Raw) (places : List ℕ) → StopsBehind code place → Follow code 0 others places (length code) → ⊥
stops_alone code place others places s k = none_goes_on code 0 s.raws s.offsets s.end others places s.follow s.within s.fault.none k
