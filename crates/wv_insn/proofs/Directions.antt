-- The laws of both directions and of faults.
use Rattle.std.proofs.Common.{◌≡◌, ℕ, zero, suc, ◌+◌, ◌-◌, ◌<◌, ◌≤◌, List, ◌∷◌, ◌++◌, length, take, drop, get_or, true, false, refl, sym, ap, subst, ◌∙◌, arith, append_assoc, ◌⊎◌, inl, inr}
use Rattle.std.specs.Prelude.{◌↔◌, replicate}
use Rattle.std.specs.List.{flat_map}
use Rattle.std.specs.Int.{w32}
use Rattle.std.proofs.lemmas.Bool.{cases_lt}
use Rattle.std.proofs.lemmas.List.{take-append-drop, take-take, length-append, length-replicate, take_at, drop_at, get_or-append_right}
use Rattle.wv_base.specs.Opcodes.{tableswitch, lookupswitch}
use Rattle.wv_insn.specs.declared.raw.Raw.{Raw}
use Rattle.wv_insn.specs.declared.raw.Raw.TheVariants as raw
use Rattle.wv_insn.specs.Spelling.{padding, unsigned, signed, case, spelling, plain_spelling, IsTyped, IsInstruction, Spells}
use Rattle.wv_insn.specs.Reading.{instruction_at}
use Rattle.wv_insn.specs.Standing.{Stands, Begins, IsFirstFault, IsPad, IsSameButPadding}
use Rattle.wv_insn.proofs.Padding.{is_plain}
use Rattle.wv_insn.proofs.Readers.{ok_is}
use Rattle.wv_insn.proofs.Rows.{reads}

-- what is encoded stands where it was put
pub encoded_stands : (before after : List ℕ) (r : Raw) → IsTyped r → IsInstruction r → Stands (before ++ plain_spelling (length before) r ++ after) (length before) r (length (plain_spelling (length before) r))
encoded_stands before after r typed instruction =
    let at : ℕ = length before in
    let text : List ℕ = plain_spelling at r in
    let behind : drop at (before ++ text ++ after) ≡ text ++ after = ap (drop at) (append_assoc before text after) ∙ drop_at before (text ++ after) at refl in
    let front : take (length text) (drop at (before ++ text ++ after)) ≡ text = ap (take (length text)) behind ∙ take_at text after (length text) refl in
    record {
      within = omega (arith, length-append (before ++ text) after, length-append before text);
      spelled = subst (Spells at r) (sym front) (is_plain at r typed instruction);
    }

pub spelled_or_not : (at : ℕ) (r : Raw) → IsTyped r → IsInstruction r ↔ ((bytes : List ℕ) × Spells at r bytes)
spelled_or_not at r typed = (λ instruction. (plain_spelling at r, is_plain at r typed instruction), λ s. s.1.instruction)

pub one_spelling : (at : ℕ) (r q : Raw) (a b x y : List ℕ) → Spells at r a → Spells at q b → a ++ x ≡ b ++ y → (r ≡ q) × (a ≡ b)
one_spelling at r q a b x y s t e =
    let same : Path (Raw × List ℕ) (r, x) (q, y) = ok_is (r, x) (q, y) (sym ((reads at).again r a x s) ∙ ap (instruction_at at) e ∙ (reads at).again q b y t) in
    let rests : length x ≡ length y = ap (λ (z : Raw × List ℕ). length z.1) same in
    let sums : length a + length x ≡ length b + length y = sym (length-append a x) ∙ ap length e ∙ length-append b y in
    let len : length b ≡ length a = omega arith in
    (ap (λ (z : Raw × List ℕ). z.0) same, sym (take_at a x (length a) refl) ∙ ap (take (length a)) e ∙ take_at b y (length a) len)

-- an instruction begins with each front of what one begins with
pub shorter : (at m n : ℕ) (bytes : List ℕ) → m ≤ n → Begins at (take n bytes) → Begins at (take m bytes)
shorter at m n bytes le b =
    let parts : take m bytes ++ drop m (take n bytes) ≡ take n bytes = ap (λ (t : List ℕ). t ++ drop m (take n bytes)) (sym (take-take m n bytes le)) ∙ take-append-drop m (take n bytes) in
    let whole : take n bytes ++ b.0 ≡ take m bytes ++ (drop m (take n bytes) ++ b.0) = ap (λ (t : List ℕ). t ++ b.0) (sym parts) ∙ append_assoc (take m bytes) (drop m (take n bytes)) b.0 in
    (drop m (take n bytes) ++ b.0, b.1, subst (Spells at b.1) whole b.2)

pub before_fault : (code : List ℕ) (at p n : ℕ) → IsFirstFault code at p → at + n ≤ p → Begins at (take n (drop at code))
before_fault code at p n f le = shorter at n (p - at) (drop at code) (omega arith) f.begun

pub behind_fault : (code : List ℕ) (at p n : ℕ) → IsFirstFault code at p → p < at + n → at + n ≤ length code → Begins at (take n (drop at code)) → ⊥
behind_fault code at p n f lt le b = f.broken (omega arith) (shorter at (p + 1 - at) n (drop at code) (let from : at ≤ p = f.from in omega arith) b)

-- ---- pad bytes

same_bytes : (at : ℕ) (a b : List ℕ) → a ≡ b → IsSameButPadding at a b
same_bytes at a b e = record { lengths = ap length e; others = λ k not_pad. ap (λ (t : List ℕ). get_or t k 0) e }

-- a switch with other pad bytes
padded : (at op : ℕ) (pad zeros back : List ℕ) → (op ≡ tableswitch) ⊎ (op ≡ lookupswitch) → length pad ≡ padding at → length zeros ≡ padding at → IsSameButPadding at (op ∷ pad ++ back) (op ∷ zeros ++ back)
padded at op pad zeros back switch len zeros_len = record { lengths = omega (arith, length-append pad back, length-append zeros back); others = others }
  where
    others : (k : ℕ) → (IsPad at (op ∷ pad ++ back) k → ⊥) → get_or (op ∷ pad ++ back) k 0 ≡ get_or (op ∷ zeros ++ back) k 0
    others zero not_pad = refl
    others (suc k) not_pad = elim (cases_lt k (padding at)) [
      | inl lt ↦ absurd (not_pad (switch, omega arith, omega arith))
      | inr le ↦ get_or-append_right pad back (padding at) k 0 len le ∙ sym (get_or-append_right zeros back (padding at) k 0 zeros_len le)
    ]

pub same_but_padding : (at : ℕ) (r : Raw) (bytes : List ℕ) → Spells at r bytes → IsSameButPadding at bytes (plain_spelling at r)
same_but_padding at r bytes s = subst (λ (b : List ℕ). IsSameButPadding at b (plain_spelling at r)) (sym s.spelled) (by_pad r s.pad s.padded)
  where
    none : List ℕ
    none = replicate (padding at) 0

    by_pad : (q : Raw) (pad : List ℕ) → length pad ≡ padding at → IsSameButPadding at (spelling pad q) (plain_spelling at q)
    by_pad (raw.Table low high other offsets) pad len =
        let back : List ℕ = signed w32 other ++ signed w32 low ++ signed w32 high ++ flat_map (signed w32) offsets in
        let regroup : (p : List ℕ) → spelling p (raw.Table low high other offsets) ≡ tableswitch ∷ p ++ back = λ p. simp append_assoc in
        rw (regroup pad, regroup none) (padded at tableswitch pad none back (inl refl) len (length-replicate {A = ℕ} (padding at) 0))
    by_pad (raw.Lookup other cases) pad len =
        let back : List ℕ = signed w32 other ++ unsigned w32 (length cases) ++ flat_map case cases in
        let regroup : (p : List ℕ) → spelling p (raw.Lookup other cases) ≡ lookupswitch ∷ p ++ back = λ p. simp append_assoc in
        rw (regroup pad, regroup none) (padded at lookupswitch pad none back (inr refl) len (length-replicate {A = ℕ} (padding at) 0))
    by_pad (raw.Local op slot false) pad len = same_bytes at _ _ refl
    by_pad (raw.Local op slot true) pad len = same_bytes at _ _ refl
    by_pad (raw.Inc slot by false) pad len = same_bytes at _ _ refl
    by_pad (raw.Inc slot by true) pad len = same_bytes at _ _ refl
    by_pad _ pad len = same_bytes at _ _ refl
