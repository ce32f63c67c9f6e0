-- The grammar by rows, as it is read, is the grammar by instructions.
use Rattle.std.proofs.Common.{◌≡◌, ℕ, ◌^◌, ◌<◌, Bool, true, false, List, [], ◌∷◌, ◌++◌, length, ℤ, Option, Some, None, refl, sym, ap, subst, ◌∙◌, arith, append_assoc, inl, inr}
use Rattle.std.specs.Prelude.{FitsSigned}
use Rattle.std.specs.List.{flat_map}
use Rattle.std.specs.Int.{w8, w16, w32}
use Rattle.wv_base.specs.declared.form.Form.{Form}
use Rattle.wv_base.specs.declared.form.Form.TheVariants as form
use Rattle.wv_base.specs.Instructions.{form_of}
use Rattle.wv_base.specs.Opcodes.{iinc, tableswitch, lookupswitch, invokeinterface, invokedynamic, newarray, multianewarray, wide}
use Rattle.wv_insn.specs.declared.raw.Raw.{Raw}
use Rattle.wv_insn.specs.declared.raw.Raw.TheVariants as raw
use Rattle.wv_insn.specs.Spelling.{unsigned, signed, case, plain_spelling, IsTyped, IsInstruction, Spells}
use Rattle.wv_insn.specs.Reading.{instruction_at}
use Rattle.wv_insn.proofs.Forms.{only}
use Rattle.wv_insn.proofs.Padding.{is_plain}
use Rattle.wv_insn.proofs.Readers.{Reads, renamed, Then}
use Rattle.wv_insn.proofs.Operands.{with_form, widened, Widths, Row, Rows, instruction}

-- ---- what is read by rows is spelled

wider_8_16 : (z : ℤ) → FitsSigned w8 z → FitsSigned w16 z
wider_8_16 z fits = record { sfits = omega (arith, fits.sfits) }

wider_16_32 : (z : ℤ) → FitsSigned w16 z → FitsSigned w32 z
wider_16_32 z fits = record { sfits = omega (arith, fits.sfits) }

plain : (at : ℕ) (r : Raw) (bytes : List ℕ) → IsTyped r → IsInstruction r → bytes ≡ plain_spelling at r → Spells at r bytes
plain at r bytes typed instruction e = subst (Spells at r) (sym e) (is_plain at r typed instruction)

some_is : {A : Type 0} (x y : A) → Some x ≡ Some y → x ≡ y
some_is x y e = cc

-- an instruction that was made so
made : (at : ℕ) (q r : Raw) (bytes : List ℕ) → r ≡ q → Spells at q bytes → Spells at r bytes
made at q r bytes e s = subst (λ (x : Raw). Spells at x bytes) (sym e) s

-- the form behind `wide`
abbrev pub wide_form : Bool → Form
wide_form false = form.Local
wide_form true = form.Increment

widened_is : (op : ℕ) (o : Option Form) (x : ℕ × Bool) → widened op o ≡ Some x → (op ≡ x.0) × (o ≡ Some (wide_form x.1))
widened_is op (Some form.Local) x e = let is : (op, false) ≡ x = some_is (op, false) x e in (ap (λ (y : ℕ × Bool). y.0) is, ap (λ (y : ℕ × Bool). Some (wide_form y.1)) is)
widened_is op (Some form.Increment) x e = let is : (op, true) ≡ x = some_is (op, true) x e in (ap (λ (y : ℕ × Bool). y.0) is, ap (λ (y : ℕ × Bool). Some (wide_form y.1)) is)
widened_is op _ x e = absurd cc

with_form_is : (op : ℕ) (o : Option Form) (x : ℕ × Form) → with_form op o ≡ Some x → (op ≡ x.0) × (o ≡ Some x.1)
with_form_is op None x e = absurd cc
with_form_is op (Some f) x e = let is : (op, f) ≡ x = some_is (op, f) x e in (ap (λ (y : ℕ × Form). y.0) is, ap (λ (y : ℕ × Form). Some y.1) is)

wide_spelled : (at op : ℕ) (increment : Bool) (r : Raw) (text : List ℕ) → op < 2 ^ 8 → form_of op ≡ Some (wide_form increment) → Widths op increment r text → Spells at r (wide ∷ op ∷ text)
wide_spelled at op false r text lt is t = made at (raw.Local op t.0 true) r (wide ∷ op ∷ text) t.1 (plain at (raw.Local op t.0 true) (wide ∷ op ∷ text) (lt, t.2.0) is (rw t.2.1 refl))
wide_spelled at op true r text lt is t =
    let by = t.second_is in
    made at (raw.Inc t.first by.0 true) r (wide ∷ op ∷ text) by.1 (plain at (raw.Inc t.first by.0 true) (wide ∷ op ∷ text) (t.first_is.0, by.2.0) tt
    (rw (only op (Some form.Increment) is, t.parts, t.first_is.1, by.2.1) refl))

row_spelled : (at op : ℕ) (f : Form) (r : Raw) (text : List ℕ) → op < 2 ^ 8 → form_of op ≡ Some f → Row at op f r text → Spells at r (op ∷ text)
row_spelled at op form.Plain r text lt is t = made at (raw.Plain op) r (op ∷ text) t.0 (plain at (raw.Plain op) (op ∷ text) lt is (rw t.1 refl))
row_spelled at op form.Byte r text lt is t = made at (raw.Push op t.0) r (op ∷ text) t.1 (plain at (raw.Push op t.0) (op ∷ text) (lt, wider_8_16 t.0 t.2.0) (inl (is, t.2.0)) (rw (t.2.1, is) refl))
row_spelled at op form.Short r text lt is t = made at (raw.Push op t.0) r (op ∷ text) t.1 (plain at (raw.Push op t.0) (op ∷ text) (lt, t.2.0) (inr is) (rw (t.2.1, is) refl))
row_spelled at op form.Constant r text lt is t = made at (raw.Load op t.0) r (op ∷ text) t.1 (plain at (raw.Load op t.0) (op ∷ text) (lt, omega (arith, t.2.0)) (inl (is, t.2.0)) (rw (t.2.1, is) (ap (λ (n : ℕ). op ∷ n ∷ []) (omega (arith, t.2.0)))))
row_spelled at op form.WideConstant r text lt is t = made at (raw.Load op t.0) r (op ∷ text) t.1 (plain at (raw.Load op t.0) (op ∷ text) (lt, t.2.0) (inr is) (rw (t.2.1, is) refl))
row_spelled at op form.Local r text lt is t = made at (raw.Local op t.0 false) r (op ∷ text) t.1 (plain at (raw.Local op t.0 false) (op ∷ text) (lt, omega (arith, t.2.0)) (is, t.2.0) (rw t.2.1 refl))
row_spelled at op form.Increment r text lt is t =
    let by = t.second_is in
    made at (raw.Inc t.first by.0 false) r (op ∷ text) by.1 (plain at (raw.Inc t.first by.0 false) (op ∷ text) (omega (arith, t.first_is.0), wider_8_16 by.0 by.2.0) (t.first_is.0, by.2.0)
    (rw (only op (Some form.Increment) is, t.parts, t.first_is.1, by.2.1) refl))
row_spelled at op form.Branch r text lt is t = made at (raw.Branch op t.0) r (op ∷ text) t.1 (plain at (raw.Branch op t.0) (op ∷ text) (lt, wider_16_32 t.0 t.2.0) (inl (is, t.2.0)) (rw (t.2.1, is) refl))
row_spelled at op form.WideBranch r text lt is t = made at (raw.Branch op t.0) r (op ∷ text) t.1 (plain at (raw.Branch op t.0) (op ∷ text) (lt, t.2.0) (inr is) (rw (t.2.1, is) refl))
row_spelled at op form.Table r text lt is pad =
    let other = pad.second_is in
    let low = other.second_is in
    let high = low.second_is in
    let offsets = high.second_is in
    made at (raw.Table low.first high.first other.first offsets.0) r (op ∷ text) offsets.1 (record {
      pad = pad.first;
      padded = pad.first_is.0;
      pad_bytes = pad.first_is.1;
      typed = (low.first_is.0, high.first_is.0, other.first_is.0, offsets.2.1);
      instruction = offsets.2.0;
      spelled = rw (only op (Some form.Table) is, pad.parts, pad.first_is.2, other.parts, other.first_is.1, low.parts, low.first_is.1, high.parts, high.first_is.1, offsets.2.2) (simp append_assoc);
    })
row_spelled at op form.Lookup r text lt is pad =
    let other = pad.second_is in
    let count = other.second_is in
    let cases = count.second_is in
    let count_is : count.front ≡ unsigned w32 (length cases.0) = count.first_is.1 ∙ ap (unsigned w32) (sym cases.2.0) in
    made at (raw.Lookup other.first cases.0) r (op ∷ text) cases.1 (record {
      pad = pad.first;
      padded = pad.first_is.0;
      pad_bytes = pad.first_is.1;
      typed = (other.first_is.0, cases.2.1);
      instruction = rw cases.2.0 count.first_is.0;
      spelled = rw (only op (Some form.Lookup) is, pad.parts, pad.first_is.2, other.parts, other.first_is.1, count.parts, count_is, cases.2.2) (simp append_assoc);
    })
row_spelled at op form.Reference r text lt is t = made at (raw.Reference op t.0) r (op ∷ text) t.1 (plain at (raw.Reference op t.0) (op ∷ text) (lt, t.2.0) is (rw t.2.1 refl))
row_spelled at op form.Interface r text lt is t =
    let count = t.second_is in
    let last = count.second_is in
    made at (raw.Interface t.first count.first last.0) r (op ∷ text) last.1 (plain at (raw.Interface t.first count.first last.0) (op ∷ text) (t.first_is.0, count.first_is.0, last.2.0) tt
    (rw (only op (Some form.Interface) is, t.parts, t.first_is.1, count.parts, count.first_is.1, last.2.1) refl))
row_spelled at op form.Dynamic r text lt is t =
    let first = t.second_is in
    let second = first.second_is in
    made at (raw.Dynamic t.first) r (op ∷ text) second.1 (plain at (raw.Dynamic t.first) (op ∷ text) t.first_is.0 tt
    (rw (only op (Some form.Dynamic) is, t.parts, t.first_is.1, first.parts, first.first_is.0, first.first_is.1, second.2.0, second.2.1) refl))
row_spelled at op form.Class r text lt is t = made at (raw.Class op t.0) r (op ∷ text) t.1 (plain at (raw.Class op t.0) (op ∷ text) (lt, t.2.0) is (rw t.2.1 refl))
row_spelled at op form.Array r text lt is t = made at (raw.NewArray t.0) r (op ∷ text) t.1 (plain at (raw.NewArray t.0) (op ∷ text) t.2.0 tt (rw (only op (Some form.Array) is, t.2.1) refl))
row_spelled at op form.MultiArray r text lt is t =
    let dimensions = t.second_is in
    made at (raw.MultiArray t.first dimensions.0) r (op ∷ text) dimensions.1 (plain at (raw.MultiArray t.first dimensions.0) (op ∷ text) (t.first_is.0, dimensions.2.0) tt
    (rw (only op (Some form.MultiArray) is, t.parts, t.first_is.1, dimensions.2.1) refl))
row_spelled at op form.Wide r text lt is t =
    let w = t.first_is in
    let what = widened_is w.byte (form_of w.byte) t.first w.means in
    rw (only op (Some form.Wide) is, t.parts, w.alone, what.0) (wide_spelled at t.first.0 t.first.1 r t.back (rw (← what.0) w.small) (rw (← what.0) what.1) t.second_is)

pub rows_spelled : (at : ℕ) (r : Raw) (text : List ℕ) → Rows at r text → Spells at r text
rows_spelled at r text t =
    let w = t.first_is in
    let what = with_form_is w.byte (form_of w.byte) t.first w.means in
    rw (t.parts, w.alone, what.0) (row_spelled at t.first.0 t.first.1 r t.back (rw (← what.0) w.small) (rw (← what.0) what.1) t.second_is)

-- ---- what is spelled is so by rows

row : (at op : ℕ) (f : Form) (r : Raw) (back text : List ℕ) → op < 2 ^ 8 → form_of op ≡ Some f → text ≡ op ∷ back → Row at op f r back → Rows at r text
row at op f r back text lt is e t = record {
  first = (op, f);
  front = op ∷ [];
  back = back;
  parts = e;
  first_is = record { byte = op; small = lt; means = rw is refl; alone = refl };
  second_is = t;
}

-- a text behind another
next : {A B : Type 0} {S : A → List ℕ → Type 0} {T : A → B → List ℕ → Type 0} (first : A) (front : List ℕ) (value : B) (back : List ℕ) → S first front → T first value back → Then S T value (front ++ back)
next first front value back s t = record { first = first; front = front; back = back; parts = refl; first_is = s; second_is = t }

iinc_is : form_of iinc ≡ Some form.Increment
unfolding form_of
iinc_is = refl

wide_is : form_of wide ≡ Some form.Wide
unfolding form_of
wide_is = refl

table_is : form_of tableswitch ≡ Some form.Table
unfolding form_of
table_is = refl

lookup_is : form_of lookupswitch ≡ Some form.Lookup
unfolding form_of
lookup_is = refl

interface_is : form_of invokeinterface ≡ Some form.Interface
unfolding form_of
interface_is = refl

dynamic_is : form_of invokedynamic ≡ Some form.Dynamic
unfolding form_of
dynamic_is = refl

array_is : form_of newarray ≡ Some form.Array
unfolding form_of
array_is = refl

multi_array_is : form_of multianewarray ≡ Some form.MultiArray
unfolding form_of
multi_array_is = refl

-- behind `wide`
wide_row : (at op : ℕ) (increment : Bool) (r : Raw) (back text : List ℕ) → op < 2 ^ 8 → form_of op ≡ Some (wide_form increment) → text ≡ wide ∷ op ∷ back → Widths op increment r back → Rows at r text
wide_row at op increment r back text lt is e t =
    row at wide form.Wide r (op ∷ back) text (omega arith) wide_is e
    (record { first = (op, increment); front = op ∷ []; back = back; parts = refl; first_is = record { byte = op; small = lt; means = rw is (means increment); alone = refl }; second_is = t })
  where
    means : (i : Bool) → widened op (Some (wide_form i)) ≡ Some (op, i)
    means false = refl
    means true = refl

pub spelled_rows : (at : ℕ) (r : Raw) (text : List ℕ) → Spells at r text → Rows at r text
spelled_rows at (raw.Plain op) text s = row at op form.Plain (raw.Plain op) [] text s.typed s.instruction s.spelled (refl, refl)
spelled_rows at (raw.Push op value) text s = elim s.instruction [
  | inl h ↦ row at op form.Byte (raw.Push op value) (signed w8 value) text s.typed.0 h.0 (s.spelled ∙ rw h.0 refl) (value, refl, (h.1, refl))
  | inr h ↦ row at op form.Short (raw.Push op value) (signed w16 value) text s.typed.0 h (s.spelled ∙ rw h refl) (value, refl, (s.typed.1, refl))
]
spelled_rows at (raw.Load op number) text s = elim s.instruction [
  | inl h ↦ row at op form.Constant (raw.Load op number) (number ∷ []) text s.typed.0 h.0 (s.spelled ∙ rw h.0 (ap (λ (n : ℕ). op ∷ n ∷ []) (omega (arith, h.1)))) (number, refl, (h.1, refl))
  | inr h ↦ row at op form.WideConstant (raw.Load op number) (unsigned w16 number) text s.typed.0 h (s.spelled ∙ rw h refl) (number, refl, (s.typed.1, refl))
]
spelled_rows at (raw.Local op slot false) text s = row at op form.Local (raw.Local op slot false) (slot ∷ []) text s.typed.0 s.instruction.0 s.spelled (slot, refl, (s.instruction.1, refl))
spelled_rows at (raw.Local op slot true) text s = wide_row at op false (raw.Local op slot true) (unsigned w16 slot) text s.typed.0 s.instruction s.spelled (slot, refl, (s.typed.1, refl))
spelled_rows at (raw.Inc slot by false) text s = row at iinc form.Increment (raw.Inc slot by false) (slot ∷ signed w8 by) text (omega arith) iinc_is s.spelled
    (next slot (slot ∷ []) (raw.Inc slot by false) (signed w8 by) (s.instruction.0, refl) (by, refl, (s.instruction.1, refl)))
spelled_rows at (raw.Inc slot by true) text s = wide_row at iinc true (raw.Inc slot by true) (unsigned w16 slot ++ signed w16 by) text (omega arith) iinc_is s.spelled
    (next slot (unsigned w16 slot) (raw.Inc slot by true) (signed w16 by) (s.typed.0, refl) (by, refl, (s.typed.1, refl)))
spelled_rows at (raw.Branch op offset) text s = elim s.instruction [
  | inl h ↦ row at op form.Branch (raw.Branch op offset) (signed w16 offset) text s.typed.0 h.0 (s.spelled ∙ rw h.0 refl) (offset, refl, (h.1, refl))
  | inr h ↦ row at op form.WideBranch (raw.Branch op offset) (signed w32 offset) text s.typed.0 h (s.spelled ∙ rw h refl) (offset, refl, (s.typed.1, refl))
]
spelled_rows at (raw.Table low high other offsets) text s =
    let r : Raw = raw.Table low high other offsets in
    let text4 : List ℕ = flat_map (signed w32) offsets in
    let text3 : List ℕ = signed w32 high ++ text4 in
    let text2 : List ℕ = signed w32 low ++ text3 in
    let text1 : List ℕ = signed w32 other ++ text2 in
    row at tableswitch form.Table r (s.pad ++ text1) text (omega arith) table_is (s.spelled ∙ simp append_assoc)
    (next s.pad s.pad r text1 (s.padded, s.pad_bytes, refl)
    (next other (signed w32 other) r text2 (s.typed.2, refl)
    (next low (signed w32 low) r text3 (s.typed.0, refl)
    (next high (signed w32 high) r text4 (s.typed.1, refl)
    (offsets, refl, (s.instruction, s.typed.3, refl))))))
spelled_rows at (raw.Lookup other cases) text s =
    let r : Raw = raw.Lookup other cases in
    let text3 : List ℕ = flat_map case cases in
    let text2 : List ℕ = unsigned w32 (length cases) ++ text3 in
    let text1 : List ℕ = signed w32 other ++ text2 in
    row at lookupswitch form.Lookup r (s.pad ++ text1) text (omega arith) lookup_is (s.spelled ∙ simp append_assoc)
    (next s.pad s.pad r text1 (s.padded, s.pad_bytes, refl)
    (next other (signed w32 other) r text2 (s.typed.0, refl)
    (next (length cases) (unsigned w32 (length cases)) r text3 (s.instruction, refl)
    (cases, refl, (refl, s.typed.1, refl)))))
spelled_rows at (raw.Reference op number) text s = row at op form.Reference (raw.Reference op number) (unsigned w16 number) text s.typed.0 s.instruction s.spelled (number, refl, (s.typed.1, refl))
spelled_rows at (raw.Interface number count last) text s =
    let r : Raw = raw.Interface number count last in
    row at invokeinterface form.Interface r (unsigned w16 number ++ (count ∷ last ∷ [])) text (omega arith) interface_is s.spelled
    (next number (unsigned w16 number) r (count ∷ last ∷ []) (s.typed.0, refl)
    (next count (count ∷ []) r (last ∷ []) (s.typed.1, refl)
    (last, refl, (s.typed.2, refl))))
spelled_rows at (raw.Dynamic number) text s =
    let r : Raw = raw.Dynamic number in
    row at invokedynamic form.Dynamic r (unsigned w16 number ++ (0 ∷ 0 ∷ [])) text (omega arith) dynamic_is s.spelled
    (next number (unsigned w16 number) r (0 ∷ 0 ∷ []) (s.typed, refl)
    (next 0 (0 ∷ []) r (0 ∷ []) (refl, refl)
    (0, refl, (refl, refl))))
spelled_rows at (raw.Class op number) text s = row at op form.Class (raw.Class op number) (unsigned w16 number) text s.typed.0 s.instruction s.spelled (number, refl, (s.typed.1, refl))
spelled_rows at (raw.NewArray kind) text s = row at newarray form.Array (raw.NewArray kind) (kind ∷ []) text (omega arith) array_is s.spelled (kind, refl, (s.typed, refl))
spelled_rows at (raw.MultiArray number dimensions) text s =
    let r : Raw = raw.MultiArray number dimensions in
    row at multianewarray form.MultiArray r (unsigned w16 number ++ (dimensions ∷ [])) text (omega arith) multi_array_is s.spelled
    (next number (unsigned w16 number) r (dimensions ∷ []) (s.typed.0, refl)
    (dimensions, refl, (s.typed.1, refl)))

-- reading an instruction, by the grammar
pub reads : (at : ℕ) → Reads (instruction_at at) (Spells at)
reads at = renamed (Rows at) (Spells at) (rows_spelled at) (spelled_rows at) (instruction at)
