-- What the operands of each form are read as, and that they are read so.
use Rattle.std.proofs.Common.{◌≡◌, ℕ, ◌^◌, Bool, true, false, List, [], ◌∷◌, Option, Some, None, Result, Ok, refl, sym, subst, ◌∙◌, arith, inl, inr}
use Rattle.std.specs.Prelude.{FitsSigned}
use Rattle.std.specs.Int.{w8, w16, w32}
use Rattle.wv_base.specs.declared.form.Form.{Form}
use Rattle.wv_base.specs.declared.form.Form.TheVariants as form
use Rattle.wv_base.specs.Instructions.{form_of}
use Rattle.wv_base.specs.Opcodes.{nop, iload}
use Rattle.wv_insn.specs.declared.raw.Raw.{Raw}
use Rattle.wv_insn.specs.declared.raw.Raw.TheVariants as raw
use Rattle.wv_insn.specs.declared.raw.RawCase.{RawCase}
use Rattle.wv_insn.specs.Spelling.{padding, targets, signed, case, IsCase}
use Rattle.wv_insn.specs.Reading
use Rattle.wv_insn.specs.Reading.{◌>>=◌, unsigned_at, signed_at, times, case_at, opcode_at, wide_at, operands_at, instruction_at}
use Rattle.wv_insn.proofs.Readers.{Reads, renamed, done, Then, then, Seen, seen, alike, meant_at, Meant, meant, option_is}
use Rattle.wv_insn.proofs.Numbers.{Byte, byte, Zero, zero_byte, Bytes, some_bytes, Unsigned, Signed, byte_signed, short_signed, int_signed, short_unsigned, count_number, Listed, listed}

-- ---- opcodes

abbrev pub with_form : ℕ → Option Form → Option (ℕ × Form)
with_form op None = None
with_form op (Some f) = Some (op, f)

abbrev pub Opcode : ℕ × Form → List ℕ → Type 0
Opcode = Meant (λ op. with_form op (form_of op))

pub nop_is : form_of nop ≡ Some form.Plain
unfolding form_of
nop_is = refl

opcode_alike : (bytes : List ℕ) → opcode_at bytes ≡ meant_at (λ op. with_form op (form_of op)) bytes
unfolding opcode_at
opcode_alike [] = refl
opcode_alike (op ∷ rest) =
    elim (option_is (form_of op)) [
      | inl none ↦ rw none refl
      | inr some ↦ rw some.1 refl
    ]

pub opcode : Reads opcode_at Opcode
opcode = alike (meant_at (λ op. with_form op (form_of op))) opcode_at Opcode opcode_alike (meant (λ op. with_form op (form_of op)) nop (nop, form.Plain) (omega arith) (rw nop_is refl))

-- ---- behind `wide`

-- the opcode of a local variable's instruction, and whether it is iinc
abbrev pub widened : ℕ → Option Form → Option (ℕ × Bool)
widened op (Some form.Local) = Some (op, false)
widened op (Some form.Increment) = Some (op, true)
widened op _ = None

abbrev pub Widened : ℕ × Bool → List ℕ → Type 0
Widened = Meant (λ op. widened op (form_of op))

abbrev pub Widths : ℕ → Bool → Raw → List ℕ → Type 0
Widths op false = Seen (λ slot. raw.Local op slot true) (Unsigned w16 (2 ^ 16))
Widths op true = Then (Unsigned w16 (2 ^ 16)) (λ slot. Seen (λ by. raw.Inc slot by true) (Signed w16))

abbrev pub widths_at : ℕ → Bool → List ℕ → Result (Raw × List ℕ) ℕ
widths_at op false bytes = unsigned_at w16 bytes >>= λ slot. Ok (raw.Local op slot.0 true, slot.1)
widths_at op true bytes = unsigned_at w16 bytes >>= λ slot. signed_at w16 slot.1 >>= λ by. Ok (raw.Inc slot.0 by.0 true, by.1)

pub widths : (op : ℕ) (increment : Bool) → Reads (widths_at op increment) (Widths op increment)
widths op false = seen (λ slot. raw.Local op slot true) short_unsigned
widths op true = then (λ slot bytes. signed_at w16 bytes >>= λ by. Ok (raw.Inc slot by.0 true, by.1)) short_unsigned (λ slot. seen (λ by. raw.Inc slot by true) short_signed)

abbrev parted_at : List ℕ → Result (Raw × List ℕ) ℕ
parted_at bytes = meant_at (λ op. widened op (form_of op)) bytes >>= λ x. widths_at x.0.0 x.0.1 x.1

wide_parted : (op : ℕ) (rest : List ℕ) (f : Option Form) → form_of op ≡ f → wide_at (op ∷ rest) ≡ parted_at (op ∷ rest)
unfolding wide_at
wide_parted op rest (Some form.Local) e = rw e refl
wide_parted op rest (Some form.Increment) e = rw e refl
wide_parted op rest _ e = rw e refl

wide_alike : (bytes : List ℕ) → wide_at bytes ≡ parted_at bytes
unfolding wide_at
wide_alike [] = refl
wide_alike (op ∷ rest) = wide_parted op rest (form_of op) refl

pub iload_is : form_of iload ≡ Some form.Local
unfolding form_of
iload_is = refl

abbrev pub Wider : Raw → List ℕ → Type 0
Wider = Then Widened (λ x. Widths x.0 x.1)

wider : Reads wide_at Wider
wider = alike parted_at wide_at Wider wide_alike
    (then (λ x bytes. widths_at x.0 x.1 bytes) (meant (λ op. widened op (form_of op)) iload (iload, false) (omega arith) (rw iload_is refl)) (λ x. widths x.0 x.1))

-- ---- cases

pub one_case : Reads case_at (λ c text. IsCase c × (text ≡ case c))
unfolding case_at
one_case =
    renamed (Then (Signed w32) (λ key. Seen (λ offset. record { key = key; offset = offset }) (Signed w32))) (λ c text. IsCase c × (text ≡ case c))
    (λ c text t. subst (λ (d : RawCase). IsCase d × (text ≡ case d)) (sym t.second_is.1) ((t.first_is.0, t.second_is.2.0), t.parts ∙ rw (t.first_is.1, t.second_is.2.1) refl))
    (λ c text t. record { first = c.key; front = signed w32 c.key; back = signed w32 c.offset; parts = t.1; first_is = (t.0.0, refl); second_is = (c.offset, refl, (t.0.1, refl)) })
    (then (λ key bytes. signed_at w32 bytes >>= λ offset. Ok (record { key = key; offset = offset.0 }, offset.1)) int_signed (λ key. seen (λ offset. record { key = key; offset = offset }) int_signed))

-- ---- the operands of each form

abbrev Short : ℕ → List ℕ → Type 0
Short = Unsigned w16 (2 ^ 16)

-- what stands behind the opcode op, which stands at an offset
abbrev pub Row : ℕ → ℕ → Form → Raw → List ℕ → Type 0
Row at op form.Plain = λ r text. (r ≡ raw.Plain op) × (text ≡ [])
Row at op form.Byte = Seen (λ value. raw.Push op value) (Signed w8)
Row at op form.Short = Seen (λ value. raw.Push op value) (Signed w16)
Row at op form.Constant = Seen (λ number. raw.Load op number) Byte
Row at op form.WideConstant = Seen (λ number. raw.Load op number) Short
Row at op form.Local = Seen (λ slot. raw.Local op slot false) Byte
Row at op form.Increment = Then Byte (λ slot. Seen (λ by. raw.Inc slot by false) (Signed w8))
Row at op form.Branch = Seen (λ offset. raw.Branch op offset) (Signed w16)
Row at op form.WideBranch = Seen (λ offset. raw.Branch op offset) (Signed w32)
Row at op form.Table = Then (Bytes (padding at)) (λ pad. Then (Signed w32) (λ other. Then (Signed w32) (λ low. Then (Signed w32) (λ high. Seen (λ offsets. raw.Table low high other offsets) (Listed (FitsSigned w32) (signed w32) (targets low high))))))
Row at op form.Lookup = Then (Bytes (padding at)) (λ pad. Then (Signed w32) (λ other. Then (Unsigned w32 (2 ^ 31)) (λ count. Seen (λ cases. raw.Lookup other cases) (Listed IsCase case count))))
Row at op form.Reference = Seen (λ number. raw.Reference op number) Short
Row at op form.Interface = Then Short (λ number. Then Byte (λ count. Seen (λ last. raw.Interface number count last) Byte))
Row at op form.Dynamic = Then Short (λ number. Then Zero (λ first. Seen (λ second. raw.Dynamic number) Zero))
Row at op form.Class = Seen (λ number. raw.Class op number) Short
Row at op form.Array = Seen (λ kind. raw.NewArray kind) Byte
Row at op form.MultiArray = Then Short (λ number. Seen (λ dimensions. raw.MultiArray number dimensions) Byte)
Row at op form.Wide = Wider

table : (at : ℕ) → Reads (Reading.table_at at) (Row at 0 form.Table)
unfolding Reading.table_at
table at = then (λ pad bytes. signed_at w32 bytes >>= λ other. signed_at w32 other.1 >>= λ low. signed_at w32 low.1 >>= λ high. times (signed_at w32) (targets low.0 high.0) high.1 >>= λ offsets. Ok (raw.Table low.0 high.0 other.0 offsets.0, offsets.1)) (some_bytes (padding at))
    (λ pad. then (λ other bytes. signed_at w32 bytes >>= λ low. signed_at w32 low.1 >>= λ high. times (signed_at w32) (targets low.0 high.0) high.1 >>= λ offsets. Ok (raw.Table low.0 high.0 other offsets.0, offsets.1)) int_signed
    (λ other. then (λ low bytes. signed_at w32 bytes >>= λ high. times (signed_at w32) (targets low high.0) high.1 >>= λ offsets. Ok (raw.Table low high.0 other offsets.0, offsets.1)) int_signed
    (λ low. then (λ high bytes. times (signed_at w32) (targets low high) bytes >>= λ offsets. Ok (raw.Table low high other offsets.0, offsets.1)) int_signed
    (λ high. seen (λ offsets. raw.Table low high other offsets) (listed (FitsSigned w32) (signed w32) (signed_at w32) int_signed (targets low high))))))

lookup : (at : ℕ) → Reads (Reading.lookup_at at) (Row at 0 form.Lookup)
unfolding Reading.lookup_at
lookup at = then (λ pad bytes. signed_at w32 bytes >>= λ other. Reading.count_at other.1 >>= λ count. times case_at count.0 count.1 >>= λ cases. Ok (raw.Lookup other.0 cases.0, cases.1)) (some_bytes (padding at))
    (λ pad. then (λ other bytes. Reading.count_at bytes >>= λ count. times case_at count.0 count.1 >>= λ cases. Ok (raw.Lookup other cases.0, cases.1)) int_signed
    (λ other. then (λ count bytes. times case_at count bytes >>= λ cases. Ok (raw.Lookup other cases.0, cases.1)) count_number
    (λ count. seen (λ cases. raw.Lookup other cases) (listed IsCase case case_at one_case count))))

increment : Reads Reading.increment_at (Row 0 0 form.Increment)
unfolding Reading.increment_at
increment = then (λ slot bytes. signed_at w8 bytes >>= λ by. Ok (raw.Inc slot by.0 false, by.1)) byte (λ slot. seen (λ by. raw.Inc slot by false) byte_signed)

interface : Reads Reading.interface_at (Row 0 0 form.Interface)
unfolding Reading.interface_at
interface = then (λ number bytes. Reading.byte_at bytes >>= λ count. Reading.byte_at count.1 >>= λ last. Ok (raw.Interface number count.0 last.0, last.1)) short_unsigned
    (λ number. then (λ count bytes. Reading.byte_at bytes >>= λ last. Ok (raw.Interface number count last.0, last.1)) byte (λ count. seen (λ last. raw.Interface number count last) byte))

dynamic : Reads Reading.dynamic_at (Row 0 0 form.Dynamic)
unfolding Reading.dynamic_at
dynamic = then (λ number bytes. Reading.zero_at bytes >>= λ first. Reading.zero_at first.1 >>= λ second. Ok (raw.Dynamic number, second.1)) short_unsigned
    (λ number. then (λ first bytes. Reading.zero_at bytes >>= λ second. Ok (raw.Dynamic number, second.1)) zero_byte (λ first. seen (λ second. raw.Dynamic number) zero_byte))

multi_array : Reads Reading.multi_array_at (Row 0 0 form.MultiArray)
unfolding Reading.multi_array_at
multi_array = then (λ number bytes. Reading.byte_at bytes >>= λ dimensions. Ok (raw.MultiArray number dimensions.0, dimensions.1)) short_unsigned (λ number. seen (λ dimensions. raw.MultiArray number dimensions) byte)

pub operands : (at op : ℕ) (f : Form) → Reads (operands_at at op f) (Row at op f)
unfolding operands_at Reading.push_byte_at Reading.push_short_at Reading.constant_at Reading.wide_constant_at Reading.local_at Reading.branch_at Reading.wide_branch_at Reading.reference_at Reading.class_at Reading.array_at
operands at op form.Plain = done (raw.Plain op)
operands at op form.Byte = seen (λ value. raw.Push op value) byte_signed
operands at op form.Short = seen (λ value. raw.Push op value) short_signed
operands at op form.Constant = seen (λ number. raw.Load op number) byte
operands at op form.WideConstant = seen (λ number. raw.Load op number) short_unsigned
operands at op form.Local = seen (λ slot. raw.Local op slot false) byte
operands at op form.Increment = increment
operands at op form.Branch = seen (λ offset. raw.Branch op offset) short_signed
operands at op form.WideBranch = seen (λ offset. raw.Branch op offset) int_signed
operands at op form.Table = table at
operands at op form.Lookup = lookup at
operands at op form.Reference = seen (λ number. raw.Reference op number) short_unsigned
operands at op form.Interface = interface
operands at op form.Dynamic = dynamic
operands at op form.Class = seen (λ number. raw.Class op number) short_unsigned
operands at op form.Array = seen (λ kind. raw.NewArray kind) byte
operands at op form.MultiArray = multi_array
operands at op form.Wide = wider

abbrev pub Rows : ℕ → Raw → List ℕ → Type 0
Rows at = Then Opcode (λ x. Row at x.0 x.1)

pub instruction : (at : ℕ) → Reads (instruction_at at) (Rows at)
unfolding instruction_at
instruction at = then (λ x bytes. operands_at at x.0 x.1 bytes) opcode (λ x. operands at x.0 x.1)
