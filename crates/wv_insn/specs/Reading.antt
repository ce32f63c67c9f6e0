-- Reading an instruction from left to right. A value is given with the bytes behind it, or else the number
-- of bytes that are left where the reading stops: 0 at their end.
use Rattle.std.specs.Prelude.{◌≡◌, ℕ, zero, suc, List, [], ◌∷◌, length, take, drop, ℤ, true, false, Option, Some, None, Result, Ok, Err, nat_lt, nat_le, if◌then◌else◌}
use Rattle.std.specs.Int.{Width, w8, w16, w32, byte_len, from_be_bytes, cast_signed}
use Rattle.wv_base.specs.declared.form.Form.{Form}
use Rattle.wv_base.specs.declared.form.Form.TheVariants as form
use Rattle.wv_base.specs.Instructions.{form_of}
use Rattle.wv_insn.specs.declared.fault.Stop.{Stop}
use Rattle.wv_insn.specs.declared.fault.Stop.TheVariants as stop
use Rattle.wv_insn.specs.declared.raw.Raw.{Raw}
use Rattle.wv_insn.specs.declared.raw.Raw.TheVariants as raw
use Rattle.wv_insn.specs.declared.raw.RawCase.{RawCase}
use Rattle.wv_insn.specs.Spelling.{padding, targets}

-- one step of reading behind another
infixl 10 ◌>>=◌
abbrev pub ◌>>=◌ : {A B : Type 0} → Result A ℕ → (A → Result B ℕ) → Result B ℕ
(Ok x) >>= f = f x
(Err left) >>= f = Err left

-- the error that a reader returned is the place where reading stops, unless memory ran out
abbrev pub Fails : {Y : Type 0} → Stop → Result Y ℕ → Type 0
Fails stop.Memory read = Unit {0}
Fails (stop.At left) read = read ≡ Err left

-- what a reader returned, seen by view, is what reading gives, unless memory ran out
abbrev pub Gives : {X Y : Type 0} → (X → Y) → Result X Stop → Result Y ℕ → Type 0
Gives view (Ok x) read = read ≡ Ok (view x)
Gives view (Err e) read = Fails e read

-- the byte at the front
abbrev pub byte_at : List ℕ → Result (ℕ × List ℕ) ℕ
byte_at [] = Err 0
byte_at (byte ∷ rest) = Ok (byte, rest)

-- the byte at the front, which has to be zero
abbrev pub zero_at : List ℕ → Result (ℕ × List ℕ) ℕ
zero_at [] = Err 0
zero_at (zero ∷ rest) = Ok (0, rest)
zero_at (suc byte ∷ rest) = Err (suc (length rest))

-- that many bytes, whatever they are
abbrev pub bytes_at : ℕ → List ℕ → Result (List ℕ × List ℕ) ℕ
bytes_at count bytes = if nat_lt (length bytes) count then Err 0 else Ok (take count bytes, drop count bytes)

-- a number, with the high byte first
abbrev pub unsigned_at : Width → List ℕ → Result (ℕ × List ℕ) ℕ
unsigned_at w bytes = if nat_lt (length bytes) (byte_len w) then Err 0 else Ok (from_be_bytes w (take (byte_len w) bytes), drop (byte_len w) bytes)

-- a number in two's complement
abbrev pub signed_at : Width → List ℕ → Result (ℤ × List ℕ) ℕ
signed_at w bytes = unsigned_at w bytes >>= λ n. Ok (cast_signed w n.0, n.1)

-- a count of four bytes, whose first byte hasn't the sign
abbrev pub count_at : List ℕ → Result (ℕ × List ℕ) ℕ
count_at [] = Err 0
count_at (byte ∷ rest) = if nat_le 128 byte then Err (suc (length rest)) else unsigned_at w32 (byte ∷ rest)

-- that many of what a reader reads
unfoldable pub times : {A : Type 0} → (List ℕ → Result (A × List ℕ) ℕ) → ℕ → List ℕ → Result (List A × List ℕ) ℕ
times read zero bytes = Ok ([], bytes)
times read (suc n) bytes = do
  first ← read bytes
  others ← times read n first.1
  Ok (first.0 ∷ others.0, others.1)

-- a key and an offset
unfoldable pub case_at : List ℕ → Result (RawCase × List ℕ) ℕ
case_at bytes = do
  key ← signed_at w32 bytes
  offset ← signed_at w32 key.1
  Ok (record { key = key.0; offset = offset.0 }, offset.1)

-- the opcode at the front, and its form
unfoldable pub opcode_at : List ℕ → Result ((ℕ × Form) × List ℕ) ℕ
opcode_at [] = Err 0
opcode_at (op ∷ rest) = of_form (form_of op)
  where
    of_form : Option Form → Result ((ℕ × Form) × List ℕ) ℕ
    of_form None = Err (suc (length rest))
    of_form (Some f) = Ok ((op, f), rest)

-- what stands behind `wide`: a load, a store or iinc, with operands of two bytes
unfoldable pub wide_at : List ℕ → Result (Raw × List ℕ) ℕ
wide_at [] = Err 0
wide_at (op ∷ rest) = of_form (form_of op)
  where
    of_form : Option Form → Result (Raw × List ℕ) ℕ
    of_form (Some form.Local) = do
      slot ← unsigned_at w16 rest
      Ok (raw.Local op slot.0 true, slot.1)
    of_form (Some form.Increment) = do
      slot ← unsigned_at w16 rest
      by ← signed_at w16 slot.1
      Ok (raw.Inc slot.0 by.0 true, by.1)
    of_form _ = Err (suc (length rest))

-- ---- the operands of each form, behind the opcode op

-- bipush
unfoldable pub push_byte_at : ℕ → List ℕ → Result (Raw × List ℕ) ℕ
push_byte_at op bytes = do
  value ← signed_at w8 bytes
  Ok (raw.Push op value.0, value.1)

-- sipush
unfoldable pub push_short_at : ℕ → List ℕ → Result (Raw × List ℕ) ℕ
push_short_at op bytes = do
  value ← signed_at w16 bytes
  Ok (raw.Push op value.0, value.1)

-- ldc
unfoldable pub constant_at : ℕ → List ℕ → Result (Raw × List ℕ) ℕ
constant_at op bytes = do
  number ← byte_at bytes
  Ok (raw.Load op number.0, number.1)

-- ldc_w and ldc2_w
unfoldable pub wide_constant_at : ℕ → List ℕ → Result (Raw × List ℕ) ℕ
wide_constant_at op bytes = do
  number ← unsigned_at w16 bytes
  Ok (raw.Load op number.0, number.1)

-- a load or a store of a local variable by its number
unfoldable pub local_at : ℕ → List ℕ → Result (Raw × List ℕ) ℕ
local_at op bytes = do
  slot ← byte_at bytes
  Ok (raw.Local op slot.0 false, slot.1)

-- iinc
unfoldable pub increment_at : List ℕ → Result (Raw × List ℕ) ℕ
increment_at bytes = do
  slot ← byte_at bytes
  by ← signed_at w8 slot.1
  Ok (raw.Inc slot.0 by.0 false, by.1)

-- a jump
unfoldable pub branch_at : ℕ → List ℕ → Result (Raw × List ℕ) ℕ
branch_at op bytes = do
  offset ← signed_at w16 bytes
  Ok (raw.Branch op offset.0, offset.1)

-- goto_w
unfoldable pub wide_branch_at : ℕ → List ℕ → Result (Raw × List ℕ) ℕ
wide_branch_at op bytes = do
  offset ← signed_at w32 bytes
  Ok (raw.Branch op offset.0, offset.1)

-- tableswitch, whose opcode stands at this offset
unfoldable pub table_at : ℕ → List ℕ → Result (Raw × List ℕ) ℕ
table_at at bytes = do
  pad ← bytes_at (padding at) bytes
  other ← signed_at w32 pad.1
  low ← signed_at w32 other.1
  high ← signed_at w32 low.1
  offsets ← times (signed_at w32) (targets low.0 high.0) high.1
  Ok (raw.Table low.0 high.0 other.0 offsets.0, offsets.1)

-- lookupswitch, whose opcode stands at this offset
unfoldable pub lookup_at : ℕ → List ℕ → Result (Raw × List ℕ) ℕ
lookup_at at bytes = do
  pad ← bytes_at (padding at) bytes
  other ← signed_at w32 pad.1
  count ← count_at other.1
  cases ← times case_at count.0 count.1
  Ok (raw.Lookup other.0 cases.0, cases.1)

-- a field instruction, or a call by a pool number alone
unfoldable pub reference_at : ℕ → List ℕ → Result (Raw × List ℕ) ℕ
reference_at op bytes = do
  number ← unsigned_at w16 bytes
  Ok (raw.Reference op number.0, number.1)

-- invokeinterface
unfoldable pub interface_at : List ℕ → Result (Raw × List ℕ) ℕ
interface_at bytes = do
  number ← unsigned_at w16 bytes
  count ← byte_at number.1
  last ← byte_at count.1
  Ok (raw.Interface number.0 count.0 last.0, last.1)

-- invokedynamic
unfoldable pub dynamic_at : List ℕ → Result (Raw × List ℕ) ℕ
dynamic_at bytes = do
  number ← unsigned_at w16 bytes
  first ← zero_at number.1
  second ← zero_at first.1
  Ok (raw.Dynamic number.0, second.1)

-- new, anewarray, checkcast and instanceof
unfoldable pub class_at : ℕ → List ℕ → Result (Raw × List ℕ) ℕ
class_at op bytes = do
  number ← unsigned_at w16 bytes
  Ok (raw.Class op number.0, number.1)

-- newarray
unfoldable pub array_at : List ℕ → Result (Raw × List ℕ) ℕ
array_at bytes = do
  kind ← byte_at bytes
  Ok (raw.NewArray kind.0, kind.1)

-- multianewarray
unfoldable pub multi_array_at : List ℕ → Result (Raw × List ℕ) ℕ
multi_array_at bytes = do
  number ← unsigned_at w16 bytes
  dimensions ← byte_at number.1
  Ok (raw.MultiArray number.0 dimensions.0, dimensions.1)

-- the operands of a form, behind the opcode op that stands at this offset
unfoldable pub operands_at : ℕ → ℕ → Form → List ℕ → Result (Raw × List ℕ) ℕ
operands_at at op form.Plain bytes = Ok (raw.Plain op, bytes)
operands_at at op form.Byte bytes = push_byte_at op bytes
operands_at at op form.Short bytes = push_short_at op bytes
operands_at at op form.Constant bytes = constant_at op bytes
operands_at at op form.WideConstant bytes = wide_constant_at op bytes
operands_at at op form.Local bytes = local_at op bytes
operands_at at op form.Increment bytes = increment_at bytes
operands_at at op form.Branch bytes = branch_at op bytes
operands_at at op form.WideBranch bytes = wide_branch_at op bytes
operands_at at op form.Table bytes = table_at at bytes
operands_at at op form.Lookup bytes = lookup_at at bytes
operands_at at op form.Reference bytes = reference_at op bytes
operands_at at op form.Interface bytes = interface_at bytes
operands_at at op form.Dynamic bytes = dynamic_at bytes
operands_at at op form.Class bytes = class_at op bytes
operands_at at op form.Array bytes = array_at bytes
operands_at at op form.MultiArray bytes = multi_array_at bytes
operands_at at op form.Wide bytes = wide_at bytes

-- the instruction at the front of these bytes, which stand at this offset
unfoldable pub instruction_at : ℕ → List ℕ → Result (Raw × List ℕ) ℕ
instruction_at at bytes = do
  opcode ← opcode_at bytes
  operands_at at opcode.0.0 opcode.0.1 opcode.1
