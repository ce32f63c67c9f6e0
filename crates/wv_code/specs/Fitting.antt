-- The instruction that fits the room that is left of a method's code (JVM Specification 4.7.3 and chapter 6). The bytes go on
-- behind the code, where at least `tail` bytes stand, and of all these the last ones may be missing. A fault is the number of
-- bytes that are left from it on, 0 where the bytes end: the first byte with which no instruction of the room goes on.
use Rattle.std.specs.Prelude.{ℕ, suc, ◌+◌, ◌*◌, ◌^◌, nat_le, nat_lt, ℤ, negsuc, Bool, true, ◌&&◌, if◌then◌else◌, List, [], ◌∷◌, length, Option, Some, None, Result, Ok, Err}
use Rattle.std.specs.Int.{w32, cast_signed}
use Rattle.wv_base.specs.declared.form.Form.{Form}
use Rattle.wv_base.specs.declared.form.Form.TheVariants as form
use Rattle.wv_base.specs.Instructions.{form_of}
use Rattle.wv_pool.specs.Reading.{◌>>=◌}
use Rattle.wv_insn.specs.declared.raw.Raw.{Raw}
use Rattle.wv_insn.specs.Spelling.{padding, targets}
use Rattle.wv_insn.specs.Reading.{bytes_at, signed_at, instruction_at}
use Rattle.wv_code.specs.declared.switch_number.SwitchPart.{SwitchPart}
use Rattle.wv_code.specs.declared.switch_number.SwitchPart.TheVariants as parts
use Rattle.wv_code.specs.Number.{number_at}

-- how many bytes stand at least behind an opcode whose operands have this form, where it stands at this offset (6.5, "Format")
abbrev pub least_behind : ℕ → Form → ℕ
least_behind at form.Plain = 0
least_behind at form.Byte = 1
least_behind at form.Short = 2
least_behind at form.Constant = 1
least_behind at form.WideConstant = 2
least_behind at form.Local = 1
least_behind at form.Increment = 2
least_behind at form.Branch = 2
least_behind at form.WideBranch = 4
least_behind at form.Table = padding at + 12
least_behind at form.Lookup = padding at + 8
least_behind at form.Reference = 2
least_behind at form.Interface = 4
least_behind at form.Dynamic = 4
least_behind at form.Class = 2
least_behind at form.Array = 1
least_behind at form.MultiArray = 3
least_behind at form.Wide = 3

-- an opcode with its form
abbrev pub with_form : ℕ → Option Form → Option (ℕ × Form)
with_form op None = None
with_form op (Some f) = Some (op, f)

-- how many bytes stand behind an opcode of this form behind `wide`
abbrev pub behind_wide : Option Form → Option ℕ
behind_wide (Some form.Local) = Some 2
behind_wide (Some form.Increment) = Some 4
behind_wide _ = None

-- a byte that means something behind which so many bytes fit, before the tail
abbrev pub found_in : {A : Type 0} → (A → ℕ) → ℕ → ℕ → List ℕ → Option A → Result (A × List ℕ) ℕ
found_in behind tail missing rest None = Err (suc (length rest))
found_in behind tail missing rest (Some x) = if nat_le (behind x + tail) (length rest + missing) then Ok (x, rest) else Err (suc (length rest))

abbrev pub byte_in : {A : Type 0} → (ℕ → Option A) → (A → ℕ) → ℕ → ℕ → List ℕ → Result (A × List ℕ) ℕ
byte_in meaning behind tail missing [] = Err 0
byte_in meaning behind tail missing (byte ∷ rest) = found_in behind tail missing rest (meaning byte)

abbrev pub opcode_in : ℕ → ℕ → ℕ → List ℕ → Result ((ℕ × Form) × List ℕ) ℕ
opcode_in at tail missing bytes = byte_in (λ op. with_form op (form_of op)) (λ x. least_behind at x.1) tail missing bytes

-- the least number of 32 bits
abbrev pub least_int : ℤ
least_int = negsuc 2147483647

-- How many bytes stand at least behind a number of a switch: the least number that may be `high` and an offset of four bytes
-- for each key from `low` to `high`, or eight bytes a case.
unfoldable pub part_behind : SwitchPart → ℕ → ℕ
part_behind parts.Low n = 4 + 4 * targets (cast_signed w32 n) least_int
part_behind (parts.High low) n = 4 * targets low (cast_signed w32 n)
part_behind parts.Count n = 8 * n

-- the number may be one of this part: a count of cases isn't negative
abbrev pub may_be : SwitchPart → ℕ → Bool
may_be parts.Count n = nat_lt n (2 ^ 31)
may_be _ n = true

-- whether the number may stand before so much room, with the tail
unfoldable pub part_fits : SwitchPart → ℕ → ℕ → ℕ → Bool
part_fits part tail room n = may_be part n && nat_le (part_behind part n + tail) room

abbrev pub part_at : SwitchPart → ℕ → ℕ → List ℕ → Result (ℕ × List ℕ) ℕ
part_at part tail missing bytes = number_at 4 (part_fits part tail) missing bytes

-- Whether the operands behind an opcode fit, as far as its least form doesn't say.
unfoldable pub table_room : ℕ → ℕ → ℕ → List ℕ → Result (Unit {0}) ℕ
table_room at tail missing bytes = do
  pad ← bytes_at (padding at) bytes
  other ← signed_at w32 pad.1
  low ← part_at parts.Low tail missing other.1
  high ← part_at (parts.High (cast_signed w32 low.0)) tail missing low.1
  Ok tt

unfoldable pub lookup_room : ℕ → ℕ → ℕ → List ℕ → Result (Unit {0}) ℕ
lookup_room at tail missing bytes = do
  pad ← bytes_at (padding at) bytes
  other ← signed_at w32 pad.1
  count ← part_at parts.Count tail missing other.1
  Ok tt

unfoldable pub wide_room : ℕ → ℕ → List ℕ → Result (Unit {0}) ℕ
wide_room tail missing bytes = do
  op ← byte_in (λ op. behind_wide (form_of op)) (λ n. n) tail missing bytes
  Ok tt

abbrev pub operands_room : ℕ → Form → ℕ → ℕ → List ℕ → Result (Unit {0}) ℕ
operands_room at form.Table tail missing bytes = table_room at tail missing bytes
operands_room at form.Lookup tail missing bytes = lookup_room at tail missing bytes
operands_room at form.Wide tail missing bytes = wide_room tail missing bytes
operands_room at _ tail missing bytes = Ok tt

-- whether an instruction that begins so fits, whose opcode stands at this offset of the code
unfoldable pub room_at : (at tail missing : ℕ) → List ℕ → Result (Unit {0}) ℕ
room_at at tail missing bytes = do
  opcode ← opcode_in at tail missing bytes
  operands_room at opcode.0.1 tail missing opcode.1

-- the instruction at the front of the bytes, whose opcode stands at this offset of the code
unfoldable pub insn_at : (at tail missing : ℕ) → List ℕ → Result (Raw × List ℕ) ℕ
insn_at at tail missing bytes = do
  fits ← room_at at tail missing bytes
  instruction_at at bytes
