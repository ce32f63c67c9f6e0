-- How instructions are spelled in bytes (JVM Specification chapter 6).
use Rattle.std.specs.Prelude.{◌≡◌, ℕ, ◌+◌, ◌-◌, ◌%◌, ◌^◌, ◌<◌, List, [], ◌∷◌, ◌++◌, length, replicate, ℤ, ◌-ℤ◌, int_le, unsigned_abs, FitsSigned, true, false, Option, Some, ◌⊎◌, if◌then◌else◌}
use Rattle.std.specs.List.{flat_map, AllByRecursion}
use Rattle.std.specs.Int.{Width, w8, w16, w32, to_be_bytes, cast_unsigned}
use Rattle.wv_base.specs.declared.form.Form.{Form}
use Rattle.wv_base.specs.declared.form.Form.TheVariants as form
use Rattle.wv_base.specs.Opcodes.{iinc, tableswitch, lookupswitch, invokeinterface, invokedynamic, newarray, multianewarray, wide}
use Rattle.wv_base.specs.Instructions.{form_of}
use Rattle.wv_insn.specs.declared.raw.Raw.{Raw}
use Rattle.wv_insn.specs.declared.raw.Raw.TheVariants as raw
use Rattle.wv_insn.specs.declared.raw.RawCase.{RawCase}

-- a number with the high byte first
abbrev pub unsigned : Width → ℕ → List ℕ
unsigned w n = to_be_bytes w n

-- a number in two's complement
abbrev pub signed : Width → ℤ → List ℕ
signed w z = to_be_bytes w (cast_unsigned w z)

-- how many bytes stand between the opcode of a switch at this offset and the next multiple of four
abbrev pub padding : ℕ → ℕ
padding at = 3 - at % 4

-- how many keys there are from low to high
unfoldable pub targets : ℤ → ℤ → ℕ
targets low high = if int_le low high then unsigned_abs (high -ℤ low) + 1 else 0

-- the width of the one number behind an opcode of this form
abbrev pub width_of : Option Form → Width
width_of (Some form.Byte) = w8
width_of (Some form.Constant) = w8
width_of (Some form.WideBranch) = w32
width_of _ = w16

-- a key and an offset
abbrev pub case : RawCase → List ℕ
case c = signed w32 c.key ++ signed w32 c.offset

-- the bytes of an instruction, with these pad bytes if it is a switch (6.5, "Format")
abbrev pub spelling : List ℕ → Raw → List ℕ
spelling pad (raw.Plain op) = op ∷ []
spelling pad (raw.Push op value) = op ∷ signed (width_of (form_of op)) value
spelling pad (raw.Load op number) = op ∷ unsigned (width_of (form_of op)) number
spelling pad (raw.Local op slot false) = op ∷ slot ∷ []
spelling pad (raw.Local op slot true) = wide ∷ op ∷ unsigned w16 slot
spelling pad (raw.Inc slot by false) = iinc ∷ slot ∷ signed w8 by
spelling pad (raw.Inc slot by true) = wide ∷ iinc ∷ unsigned w16 slot ++ signed w16 by
spelling pad (raw.Branch op offset) = op ∷ signed (width_of (form_of op)) offset
spelling pad (raw.Table low high other offsets) = tableswitch ∷ pad ++ signed w32 other ++ signed w32 low ++ signed w32 high ++ flat_map (signed w32) offsets
spelling pad (raw.Lookup other cases) = lookupswitch ∷ pad ++ signed w32 other ++ unsigned w32 (length cases) ++ flat_map case cases
spelling pad (raw.Reference op number) = op ∷ unsigned w16 number
spelling pad (raw.Interface number count last) = invokeinterface ∷ unsigned w16 number ++ count ∷ last ∷ []
spelling pad (raw.Dynamic number) = invokedynamic ∷ unsigned w16 number ++ 0 ∷ 0 ∷ []
spelling pad (raw.Class op number) = op ∷ unsigned w16 number
spelling pad (raw.NewArray kind) = newarray ∷ kind ∷ []
spelling pad (raw.MultiArray number dimensions) = multianewarray ∷ unsigned w16 number ++ dimensions ∷ []

-- the opcode's operands have this form
abbrev pub HasForm : ℕ → Form → Type 0
HasForm op f = form_of op ≡ Some f

-- the opcode is one of the instruction's kind, each number fits its place, and a switch is as long as it says
abbrev pub IsInstruction : Raw → Type 0
IsInstruction (raw.Plain op) = HasForm op form.Plain
IsInstruction (raw.Push op value) = HasForm op form.Byte × FitsSigned w8 value ⊎ HasForm op form.Short
IsInstruction (raw.Load op number) = HasForm op form.Constant × (number < 2 ^ 8) ⊎ HasForm op form.WideConstant
IsInstruction (raw.Local op slot false) = HasForm op form.Local × (slot < 2 ^ 8)
IsInstruction (raw.Local op slot true) = HasForm op form.Local
IsInstruction (raw.Inc slot by false) = (slot < 2 ^ 8) × FitsSigned w8 by
IsInstruction (raw.Inc slot by true) = Unit {0}
IsInstruction (raw.Branch op offset) = HasForm op form.Branch × FitsSigned w16 offset ⊎ HasForm op form.WideBranch
IsInstruction (raw.Table low high other offsets) = length offsets ≡ targets low high
IsInstruction (raw.Lookup other cases) = length cases < 2 ^ 31
IsInstruction (raw.Reference op number) = HasForm op form.Reference
IsInstruction (raw.Class op number) = HasForm op form.Class
IsInstruction _ = Unit {0}

-- both numbers of a case are of their type
abbrev pub IsCase : RawCase → Type 0
IsCase c = FitsSigned w32 c.key × FitsSigned w32 c.offset

-- each field holds a number of its type
abbrev pub IsTyped : Raw → Type 0
IsTyped (raw.Plain op) = op < 2 ^ 8
IsTyped (raw.Push op value) = (op < 2 ^ 8) × FitsSigned w16 value
IsTyped (raw.Load op number) = (op < 2 ^ 8) × (number < 2 ^ 16)
IsTyped (raw.Local op slot _) = (op < 2 ^ 8) × (slot < 2 ^ 16)
IsTyped (raw.Inc slot by _) = (slot < 2 ^ 16) × FitsSigned w16 by
IsTyped (raw.Branch op offset) = (op < 2 ^ 8) × FitsSigned w32 offset
IsTyped (raw.Table low high other offsets) = FitsSigned w32 low × FitsSigned w32 high × FitsSigned w32 other × AllByRecursion (FitsSigned w32) offsets
IsTyped (raw.Lookup other cases) = FitsSigned w32 other × AllByRecursion IsCase cases
IsTyped (raw.Reference op number) = (op < 2 ^ 8) × (number < 2 ^ 16)
IsTyped (raw.Interface number count last) = (number < 2 ^ 16) × (count < 2 ^ 8) × (last < 2 ^ 8)
IsTyped (raw.Dynamic number) = number < 2 ^ 16
IsTyped (raw.Class op number) = (op < 2 ^ 8) × (number < 2 ^ 16)
IsTyped (raw.NewArray kind) = kind < 2 ^ 8
IsTyped (raw.MultiArray number dimensions) = (number < 2 ^ 16) × (dimensions < 2 ^ 8)

-- these bytes are the instruction, where its opcode stands at this offset
pub record Spells (at : ℕ) (r : Raw) (bytes : List ℕ) : Type 0 where
  pub pad : List ℕ
  pub padded : length pad ≡ padding at
  pub pad_bytes : AllByRecursion (λ byte. byte < 2 ^ 8) pad
  pub typed : IsTyped r
  pub instruction : IsInstruction r
  pub spelled : bytes ≡ spelling pad r

-- the spelling with zeros for pad bytes
abbrev pub plain_spelling : ℕ → Raw → List ℕ
plain_spelling at r = spelling (replicate (padding at) 0) r
