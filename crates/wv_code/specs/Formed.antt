-- Instructions that meet what a class file asks of them (JVM Specification 4.9.1).
use Rattle.std.specs.Prelude.{◌≡◌, ℕ, ◌+◌, ◌^◌, ◌<◌, ◌≤◌, ◌==◌, ℤ, pos, ◌+ℤ◌, ◌-ℤ◌, ◌<ℤ◌, Bool, true, false, FitsSigned, List, [], ◌∷◌, length, ◌⊎◌, if◌then◌else◌}
use Rattle.std.specs.List.{AllByRecursion}
use Rattle.std.specs.Int.{w32}
use Rattle.wv_base.specs.declared.constant.Const.{Const}
use Rattle.wv_base.specs.declared.constant.Const.TheVariants as constants
use Rattle.wv_base.specs.declared.insn.Insn.{Insn}
use Rattle.wv_base.specs.declared.insn.Insn.TheVariants as insn
use Rattle.wv_base.specs.declared.insn.Case.{Case}
use Rattle.wv_base.specs.Opcodes.{ldc, ldc_w, ldc2_w, getstatic, invokevirtual, invokestatic, invokeinterface}
use Rattle.wv_base.specs.Descriptor.{HasWords}
use Rattle.wv_insn.specs.declared.raw.Raw.TheVariants as raw
use Rattle.wv_insn.specs.Spelling.{IsInstruction}
use Rattle.wv_pool.specs.Allowed.{IsAllowed}
use Rattle.wv_code.specs.Constants.{constants_in}

-- how many words of the operand stack a constant takes that an instruction can load (5.1, 6.5 ldc and ldc2_w)
abbrev pub loaded_words : Const → ℕ
loaded_words (constants.Integer value) = 1
loaded_words (constants.Float bits) = 1
loaded_words (constants.Long value) = 2
loaded_words (constants.Double bits) = 2
loaded_words (constants.Class name) = 1
loaded_words (constants.String text) = 1
loaded_words (constants.MethodHandle kind m interface) = 1
loaded_words (constants.MethodType descriptor) = 1
loaded_words _ = 0

-- the opcode loads constants of so many words
abbrev pub LoadsWords : ℕ → ℕ → Type 0
LoadsWords op words = (((op ≡ ldc) ⊎ (op ≡ ldc_w)) × (words ≡ 1)) ⊎ ((op ≡ ldc2_w) × (words ≡ 2))

-- the words of the arguments, which invokeinterface counts with the object in one byte (6.5 invokeinterface)
abbrev pub IsCounted : List ℕ → Type 0
IsCounted descriptor = (words : ℕ) × HasWords descriptor words × (words < 255)

-- the opcode takes a member of an interface, or one of a class (6.5, getstatic to invokeinterface)
abbrev pub TakesMember : ℕ → List ℕ → Bool → Type 0
TakesMember op descriptor interface =
    ((getstatic ≤ op) × (op ≤ invokevirtual) × (interface ≡ false))
    ⊎ ((invokevirtual < op) × (op ≤ invokestatic))
    ⊎ ((op ≡ invokeinterface) × (interface ≡ true) × IsCounted descriptor)

-- how many dimensions the type of an array's descriptor has (4.3.2)
abbrev pub dimensions_of : List ℕ → ℕ
dimensions_of [] = 0
dimensions_of (unit ∷ units) = if unit == 91 then 1 + dimensions_of units else 0

-- the keys ascend strictly (6.5 lookupswitch)
abbrev pub KeysAscend : List Case → Type 0
KeysAscend [] = Unit {0}
KeysAscend (a ∷ []) = Unit {0}
KeysAscend (a ∷ b ∷ others) = (a.key <ℤ b.key) × KeysAscend (b ∷ others)

-- the last of so many keys from this one on (6.5 tableswitch)
abbrev pub last_key : ℤ → ℕ → ℤ
last_key low count = low +ℤ pos count -ℤ pos 1

-- an instruction among so many: its opcode is one of its kind, its numbers fit their places, and it leads to instructions
abbrev pub IsShaped : ℕ → Insn → Type 0
IsShaped count (insn.Plain op) = IsInstruction (raw.Plain op)
IsShaped count (insn.Push op value) = IsInstruction (raw.Push op value)
IsShaped count (insn.Load op value) = LoadsWords op (loaded_words value)
IsShaped count (insn.Local op slot wide) = IsInstruction (raw.Local op slot wide)
IsShaped count (insn.Inc slot by wide) = IsInstruction (raw.Inc slot by wide)
IsShaped count (insn.Branch op to) = IsInstruction (raw.Branch op (pos 0)) × (to < count)
IsShaped count (insn.Table low other targets) = (other < count) × AllByRecursion (λ to. to < count) targets × (1 ≤ length targets) × FitsSigned w32 low × FitsSigned w32 (last_key low (length targets))
IsShaped count (insn.Lookup other cases) = (other < count) × AllByRecursion (λ c. c.to < count) cases × (length cases < 2 ^ 31) × KeysAscend cases
IsShaped count (insn.Reference op owner name descriptor interface) = TakesMember op descriptor interface
IsShaped count (insn.Site bootstrap name descriptor) = Unit {0}
IsShaped count (insn.Class op class) = IsInstruction (raw.Class op 0)
IsShaped count (insn.NewArray kind) = (4 ≤ kind) × (kind ≤ 11)
IsShaped count (insn.MultiArray class dimensions) = (1 ≤ dimensions) × (dimensions ≤ dimensions_of class)

-- an instruction among so many, whose constants a pool may hold
abbrev pub IsFormed : ℕ → Insn → Type 0
IsFormed count i = AllByRecursion IsAllowed (constants_in i) × IsShaped count i

-- the instructions of a method's code
abbrev pub AreFormed : List Insn → Type 0
AreFormed insns = AllByRecursion (IsFormed (length insns)) insns
