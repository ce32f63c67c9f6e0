-- The constants that instructions name (JVM Specification 6.5).
use Rattle.std.specs.Prelude.{ℕ, nat_le, Bool, List, [], ◌∷◌, if◌then◌else◌}
use Rattle.std.specs.List.{flat_map}
use Rattle.wv_base.specs.declared.constant.Const.{Const}
use Rattle.wv_base.specs.declared.constant.Const.TheVariants as constants
use Rattle.wv_base.specs.declared.constant.MemberReference.{MemberReference}
use Rattle.wv_base.specs.declared.insn.Insn.{Insn}
use Rattle.wv_base.specs.declared.insn.Insn.TheVariants as insn
use Rattle.wv_base.specs.Opcodes.{putfield}

-- the member that an opcode names: up to putfield a field, from invokevirtual on a method
abbrev pub member_constant : ℕ → MemberReference → Bool → Const
member_constant op m interface = if nat_le op putfield then constants.Field m else constants.Method m interface

-- the constant that an instruction names, where it names one
abbrev pub constants_in : Insn → List Const
constants_in (insn.Load op value) = value ∷ []
constants_in (insn.Reference op owner name descriptor interface) = member_constant op (record { owner = owner; name = name; descriptor = descriptor }) interface ∷ []
constants_in (insn.Site bootstrap name descriptor) = constants.InvokeDynamic bootstrap name descriptor ∷ []
constants_in (insn.Class op class) = constants.Class class ∷ []
constants_in (insn.MultiArray class dimensions) = constants.Class class ∷ []
constants_in _ = []

-- the constants that the instructions name, in order
abbrev pub all_constants : List Insn → List Const
all_constants insns = flat_map constants_in insns
