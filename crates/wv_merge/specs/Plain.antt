-- What a test of plain code looks at (JVM Specification 4.3.3 and 6.5).
use Rattle.std.specs.Prelude.{◌≡◌, ℕ, ◌≤◌, List}
use Rattle.wv_base.specs.declared.class_file.Body.{Body}
use Rattle.wv_base.specs.declared.class_file.Member.{Member}
use Rattle.wv_base.specs.declared.constant.MemberReference.{MemberReference}
use Rattle.wv_base.specs.declared.insn.Insn.{Insn}
use Rattle.wv_base.specs.declared.insn.Insn.TheVariants as insns
use Rattle.wv_base.specs.Descriptor.{HasWords}
use Rattle.wv_base.specs.Opcodes.{return}
use Rattle.wv_merge.specs.declared.plain.Referred.{Referred}
use Rattle.wv_merge.specs.ThinClass.{IsNoArray}
use Rattle.wv_model.specs.PlainCode.{Role, IsInsnCalling}
use Rattle.wv_model.specs.PlainMethod.{IsBodyCalling, IsMethodCalling, IsPlainDescriptor}

-- the member that is referred to
abbrev pub reference_of : Referred → MemberReference
reference_of member =
    record { owner = member.owner.now; name = member.name.now; descriptor = member.descriptor.now }

-- a member is referred to by these names
abbrev pub IsReference : Referred → List ℕ → List ℕ → List ℕ → Type 0
IsReference member owner name descriptor = (member.owner.now ≡ owner) × (member.name.now ≡ name) × (member.descriptor.now ≡ descriptor)

-- an instruction of plain code that calls methods of classes which are no arrays
abbrev pub IsPlain : Insn → Type 0
IsPlain insn = IsInsnCalling IsNoArray insn

-- such code, and a method with it
abbrev pub IsPlainBody : List ℕ → Body → Type 0
IsPlainBody descriptor body = IsBodyCalling IsNoArray descriptor body

abbrev pub IsPlainMethod : Role → Member → Type 0
IsPlainMethod role method = IsMethodCalling (IsPlainDescriptor role) IsNoArray method

-- so many locals have room for the words of the parameters
abbrev pub HasRoom : List ℕ → ℕ → Type 0
HasRoom descriptor locals = (words : ℕ) × HasWords descriptor words × (words ≤ locals)

-- the instruction that ends plain code
abbrev pub IsReturn : Insn → Type 0
IsReturn insn = insn ≡ insns.Plain return
