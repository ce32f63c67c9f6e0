-- Plain code: fourteen instructions (JVM Specification 6.5).
use Rattle.std.specs.Prelude.{◌≡◌, ◌≢◌, ℕ, ◌≤◌, false, List, [], ◌∷◌, ◌++◌, codes, FitsSigned, ◌⊎◌}
use Rattle.std.specs.List.{AllByRecursion}
use Rattle.std.specs.Int.{w8}
use Rattle.wv_base.specs.declared.constant.MemberReference.{MemberReference}
use Rattle.wv_base.specs.declared.insn.Insn.{Insn}
use Rattle.wv_base.specs.declared.insn.Insn.TheVariants as insns
use Rattle.wv_base.specs.Opcodes.{iconst_0, iconst_5, bipush, pop, iadd, imul, return, getstatic, invokevirtual, invokestatic}

-- the two classes of the form: the game's class, and the mixin
pub data Role : Type 0 where
  Game : Role
  Mixin : Role

-- the name of the class of each role
abbrev pub class_name : Role → List ℕ
class_name Game = codes "app/Main"
class_name Mixin = codes "alpha/mixin/MainMixin"

-- the opcodes of plain code that have no operands
abbrev pub IsPlainOpcode : ℕ → Type 0
IsPlainOpcode op =
    ((iconst_0 ≤ op) × (op ≤ iconst_5)) ⊎ (op ≡ pop) ⊎ (op ≡ iadd) ⊎ (op ≡ imul) ⊎ (op ≡ return)

-- the field `System.out`
abbrev pub system_out : MemberReference
system_out =
    record { owner = codes "java/lang/System"; name = codes "out"; descriptor = codes "Ljava/io/PrintStream;" }

-- the method `PrintStream.println` of an int
abbrev pub println : MemberReference
println = record { owner = codes "java/io/PrintStream"; name = codes "println"; descriptor = codes "(I)V" }

-- a class whose methods the plain code of a class with its own name calls: the game's class, and a mixin also itself
abbrev pub IsOwner : Role → List ℕ → List ℕ → Type 0
IsOwner Game own owner = owner ≡ class_name Game
IsOwner Mixin own owner = (owner ≡ class_name Game) ⊎ (owner ≡ own)

-- the name of no special method (2.9)
abbrev pub IsOrdinary : List ℕ → Type 0
IsOrdinary name = (name ≢ codes "<init>") × (name ≢ codes "<clinit>")

-- any class, of the folder, of the platform or of neither
abbrev pub AnyClass : List ℕ → Type 0
AnyClass owner = Unit {0}

-- a method `()V` of such a class, by its reference alone: whether the class has it isn't asked
pub record IsMethodOf (IsOwner : List ℕ → Type 0) (method : MemberReference) : Type 0 where
  pub owner : IsOwner method.owner
  pub ordinary : IsOrdinary method.name
  pub descriptor : method.descriptor ≡ codes "()V"

-- what a plain instruction with this opcode may refer to, where methods of such classes are called
abbrev pub IsReferenceCalling : (List ℕ → Type 0) → ℕ → MemberReference → Type 0
IsReferenceCalling IsOwner op reference =
    ((op ≡ getstatic) × (reference ≡ system_out))
    ⊎ ((op ≡ invokevirtual) × (reference ≡ println))
    ⊎ ((op ≡ invokestatic) × IsMethodOf IsOwner reference)

-- the instructions of plain code that calls methods of such classes
abbrev pub IsInsnCalling : (List ℕ → Type 0) → Insn → Type 0
IsInsnCalling IsOwner (insns.Plain op) = IsPlainOpcode op
IsInsnCalling IsOwner (insns.Push op value) = (op ≡ bipush) × FitsSigned w8 value
IsInsnCalling IsOwner (insns.Reference op owner name descriptor interface) =
    (interface ≡ false)
    × IsReferenceCalling IsOwner op (record { owner = owner; name = name; descriptor = descriptor })
IsInsnCalling IsOwner _ = ⊥

-- the same for a class of the role, with its own name
abbrev pub IsOwnMethod : Role → List ℕ → MemberReference → Type 0
IsOwnMethod role own method = IsMethodOf (IsOwner role own) method

abbrev pub IsPlainReference : Role → List ℕ → ℕ → MemberReference → Type 0
IsPlainReference role own op reference = IsReferenceCalling (IsOwner role own) op reference

abbrev pub IsPlainInsn : Role → List ℕ → Insn → Type 0
IsPlainInsn role own insn = IsInsnCalling (IsOwner role own) insn

-- `return` ends the code, and stands nowhere else in it
pub record EndsWithReturn (code : List Insn) : Type 0 where
  pub front : List Insn
  pub last : code ≡ front ++ (insns.Plain return ∷ [])
  pub only : AllByRecursion (λ insn. insn ≡ insns.Plain return → ⊥) front
