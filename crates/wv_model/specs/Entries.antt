-- Where a run begins: the start frame of each entry, and what is shared then. Our own.
use Rattle.std.specs.Prelude.{ℕ, if◌then◌else◌, List, [], ◌∷◌, codes, bytes_eq}
use Rattle.wv_base.specs.declared.constant.MemberReference.{MemberReference}
use Rattle.wv_base.specs.declared.insn.Insn.{Insn}
use Rattle.wv_base.specs.declared.insn.Insn.TheVariants as insns
use Rattle.wv_base.specs.Opcodes.{invokestatic, return}
use Rattle.wv_model.specs.FormDomain.{Value, Reference, Null, Place, Array, Answer, Shared}
use Rattle.wv_model.specs.Linking.{ClassShape, names_interface}
use Rattle.wv_model.specs.PlainMethod.{IsPlainDescriptor}
use Rattle.wv_model.specs.PlainCode.{Game}

-- an entry: the start of the program with its main class's name, or a call of any static method of a class
pub data Entry : Type 0 where
  Program : (main : List ℕ) → Entry
  Method : MemberReference → Entry

-- the descriptor of the method that the program starts with
abbrev pub main_descriptor : List ℕ
main_descriptor = codes "([Ljava/lang/String;)V"

-- the method that the entry calls
abbrev pub entry_method : Entry → MemberReference
entry_method (Program main) = record { owner = main; name = codes "main"; descriptor = main_descriptor }
entry_method (Method method) = method

-- an entry of the form: the program's start, or a call of a method that could stand in a class of it
abbrev pub IsFormEntry : Entry → Type 0
IsFormEntry (Program main) = Unit {0}
IsFormEntry (Method method) = IsPlainDescriptor Game method.descriptor

-- the code of the start frame, beside these classes: the call of a method, and `return`
abbrev pub start_code : List ClassShape → MemberReference → List Insn
start_code classes method =
    insns.Reference invokestatic method.owner method.name method.descriptor (names_interface classes method.owner)
    ∷ insns.Plain return ∷ []

-- what stands on the start frame's stack: the program's start has an array, and another entry's arguments are null
abbrev pub entry_arguments : Entry → List Value
entry_arguments (Program main) = Reference (Place 0) ∷ []
entry_arguments (Method method) =
    if bytes_eq method.descriptor main_descriptor then Reference Null ∷ [] else []

-- what is shared at first, where so many cells may be used: the array of no texts takes one, no class has begun, and
-- nothing was shown
abbrev pub entry_shared : Entry → ℕ → List Answer → Shared
entry_shared (Program main) most answers =
    record {
      heap = Array (codes "[Ljava/lang/String;") [] ∷ [];
      used = 1;
      most = most;
      begun = [];
      answers = answers;
      appeared = [];
    }
entry_shared (Method method) most answers =
    record { heap = []; used = 0; most = most; begun = []; answers = answers; appeared = [] }
