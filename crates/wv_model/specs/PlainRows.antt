-- The rows of the fourteen instructions of plain code, which both machines share (JVM Specification 6.5).
use Rattle.std.specs.Prelude.{ℕ, ℤ, pos, ◌-◌, ◌==◌, nat_le, Bool, true, false, ◌&&◌, ◌||◌, if◌then◌else◌, List, [], ◌∷◌, ◌++◌, map, codes, bytes_eq, Option, Some, None}
use Rattle.std.specs.Fmt.{signed_decimal}
use Rattle.std.specs.Int.{w32, int_wrapping_add, int_wrapping_mul}
use Rattle.std.specs.List.{list_any}
use Rattle.wv_base.specs.declared.constant.MemberReference.{MemberReference}
use Rattle.wv_base.specs.declared.insn.Insn.{Insn}
use Rattle.wv_base.specs.declared.insn.Insn.TheVariants as insns
use Rattle.wv_base.specs.Opcodes.{iconst_0, iconst_5, bipush, pop, iadd, imul, return, getstatic, invokevirtual, invokestatic}
use Rattle.wv_model.specs.Effect.{Effect, Next, Call, Give, Init, End, Stuck, Row}
use Rattle.wv_model.specs.FormDomain.{Value, Int, Reference, SystemOut, MethodId, At, Shared, Byte, Unlinked, form}
use Rattle.wv_model.specs.Linking.{ClassShape, MethodShape, class_named, method_named, names_interface, is_static}
use Rattle.wv_model.specs.Outside.{outside_row}
use Rattle.wv_model.specs.Platform.{callbacks, is_platform_interface}
use Rattle.wv_model.specs.PlainCode.{system_out, println}

-- the row of an instruction that shows nothing; no instruction of plain code changes a local
abbrev pub quiet : List Value → Effect form → Row form
quiet locals effect = record { locals = locals; shown = []; effect = effect }

-- the top of the stack is dropped (pop)
abbrev pub dropped : List Value → Shared → Effect form
dropped [] shared = Stuck
dropped (top ∷ stack) shared = Next stack shared

-- two ints are taken, the right one from the top, and what the operation gives is put (iadd, imul)
abbrev pub combined : (ℤ → ℤ → ℤ) → List Value → Shared → Effect form
combined operation (Int right ∷ Int left ∷ stack) shared = Next (Int (operation left right) ∷ stack) shared
combined operation _ shared = Stuck

-- the instructions without operands: constants, drops, sums and products in 32 bits, and the return without a value
abbrev pub plain_effect : ℕ → List Value → Shared → Effect form
plain_effect op stack shared =
    if nat_le iconst_0 op && nat_le op iconst_5 then Next (Int (pos (op - iconst_0)) ∷ stack) shared
    else if op == pop then dropped stack shared
    else if op == iadd then combined (int_wrapping_add w32) stack shared
    else if op == imul then combined (int_wrapping_mul w32) stack shared
    else if op == return then Give None shared
    else Stuck

-- the int that stands in the code is pushed (bipush)
abbrev pub push_effect : ℕ → ℤ → List Value → Shared → Effect form
push_effect op value stack shared = if op == bipush then Next (Int value ∷ stack) shared else Stuck

-- whether a reference is this one
abbrev pub is_reference : MemberReference → MemberReference → Bool
is_reference first second =
    bytes_eq first.owner second.owner && bytes_eq first.name second.name && bytes_eq first.descriptor second.descriptor

-- `System.out` is pushed (getstatic)
abbrev pub field_effect : MemberReference → List Value → Shared → Effect form
field_effect field stack shared =
    if is_reference field system_out then Next (Reference SystemOut ∷ stack) shared else Stuck

-- an int is printed in decimal, and a line feed behind it
abbrev pub println_row : List Value → List Value → Shared → Row form
println_row locals (Int number ∷ Reference SystemOut ∷ stack) shared =
    record {
      locals = locals;
      shown = map (λ byte. Byte byte) (signed_decimal number ++ (0x0A ∷ []));
      effect = Next stack shared;
    }
println_row locals _ shared = quiet locals Stuck

-- `PrintStream.println` of an int (invokevirtual)
abbrev pub virtual_row : MemberReference → List Value → List Value → Shared → Row form
virtual_row method locals stack shared =
    if is_reference method println then println_row locals stack shared else quiet locals Stuck

-- the arguments of a method with this descriptor, and the stack below them; plain methods have one argument or none
abbrev pub taken_argument : List Value → Option (List Value × List Value)
taken_argument [] = None
taken_argument (argument ∷ stack) = Some (argument ∷ [], stack)

abbrev pub arguments : List ℕ → List Value → Option (List Value × List Value)
arguments descriptor stack =
    if bytes_eq descriptor (codes "()V") then Some ([], stack)
    else if bytes_eq descriptor (codes "([Ljava/lang/String;)V") then taken_argument stack
    else None

-- the method is called with its arguments
abbrev pub called : MethodId → Option (List Value × List Value) → Shared → Effect form
called method None shared = Stuck
called method (Some (taken, stack)) shared = Call method taken stack shared

-- an instruction that needs a class initialized: where that hasn't begun, the step marks it as begun, and the
-- instruction follows (5.5). The superclass is the platform's, which is initialized, and there is no initializer
abbrev pub once_begun : ℕ → Effect form → Shared → Effect form
once_begun class effect shared =
    if list_any (λ begun. begun == class) shared.begun then effect
    else Init None (record shared { begun = class ∷ shared.begun })

-- the call of the method that was found in the class: it must be there and be static (invokestatic)
abbrev pub found_effect : MemberReference → ℕ → Option (ℕ × MethodShape) → List Value → Shared → Effect form
found_effect method class None stack shared = End (Unlinked method.owner) shared
found_effect method class (Some (place, shape)) stack shared =
    if is_static shape then once_begun class (called (At class place) (arguments method.descriptor stack) shared) shared
    else End (Unlinked method.owner) shared

-- a call of a method that is outside, with its arguments
abbrev pub outside_call : List ClassShape → MemberReference → Option (List Value × List Value) → List Value → Shared → Row form
outside_call classes method None locals shared = quiet locals Stuck
outside_call classes method (Some (taken, stack)) locals shared = outside_row classes method taken locals stack shared

-- the built-in methods without parameters and result: each needs an object
abbrev pub built_in : List MemberReference
built_in =
    record { owner = codes "java/io/PrintStream"; name = codes "println"; descriptor = codes "()V" }
    ∷ record { owner = callbacks ++ codes "CallbackInfo"; name = codes "cancel"; descriptor = codes "()V" }
    ∷ record { owner = callbacks ++ codes "CallbackInfoReturnable"; name = codes "cancel"; descriptor = codes "()V" }
    ∷ []

-- whether a reference by a class's name finds no static method outside: its name is an interface's of the platform, or the
-- method is built in
abbrev pub finds_no_static : MemberReference → Bool
finds_no_static method = is_platform_interface method.owner || list_any (is_reference method) built_in

-- the call of a method by the class of its name, if that is of the list. Of the platform's classes, of arrays and of open
-- names every other method is found, and is outside
abbrev pub static_row : List ClassShape → MemberReference → Option (ℕ × ClassShape) → List Value → List Value → Shared → Row form
static_row classes method (Some (class, shape)) locals stack shared =
    quiet locals (found_effect method class (method_named shape method.name method.descriptor) stack shared)
static_row classes method None locals stack shared =
    if finds_no_static method then quiet locals (End (Unlinked method.owner) shared)
    else outside_call classes method (arguments method.descriptor stack) locals shared

-- the instructions with a reference to a field or to a method of a class
abbrev pub reference_row : List ClassShape → ℕ → MemberReference → List Value → List Value → Shared → Row form
reference_row classes op reference locals stack shared =
    if op == getstatic then quiet locals (field_effect reference stack shared)
    else if op == invokevirtual then virtual_row reference locals stack shared
    else if op == invokestatic
    then static_row classes reference (class_named classes reference.owner) locals stack shared
    else quiet locals Stuck

-- the call of a method of an interface, which only a start frame has: of the platform's every one is found, and is outside
abbrev pub interface_row : List ClassShape → ℕ → MemberReference → List Value → List Value → Shared → Row form
interface_row classes op reference locals stack shared =
    if op == invokestatic && names_interface classes reference.owner
    then outside_call classes reference (arguments reference.descriptor stack) locals shared
    else quiet locals Stuck

-- the row of an instruction, over these classes; an instruction that isn't plain has none
abbrev pub insn_row : List ClassShape → Insn → List Value → List Value → Shared → Row form
insn_row classes (insns.Plain op) locals stack shared = quiet locals (plain_effect op stack shared)
insn_row classes (insns.Push op value) locals stack shared = quiet locals (push_effect op value stack shared)
insn_row classes (insns.Reference op owner name descriptor false) locals stack shared =
    reference_row classes op (record { owner = owner; name = name; descriptor = descriptor }) locals stack shared
insn_row classes (insns.Reference op owner name descriptor true) locals stack shared =
    interface_row classes op (record { owner = owner; name = name; descriptor = descriptor }) locals stack shared
insn_row classes _ locals stack shared = quiet locals Stuck

-- the row at a place of code, if there is an instruction
abbrev pub row_at : List ClassShape → Option Insn → List Value → List Value → Shared → Row form
row_at classes None locals stack shared = quiet locals Stuck
row_at classes (Some insn) locals stack shared = insn_row classes insn locals stack shared
