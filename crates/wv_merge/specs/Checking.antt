-- Type checking of plain code as a function: the state behind an instruction, where its row fits (JVM Specification
-- 4.10.1.9).
use Rattle.std.specs.Prelude.{◌≡◌, ℕ, ◌==◌, nat_le, Bool, true, false, ◌&&◌, ◌||◌, if◌then◌else◌, List, [], ◌∷◌, length, codes, bytes_eq, Option, Some, None, option_and_then, Result, Ok, Err}
use Rattle.wv_base.specs.declared.frame.VType.{VType}
use Rattle.wv_base.specs.declared.frame.VType.TheVariants as types
use Rattle.wv_base.specs.declared.insn.Insn.{Insn}
use Rattle.wv_base.specs.declared.insn.Insn.TheVariants as insns
use Rattle.wv_base.specs.Opcodes.{iconst_0, iconst_5, bipush, pop, iadd, imul, return, getstatic, invokevirtual, invokestatic}
use Rattle.wv_model.specs.PlainTyping.{Stack, print_stream}
use Rattle.wv_merge.specs.declared.fault.TypingFault.{TypingFault}
use Rattle.wv_merge.specs.declared.fault.TypingFault.TheVariants as faults
use Rattle.wv_merge.specs.declared.typing.Kind.{Kind}
use Rattle.wv_merge.specs.declared.typing.Kind.TheVariants as kinds

-- the state is the next one, or there is no next one; want of memory tells nothing
abbrev pub IsNext : {T : Type 0} → Result T TypingFault → Option Stack → Stack → Type 0
IsNext (Ok value) next state = next ≡ Some state
IsNext (Err faults.Untyped) next state = next ≡ None
IsNext (Err faults.Memory) next state = Unit {0}

-- the type of a kind
abbrev pub type_of : Kind → VType
type_of kinds.Int = types.Int
type_of kinds.Stream = print_stream

-- whether a type is that of the kind
abbrev pub is_of : Kind → VType → Bool
is_of kinds.Int types.Int = true
is_of kinds.Stream (types.Class name) = bytes_eq name (codes "java/io/PrintStream")
is_of kind type = false

-- the stack without its top, where that is of this kind
abbrev pub taken : Kind → Stack → Option Stack
taken kind [] = None
taken kind (top ∷ rest) = if is_of kind top then Some rest else None

-- the stack without its top
abbrev pub dropped : Stack → Option Stack
dropped [] = None
dropped (top ∷ rest) = Some rest

-- two ints are taken, and one is put
abbrev pub added : Stack → Option Stack
added stack =
    option_and_then (λ one. option_and_then (λ rest. Some (types.Int ∷ rest)) (taken kinds.Int one)) (taken kinds.Int stack)

-- an int is taken, and below it the print stream
abbrev pub printed : Stack → Option Stack
printed stack = option_and_then (taken kinds.Stream) (taken kinds.Int stack)

-- the state behind an instruction without operands
abbrev pub next_plain : ℕ → Stack → Option Stack
next_plain op stack =
    if nat_le iconst_0 op && nat_le op iconst_5 then Some (types.Int ∷ stack)
    else if op == iadd || op == imul then added stack
    else if op == pop then dropped stack
    else if op == return then Some stack
    else None

-- the state behind one that pushes a number
abbrev pub next_push : ℕ → Stack → Option Stack
next_push op stack = if op == bipush then Some (types.Int ∷ stack) else None

-- the state behind one that refers to a field or a method
abbrev pub next_reference : ℕ → Stack → Option Stack
next_reference op stack =
    if op == getstatic then Some (print_stream ∷ stack)
    else if op == invokevirtual then printed stack
    else if op == invokestatic then Some stack
    else None

-- the state behind an instruction
abbrev pub next : Insn → Stack → Option Stack
next (insns.Plain op) stack = next_plain op stack
next (insns.Push op value) stack = next_push op stack
next (insns.Reference op owner name descriptor interface) stack = next_reference op stack
next insn stack = None

-- whether each instruction has a next state within the declared stack
abbrev pub goes_on : ℕ → (Stack → Bool) → Option Stack → Bool
goes_on max_stack more None = false
goes_on max_stack more (Some after) = nat_le (length after) max_stack && more after

abbrev pub checks : ℕ → Stack → List Insn → Bool
checks max_stack stack [] = true
checks max_stack stack (insn ∷ insns) = goes_on max_stack (λ after. checks max_stack after insns) (next insn stack)

-- the check's answer, unless memory ran out
abbrev pub Answers : {T : Type 0} → Result T TypingFault → Bool → Type 0
Answers (Ok value) holds = holds ≡ true
Answers (Err faults.Untyped) holds = holds ≡ false
Answers (Err faults.Memory) holds = Unit {0}
