-- Type checking of plain code (JVM Specification 4.10.1): a typing is a list of states.
use Rattle.std.specs.Prelude.{◌≡◌, ℕ, ℤ, ◌≤◌, Bool, List, [], ◌∷◌, ◌++◌, length, codes, ◌⊎◌}
use Rattle.std.specs.List.{AllByRecursion, AllZip, zip}
use Rattle.wv_base.specs.declared.class_file.Body.{Body}
use Rattle.wv_base.specs.declared.frame.VType.{VType}
use Rattle.wv_base.specs.declared.frame.VType.TheVariants as types
use Rattle.wv_base.specs.declared.insn.Insn.{Insn}
use Rattle.wv_base.specs.declared.insn.Insn.TheVariants as insns
use Rattle.wv_base.specs.Opcodes.{iconst_0, iconst_5, bipush, pop, iadd, imul, return, getstatic, invokevirtual, invokestatic}
use Rattle.wv_base.specs.Descriptor.{HasWords}

-- the state at an instruction of plain code: the types on the operand stack, top first, each one word (4.10.1.4)
abbrev pub Stack : Type 0
Stack = List VType

-- the type of `System.out`
abbrev pub print_stream : VType
print_stream = types.Class (codes "java/io/PrintStream")

-- what an instruction of plain code takes from the stack and what it puts there, top first (4.10.1.9)
pub data Row : Insn → Stack → Stack → Type 0 where
  iconst : {op : ℕ} → iconst_0 ≤ op → op ≤ iconst_5 → Row (insns.Plain op) [] (types.Int ∷ [])
  push : {op : ℕ} {value : ℤ} → op ≡ bipush → Row (insns.Push op value) [] (types.Int ∷ [])
  arithmetic : {op : ℕ} → (op ≡ iadd) ⊎ (op ≡ imul) → Row (insns.Plain op) (types.Int ∷ types.Int ∷ []) (types.Int ∷ [])
  dropped : {op : ℕ} {top : VType} → op ≡ pop → Row (insns.Plain op) (top ∷ []) []
  returned : {op : ℕ} → op ≡ return → Row (insns.Plain op) [] []
  read_out : {op : ℕ} {owner name descriptor : List ℕ} {interface : Bool} → op ≡ getstatic → Row (insns.Reference op owner name descriptor interface) [] (print_stream ∷ [])
  printed : {op : ℕ} {owner name descriptor : List ℕ} {interface : Bool} → op ≡ invokevirtual → Row (insns.Reference op owner name descriptor interface) (types.Int ∷ print_stream ∷ []) []
  called : {op : ℕ} {owner name descriptor : List ℕ} {interface : Bool} → op ≡ invokestatic → Row (insns.Reference op owner name descriptor interface) [] []

-- an instruction leads from one state to the next: what its row takes is on top, and what it puts stands in its place
pub record Leads (insn : Insn) (before after : Stack) : Type 0 where
  pub taken : Stack
  pub put : Stack
  pub rest : Stack
  pub row : Row insn taken put
  pub from : before ≡ taken ++ rest
  pub to : after ≡ put ++ rest

-- a typing of instructions: the stack is empty at the first, each leads from its state to the next one, and each state
-- is within the declared stack (4.10.1.6)
pub record HasTyping (max_stack : ℕ) (insns : List Insn) : Type 0 where
  -- the states behind the instructions
  pub later : List Stack
  pub leads : AllZip (λ insn states. Leads insn states.0 states.1) insns (zip ([] ∷ later) later)
  pub within : AllByRecursion (λ stack. length stack ≤ max_stack) later

-- the code of a static method with this descriptor verifies: it has a typing, and the words of the parameters are
-- within the declared locals (4.10.1.6)
pub record Verifies (descriptor : List ℕ) (body : Body) : Type 0 where
  pub typing : HasTyping body.max_stack body.insns
  pub words : ℕ
  pub parameters : HasWords descriptor words
  pub locals : words ≤ body.max_locals
