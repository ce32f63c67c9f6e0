-- The table of instructions: how each opcode's operands are spelled, and its kind (JVM Specification,
-- chapters 6 and 7). jsr, jsr_w, ret and the reserved opcodes are no instructions here.
use Rattle.std.specs.Prelude.{ℕ, nat_le, if◌then◌else◌, Option, Some, None}
use Rattle.wv_base.specs.declared.form.Form.{Form}
use Rattle.wv_base.specs.declared.form.Form.TheVariants.{Plain, Byte, Short, Constant, WideConstant, Local, Increment, Branch, WideBranch, Table, Lookup, Reference, Interface, Dynamic, Class, Array, MultiArray, Wide}
use Rattle.wv_base.specs.Opcodes.{dconst_1, bipush, sipush, ldc, ldc2_w, aload, saload, astore, sastore, swap, lxor, iinc, i2s, dcmpg, if_acmpne, goto, ret, tableswitch, lookupswitch, return, invokestatic, invokeinterface, invokedynamic, new, newarray, anewarray, athrow, instanceof, monitorexit, wide, multianewarray, ifnonnull, goto_w, jsr_w}

-- the form of the operands behind an opcode, where an instruction has it; each line goes up to the
-- opcode that it names (6.5, "Format")
unfoldable pub form_of : ℕ → Option Form
form_of op =
    if nat_le op dconst_1 then Some Plain
    else if nat_le op bipush then Some Byte
    else if nat_le op sipush then Some Short
    else if nat_le op ldc then Some Constant
    else if nat_le op ldc2_w then Some WideConstant
    else if nat_le op aload then Some Local
    else if nat_le op saload then Some Plain
    else if nat_le op astore then Some Local
    else if nat_le op lxor then Some Plain
    else if nat_le op iinc then Some Increment
    else if nat_le op dcmpg then Some Plain
    else if nat_le op goto then Some Branch
    else if nat_le op ret then None
    else if nat_le op tableswitch then Some Table
    else if nat_le op lookupswitch then Some Lookup
    else if nat_le op return then Some Plain
    else if nat_le op invokestatic then Some Reference
    else if nat_le op invokeinterface then Some Interface
    else if nat_le op invokedynamic then Some Dynamic
    else if nat_le op new then Some Class
    else if nat_le op newarray then Some Array
    else if nat_le op anewarray then Some Class
    else if nat_le op athrow then Some Plain
    else if nat_le op instanceof then Some Class
    else if nat_le op monitorexit then Some Plain
    else if nat_le op wide then Some Wide
    else if nat_le op multianewarray then Some MultiArray
    else if nat_le op ifnonnull then Some Branch
    else if nat_le op goto_w then Some WideBranch
    else None

-- the groups of the opcode table (chapter 7)
pub data Kind : Type 0 where
  Constants : Kind
  Loads : Kind
  Stores : Kind
  Stack : Kind
  Math : Kind
  Conversions : Kind
  Comparisons : Kind
  Control : Kind
  References : Kind
  Extended : Kind
  Reserved : Kind

-- the group of an opcode (chapter 7)
unfoldable pub kind_of : ℕ → Kind
kind_of op =
    if nat_le op ldc2_w then Constants
    else if nat_le op saload then Loads
    else if nat_le op sastore then Stores
    else if nat_le op swap then Stack
    else if nat_le op iinc then Math
    else if nat_le op i2s then Conversions
    else if nat_le op if_acmpne then Comparisons
    else if nat_le op return then Control
    else if nat_le op monitorexit then References
    else if nat_le op jsr_w then Extended
    else Reserved
