-- The hook machine: what unwoven classes do under their mixins. It moves no code and writes none. Our own.
use Rattle.std.specs.Prelude.{ℕ, suc, zero, ◌&&◌, Bool, List, [], map, bytes_eq, Option, Some, None, unwrap_or, slice_get, option_map}
use Rattle.std.specs.List.{find}
use Rattle.wv_base.specs.declared.class_file.ClassFile.{ClassFile}
use Rattle.wv_base.specs.declared.class_file.Member.{Member}
use Rattle.wv_base.specs.declared.insn.Insn.{Insn}
use Rattle.wv_model.specs.Control.{Control}
use Rattle.wv_model.specs.Machine.{Machine, Run, run}
use Rattle.wv_model.specs.Step.{State, machine, start}
use Rattle.wv_model.specs.FormDomain.{MethodId, Start, At, Piece, Ending, Answer, form, form_rules}
use Rattle.wv_model.specs.Linking.{ClassShape, MethodShape, method_shape}
use Rattle.wv_model.specs.PlainRows.{row_at}
use Rattle.wv_model.specs.PlainMachine.{item, code_of, answered_stack, frame_at}
use Rattle.wv_model.specs.Entries.{Entry, entry_method, entry_arguments, entry_shared, start_code}
use Rattle.wv_model.specs.MemberTable.{Applied, mixin_of, read_in_target}

-- whose code it is: the class's own, or that of the mixin with this name, read in its target
pub data Origin : Type 0 where
  Own : Origin
  OfMixin : (mixin target : List ℕ) → Origin

-- code as it was read, with its origin
pub record Script : Type 0 where
  pub origin : Origin
  pub code : List Insn

-- a member of a class under its mixin: what it looks like from outside, and its code
pub record TableMember : Type 0 where
  pub shape : MethodShape
  pub script : Script

-- whether two methods have one name and descriptor
abbrev pub is_same : Member → Member → Bool
is_same first second = bytes_eq first.name second.name && bytes_eq first.descriptor second.descriptor

-- code of a class's own
abbrev pub own_script : List Insn → Script
own_script code = record { origin = Own; code = code }

-- the code at the place of a method: that of the mixin's method which overwrites it, or its own (Mixin 0.8.5,
-- @Overwrite)
abbrev pub overwriting_script : Applied → Member → Option Member → Script
overwriting_script mixin method None = own_script (code_of method)
overwriting_script mixin method (Some overwriting) =
    record { origin = OfMixin mixin.name mixin.target; code = code_of overwriting }

abbrev pub script_for : Option Applied → Member → Script
script_for None method = own_script (code_of method)
script_for (Some mixin) method = overwriting_script mixin method (find (is_same method) mixin.methods)

abbrev pub table_member : Option Applied → Member → TableMember
table_member mixin method = record { shape = method_shape method; script = script_for mixin method }

-- the members of a class under its mixin, if it has one: those of the class, in their order
abbrev pub member_table : List Applied → ClassFile → List TableMember
member_table mixins class = map (table_member (mixin_of mixins class)) class.methods

-- a class as it is seen from outside
abbrev pub hooked_shape : List Applied → ClassFile → ClassShape
hooked_shape mixins class =
    record { name = class.name; methods = map (λ member. member.shape) (member_table mixins class) }

-- the code of the members of a class
abbrev pub class_scripts : List Applied → ClassFile → List Script
class_scripts mixins class = map (λ member. member.script) (member_table mixins class)

-- the code of a method, given the classes from outside and the code of each method of each
abbrev pub script_in : List ClassShape → List (List Script) → MethodId → Script
script_in classes scripts (Start method) = own_script (start_code classes method)
script_in classes scripts (At class place) = unwrap_or (slice_get (item scripts class) place) (own_script [])

-- the code of a method of these classes under the mixins
abbrev pub script_of : List ClassFile → List Applied → MethodId → Script
script_of classes mixins method =
    script_in (map (hooked_shape mixins) classes) (map (class_scripts mixins) classes) method

-- a point of a method: its entry, or before, at or after an instruction
pub data Point : Type 0 where
  Entering : Point
  Before : ℕ → Point
  Here : ℕ → Point
  After : ℕ → Point

-- the instruction that runs next from a point; no point of this form has an action
abbrev pub insn_at : Point → ℕ
insn_at Entering = zero
insn_at (Before i) = i
insn_at (Here i) = i
insn_at (After i) = suc i

-- what an instruction means: a class's name in a mixin's code is read as it is run, and in own code it means itself
abbrev pub meant : Origin → Insn → Insn
meant Own insn = insn
meant (OfMixin mixin target) insn = read_in_target mixin target insn

-- the instruction that runs at a point
abbrev pub running : Script → Point → Option Insn
running script point = option_map (meant script.origin) (slice_get script.code (insn_at point))

abbrev pub hooked : List ClassShape → (MethodId → Script) → Control form Point
hooked classes script =
    record {
      effect = λ frame shared. row_at classes (running (script frame.method) frame.place) frame.locals frame.stack shared;
      next = λ frame. record frame { place = After (insn_at frame.place) };
      jump = λ k frame. frame;
      enter = λ method arguments. frame_at method Entering arguments [];
      result = λ method value. value;
      answer = λ method value frame. record frame { place = After (insn_at frame.place); stack = answered_stack value frame.stack };
      catch = λ thrown shared frame. None;
      left = λ frame shared. shared;
      ended = λ ending shared. shared;
    }

-- the hook machine of classes, of which none is a class mixin, and the mixins that are applied to them
abbrev pub hook_control : List ClassFile → List Applied → Control form Point
hook_control classes mixins = hooked (map (hooked_shape mixins) classes) (script_of classes mixins)

abbrev pub hook_machine : List ClassFile → List Applied → Machine (State form Point) Piece Ending
hook_machine classes mixins = machine form_rules (hook_control classes mixins)

-- its first state for an entry, with so many cells and these answers
abbrev pub hook_start : Entry → ℕ → List Answer → State form Point
hook_start entry most answers =
    start (frame_at (Start (entry_method entry)) Entering [] (entry_arguments entry)) (entry_shared entry most answers)

-- the run of at most n steps
abbrev pub run_hooked : List ClassFile → List Applied → Entry → ℕ → List Answer → ℕ → Run Piece Ending
run_hooked classes mixins entry most answers n = run (hook_machine classes mixins) n (hook_start entry most answers)
