-- What the written classes of the form mean: they correspond to the unwoven classes under their mixins. Our own.
use Rattle.std.specs.Prelude.{◌≡◌, ℕ, List}
use Rattle.std.specs.List.{AllByRecursion, AllZip}
use Rattle.wv_base.specs.declared.class_file.ClassFile.{ClassFile}
use Rattle.wv_model.specs.Corresponds.{Corresponds}
use Rattle.wv_model.specs.Frame.{Frame}
use Rattle.wv_model.specs.FrameRelation.{FrameRelation, OneShared}
use Rattle.wv_model.specs.Lifted.{Lifted}
use Rattle.wv_model.specs.Simulates.{Numbered}
use Rattle.wv_model.specs.Step.{State}
use Rattle.wv_model.specs.FormDomain.{Value, MethodId, Shared, Answer, form}
use Rattle.wv_model.specs.Entries.{Entry}
use Rattle.wv_model.specs.MemberTable.{Applied, Becomes, HasOneMethod}
use Rattle.wv_model.specs.PlainMachine.{frame_at, plain_machine, plain_start}
use Rattle.wv_model.specs.HookMachine.{Point, insn_at, hook_machine, hook_start}

-- written classes do what the unwoven ones do under the mixins, for every entry, bound on cells and list of answers
abbrev pub MeansHooked : List ClassFile → List Applied → List ClassFile → Type 0
MeansHooked classes mixins written =
    (entry : Entry) (most : ℕ) (answers : List Answer) → Corresponds (plain_machine written) (plain_start entry most answers) (hook_machine classes mixins) (hook_start entry most answers)

-- classes, mixins of one method each, and what the classes become under them
pub record AreWritten (classes : List ClassFile) (mixins : List Applied) (written : List ClassFile) : Type 0 where
  pub single : AllByRecursion (λ mixin. HasOneMethod mixin.methods) mixins
  pub each : AllZip (Becomes mixins) classes written

-- two frames of a method whose next instruction is the same one, with the same locals and stack; the number is 0, since
-- each step of the written class stands for one of the hook machine
pub data AtSamePoint : Shared → MethodId → ℕ → Frame form ℕ → Frame form Point → Type 0 where
  at_same_point : {shared : Shared} {method : MethodId} {point : Point} {locals stack : List Value} → AtSamePoint shared method 0 (frame_at method (insn_at point) locals stack) (frame_at method point locals stack)

-- the relation of frames. What is shared is the same in both machines
abbrev pub form_relation : FrameRelation form ℕ Point
form_relation =
    record {
      World = Shared;
      Later = λ shared later. Unit {0};
      Alike = OneShared;
      Runs = AtSamePoint;
      Waits = λ shared method called f g. AtSamePoint shared method 0 f g;
      Given = λ shared method value value'. value ≡ value';
      Thrown = λ shared thrown thrown'. thrown ≡ thrown';
    }

-- the relation of states, with the number of steps that the written class may take ahead of the hook machine's next
abbrev pub FormRel : Numbered (State form ℕ) (State form Point)
FormRel = Lifted form_relation
