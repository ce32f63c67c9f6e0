-- The written classes of the form correspond to the unwoven ones under their mixins.
use Rattle.std.proofs.Common.{◌≡◌, ℕ, List, [], map, None, refl, sym, subst, inl, arith}
use Rattle.std.specs.List.{AllByRecursion}
use Rattle.wv_base.specs.declared.class_file.ClassFile.{ClassFile}
use Rattle.wv_model.specs.PlainMethod.{HasPlainMethods}
use Rattle.wv_model.specs.Simulates.{Follows, SimulatesWithin}
use Rattle.wv_model.specs.Corresponds.{steps_for_one}
use Rattle.wv_model.specs.FrameLaws.{FrameLaws}
use Rattle.wv_model.specs.FrameRelation.{one_shared}
use Rattle.wv_model.specs.Lifted.{none_below, running}
use Rattle.wv_model.specs.FirstMeaning.{AreWritten, MeansHooked, FormRel, at_same_point, form_relation}
use Rattle.wv_model.specs.Entries.{Entry, IsFormEntry, entry_arguments, entry_method, entry_shared}
use Rattle.wv_model.specs.FormDomain.{Start, Answer, form, form_rules}
use Rattle.wv_model.specs.HookMachine.{Entering, hook_control, hook_machine, hook_start, run_hooked, Point, script_of, hooked_shape}
use Rattle.wv_model.specs.MemberTable.{Applied}
use Rattle.wv_model.specs.PlainMachine.{body_of, frame_at, plain, plain_control, plain_machine, plain_start, run_plain}
use Rattle.wv_model.specs.Machine.{after}
use Rattle.wv_model.specs.Step.{State}
use Rattle.wv_model.specs.Typing.{IsStuck}
use Rattle.wv_model.proofs.FormFrames.{form_laws}
use Rattle.wv_model.proofs.HookedTable.{same_body, same_shapes}
use Rattle.wv_model.proofs.Corresponds.{follows}
use Rattle.wv_model.proofs.HookSafety.{sticks_alike}
use Rattle.wv_model.proofs.Lockstep.{same_runs, stay_together}
use Rattle.wv_model.proofs.PlainSafety.{goes_on}
use Rattle.wv_model.proofs.Lift.{lifts, starts_correspond}

pub start_related : (entry : Entry) (most : ℕ) (answers : List Answer) → FormRel 0 (plain_start entry most answers) (hook_start entry most answers)
start_related entry most answers =
    let shared = entry_shared entry most answers in
    record { same_trace = refl; either = inl (record { first_goes = refl; second_goes = refl; world = shared; alike = one_shared; frames = running at_same_point none_below }) }

module _ (classes : List ClassFile) (mixins : List Applied) (written : List ClassFile) (are : AreWritten classes mixins written) where
  -- the laws on single frames, for the written classes and the unwoven ones under the mixins
  pub written_laws : FrameLaws steps_for_one form_rules (plain_control written) (hook_control classes mixins) form_relation
  written_laws =
      subst (λ shapes. FrameLaws steps_for_one form_rules (plain shapes (body_of written)) (hook_control classes mixins) form_relation) (sym (same_shapes mixins are.single classes written are.each)) (form_laws (map (hooked_shape mixins) classes) (body_of written) (script_of classes mixins) (same_body mixins are.single classes written are.each) steps_for_one (omega arith))

  pub written_correspond : MeansHooked classes mixins written
  written_correspond entry most answers =
      let shared = entry_shared entry most answers in
      let method = Start (entry_method entry) in
      starts_correspond steps_for_one form_rules (plain_control written) (hook_control classes mixins) form_relation written_laws (omega arith) shared method 0 (frame_at method 0 [] (entry_arguments entry)) (frame_at method Entering [] (entry_arguments entry)) shared shared one_shared at_same_point

  pub written_steps : SimulatesWithin steps_for_one (plain_machine written) (hook_machine classes mixins) FormRel
  written_steps =
      lifts steps_for_one form_rules (plain_control written) (hook_control classes mixins) form_relation written_laws (omega arith)

  pub written_together : (entry : Entry) (most : ℕ) (answers : List Answer) (n : ℕ) → run_plain written entry most answers n ≡ run_hooked classes mixins entry most answers n
  written_together entry most answers n =
      same_runs (plain_machine written) (hook_machine classes mixins) written_steps n (plain_start entry most answers) (hook_start entry most answers) (start_related entry most answers)

  pub written_follow : (n : ℕ) (s : State form ℕ) (t : State form Point) → FormRel n s t → t.ending ≡ None → Follows steps_for_one (plain_machine written) (hook_machine classes mixins) FormRel s t
  written_follow n s t related going =
      follows steps_for_one (plain_machine written) (hook_machine classes mixins) FormRel written_steps n s t going related

  pub hook_goes_on : AllByRecursion HasPlainMethods written → (entry : Entry) → IsFormEntry entry → (most : ℕ) (answers : List Answer) (n : ℕ) → IsStuck (hook_control classes mixins) (after (hook_machine classes mixins) n (hook_start entry most answers)) → ⊥
  hook_goes_on plain entry fits most answers n stuck =
      let s = after (plain_machine written) n (plain_start entry most answers) in
      let t = after (hook_machine classes mixins) n (hook_start entry most answers) in
      let related = stay_together (plain_machine written) (hook_machine classes mixins) written_steps n (plain_start entry most answers) (hook_start entry most answers) (start_related entry most answers) in
      goes_on written plain entry fits most answers n (sticks_alike (plain_control written) (hook_control classes mixins) written_laws 0 s t related stuck)
