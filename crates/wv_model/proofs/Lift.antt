-- From the frames of a thread to the states of two machines.
use Rattle.std.proofs.Common.{◌≡◌, ℕ, zero, ◌<◌, ◌⊎◌, List, ◌++◌, None, refl, sym, ap, ◌∙◌, subst, inl, inr}
use Rattle.std.proofs.lemmas.List.{append-nil}
use Rattle.wv_model.specs.Domain.{Domain}
use Rattle.wv_model.specs.Machine.{Grows}
use Rattle.wv_model.specs.Simulates.{Lowers, Matches, SimulatesWithin}
use Rattle.wv_model.specs.Corresponds.{CorrespondsWithin}
use Rattle.wv_model.specs.Frame.{Frame}
use Rattle.wv_model.specs.Control.{Control, Rules}
use Rattle.wv_model.specs.Step.{State, turn, machine, start}
use Rattle.wv_model.specs.FrameRelation.{FrameRelation}
use Rattle.wv_model.specs.FrameLaws.{FrameLaws}
use Rattle.wv_model.specs.Lifted.{none_below, RelatedFrames, running, throwing, QuietTurn, TurnsAgree, GoOn, HaveEnded, Lifted}
use Rattle.wv_model.proofs.Runs.{same_with_more}
use Rattle.wv_model.proofs.Turns.{turns_agree}
use Rattle.wv_model.proofs.Corresponds as Law

-- the driver only adds to the trace
pub machine_grows : {D : Domain} {P : Type 0} (rules : Rules D) (control : Control D P) → Grows (machine rules control)
machine_grows rules control state = ((turn rules control state.frames state.shared).shown, refl)

module _ (factor : ℕ) {D : Domain} {P Q : Type 0} (rules : Rules D) (first : Control D P) (second : Control D Q) (R : FrameRelation D P Q) (law : FrameLaws factor rules first second R) where
  pub frames_below : {w : R.World} {n : ℕ} {fs : List (Frame D P)} {gs : List (Frame D Q)} → 0 < factor → RelatedFrames R w n fs gs → n < factor
  frames_below some (running runs waiting) = law.below _ _ _ _ _ runs
  frames_below some (throwing waits throws waiting) = some

  number_below : (n : ℕ) (s : State D P) (t : State D Q) → 0 < factor → GoOn R n s t ⊎ HaveEnded n s t → n < factor
  number_below n s t some (inl both) = frames_below some both.frames
  number_below n s t some (inr both) = subst (λ m. m < factor) (sym both.none_left) some

  endings_alike : (n : ℕ) (s : State D P) (t : State D Q) → GoOn R n s t ⊎ HaveEnded n s t → s.ending ≡ t.ending
  endings_alike n s t (inl both) = both.first_goes ∙ sym both.second_goes
  endings_alike n s t (inr both) = both.first_ended ∙ sym both.second_ended

  quiet_step : (n : ℕ) (s : State D P) (t : State D Q) (w : R.World) → s.trace ≡ t.trace → t.ending ≡ None → QuietTurn R w n (turn rules first s.frames s.shared) t.frames t.shared → Lowers (machine rules first) (Lifted R) n s t
  quiet_step n s t w same going quiet =
      let trace : s.trace ++ (turn rules first s.frames s.shared).shown ≡ t.trace = ap (λ shown. s.trace ++ shown) quiet.unseen ∙ append-nil s.trace ∙ same in
      (quiet.number, quiet.fewer, record { same_trace = trace; either = inl (record { first_goes = quiet.goes; second_goes = going; world = quiet.world; alike = quiet.alike; frames = quiet.frames }) })

  joint_step : (s : State D P) (t : State D Q) (w : R.World) → s.trace ≡ t.trace → TurnsAgree R w (turn rules first s.frames s.shared) (turn rules second t.frames t.shared) → Matches (machine rules first) (machine rules second) (Lifted R) s t
  joint_step s t w same (shown, inl both) =
      (both.number, record { same_trace = same_with_more _ _ _ _ same shown; either = inl (record { first_goes = both.first_goes; second_goes = both.second_goes; world = both.world; alike = both.alike; frames = both.frames }) })
  joint_step s t w same (shown, inr both) =
      (zero, record { same_trace = same_with_more _ _ _ _ same shown; either = inr (record { none_left = refl; ending = both.ending; first_ended = both.first_ends; second_ended = both.second_ends }) })

  moves : (n : ℕ) (s : State D P) (t : State D Q) → s.trace ≡ t.trace → GoOn R n s t ⊎ HaveEnded n s t → s.ending ≡ None → Lowers (machine rules first) (Lifted R) n s t ⊎ Matches (machine rules first) (machine rules second) (Lifted R) s t
  moves n s t same (inl both) going =
      elim (turns_agree factor rules first second R law both.world n s.frames t.frames s.shared t.shared both.alike both.frames) [
        | inl quiet ↦ inl (quiet_step n s t both.world same both.second_goes quiet)
        | inr agree ↦ inr (joint_step s t both.world same agree)
      ]
  moves n s t same (inr both) going = let ended = both.first_ended in absurd (cc (ended, going))

  -- the laws on single frames give a simulation of whole states
  pub lifts : 0 < factor → SimulatesWithin factor (machine rules first) (machine rules second) (Lifted R)
  lifts some =
      record {
        below = λ n s t lifted. number_below n s t some lifted.either;
        same_trace = λ n s t lifted. lifted.same_trace;
        same_ending = λ n s t lifted. endings_alike n s t lifted.either;
        moves = λ n s t lifted going. moves n s t lifted.same_trace lifted.either going;
      }

  -- and so runs from related start frames correspond
  pub starts_related : (w : R.World) (method : D.Method) (n : ℕ) (f : Frame D P) (g : Frame D Q) (h k : D.Shared) → R.Alike w h k → R.Runs w method n f g → Lifted R n (start f h) (start g k)
  starts_related w method n f g h k alike runs =
      record { same_trace = refl; either = inl (record { first_goes = refl; second_goes = refl; world = w; alike = alike; frames = running runs none_below }) }

  pub starts_correspond : 0 < factor → (w : R.World) (method : D.Method) (n : ℕ) (f : Frame D P) (g : Frame D Q) (h k : D.Shared) → R.Alike w h k → R.Runs w method n f g → CorrespondsWithin factor (machine rules first) (start f h) (machine rules second) (start g k)
  starts_correspond some w method n f g h k alike runs =
      Law.corresponds factor (machine rules first) (machine rules second) (Lifted R) (lifts some) n (start f h) (start g k) (starts_related w method n f g h k alike runs) (machine_grows rules first) (machine_grows rules second)
