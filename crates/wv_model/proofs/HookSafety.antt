-- Where the plain machine isn't stuck, the hook machine isn't.
use Rattle.std.proofs.Common.{◌≡◌, ℕ, ◌⊎◌, List, Option, Some, None, refl, subst, arith, inl, inr}
use Rattle.wv_model.specs.Control.{Control}
use Rattle.wv_model.specs.Corresponds.{steps_for_one}
use Rattle.wv_model.specs.Course.{Course, Goes, Sticks, caught, move}
use Rattle.wv_model.specs.FirstMeaning.{form_relation, FormRel}
use Rattle.wv_model.specs.FormDomain.{Ref, MethodId, Shared, form, form_rules}
use Rattle.wv_model.specs.Frame.{Frame, cleared}
use Rattle.wv_model.specs.FrameLaws.{FrameLaws}
use Rattle.wv_model.specs.FrameRelation.{OneShared, IsQuiet, IsMatched, Agree, GoesQuietly}
use Rattle.wv_model.specs.HookMachine.{Point}
use Rattle.wv_model.specs.Lifted.{RelatedFrames, running, throwing, GoOn, HaveEnded}
use Rattle.wv_model.specs.Step.{State}
use Rattle.wv_model.specs.Typing.{FramesStick, IsStuck}
use Rattle.wv_model.proofs.Lockstep.{none_ahead}

both_stick : (w : Shared) (method : MethodId) (c : Course form ℕ) (d : Course form Point) → Agree form_relation w method c d → d ≡ Sticks → c ≡ Sticks
both_stick w method c d agree e = by_course c (subst (Agree form_relation w method c) e agree)
  where
    by_course : (c : Course form ℕ) → Agree form_relation w method c Sticks → c ≡ Sticks
    by_course Sticks agree = refl
    by_course _ agree = absurd agree

never_quiet : (w : Shared) (method : MethodId) (n : ℕ) (c : Course form ℕ) (g : Frame form Point) (k : Shared) → n ≡ 0 → GoesQuietly form_relation w method n c g k → ⊥
never_quiet w method n (Goes f h) g k e quiet = omega (arith, e, quiet.1.1)
never_quiet w method n _ g k e quiet = quiet

caught_goes : (control : Control form Point) (o : Option (Frame form Point)) (frame : Frame form Point) (thrown : Ref) (shared : Shared) → caught control frame o thrown shared ≡ Sticks → ⊥
caught_goes control (Some handler) frame thrown shared e = absurd cc
caught_goes control None frame thrown shared e = absurd cc

module _ (first : Control form ℕ) (second : Control form Point) (law : FrameLaws steps_for_one form_rules first second form_relation) where
  top_sticks : (w : Shared) (method : MethodId) (n : ℕ) (f : Frame form ℕ) (g : Frame form Point) (h k : Shared) → n ≡ 0 → IsQuiet form_relation w method n (move first f h) g k ⊎ IsMatched form_relation w method (move first f h) (move second g k) → (move second g k).course ≡ Sticks → (move first f h).course ≡ Sticks
  top_sticks w method n f g h k e (inl quiet) stuck = absurd (never_quiet quiet.0 method n _ g k e quiet.3)
  top_sticks w method n f g h k e (inr both) stuck = both_stick both.0 method _ _ both.3 stuck

  frames_stick : (w : Shared) (n : ℕ) (fs : List (Frame form ℕ)) (gs : List (Frame form Point)) (h k : Shared) → OneShared w h k → RelatedFrames form_relation w n fs gs → FramesStick second gs k → FramesStick first fs h
  frames_stick w n _ _ h k alike (running {method} {f} {g} runs waiting) stuck =
      top_sticks w method n f g h k (none_ahead w method n f g runs) (law.runs w method n f g h k alike runs) stuck
  frames_stick w _ _ _ h k alike (throwing {thrown'} {g} waits throws waiting) stuck =
      absurd (caught_goes second (second.catch thrown' k (cleared g)) (cleared g) thrown' k stuck)

  state_sticks : (n : ℕ) (s : State form ℕ) (t : State form Point) → GoOn form_relation n s t ⊎ HaveEnded n s t → IsStuck second t → IsStuck first s
  state_sticks n s t (inl both) stuck =
      (both.first_goes, frames_stick both.world n s.frames t.frames s.shared t.shared both.alike both.frames stuck.1)
  state_sticks n s t (inr both) stuck = let ended = both.second_ended in let going = stuck.0 in absurd (cc (ended, going))

  -- a state of the first machine is stuck where a related one of the second is
  pub sticks_alike : (n : ℕ) (s : State form ℕ) (t : State form Point) → FormRel n s t → IsStuck second t → IsStuck first s
  sticks_alike n s t related stuck = state_sticks n s t related.either stuck
