-- In the first form both machines take their steps together.
use Rattle.std.proofs.Common.{◌≡◌, ℕ, zero, suc, ◌⊎◌, List, Option, Some, None, refl, sym, ◌∙◌, subst, arith, inl, inr}
use Rattle.wv_model.specs.Corresponds.{steps_for_one}
use Rattle.wv_model.specs.FormDomain.{MethodId, Shared, Piece, Ending, form}
use Rattle.wv_model.specs.Frame.{Frame}
use Rattle.wv_model.specs.FrameRelation.{OneShared, one_shared}
use Rattle.wv_model.specs.HookMachine.{Point}
use Rattle.wv_model.specs.Lifted.{RelatedFrames, running, throwing, GoOn, HaveEnded}
use Rattle.wv_model.specs.FirstMeaning.{AtSamePoint, at_same_point, form_relation, FormRel}
use Rattle.wv_model.specs.Machine.{Machine, advance, after, run}
use Rattle.wv_model.specs.Simulates.{SimulatesWithin}
use Rattle.wv_model.specs.Step.{State}
use Rattle.wv_model.proofs.Runs.{same_run, advance_ended, advance_going}

pub none_ahead : (w : Shared) (method : MethodId) (n : ℕ) (f : Frame form ℕ) (g : Frame form Point) → AtSamePoint w method n f g → n ≡ 0
none_ahead w method _ _ _ at_same_point = refl

frames_together : (w : Shared) (n : ℕ) (fs : List (Frame form ℕ)) (gs : List (Frame form Point)) → RelatedFrames form_relation w n fs gs → n ≡ 0
frames_together w n _ _ (running runs waiting) = none_ahead _ _ n _ _ runs
frames_together w _ _ _ (throwing waits throws waiting) = refl

number_is_none : (n : ℕ) (s : State form ℕ) (t : State form Point) → GoOn form_relation n s t ⊎ HaveEnded n s t → n ≡ 0
number_is_none n s t (inl both) = frames_together both.world n s.frames t.frames both.frames
number_is_none n s t (inr both) = both.none_left

one_same : (w h k : Shared) → OneShared w h k → h ≡ k
one_same w _ _ one_shared = refl

-- what is shared by states that go on is the same
pub shared_alike : (n : ℕ) (s : State form ℕ) (t : State form Point) → FormRel n s t → s.ending ≡ None → s.shared ≡ t.shared
shared_alike n s t related going = by_cases related.either
  where
    by_cases : GoOn form_relation n s t ⊎ HaveEnded n s t → s.shared ≡ t.shared
    by_cases (inl both) = one_same both.world s.shared t.shared both.alike
    by_cases (inr both) = let ended = both.first_ended in absurd (cc (ended, going))

module _ (first : Machine (State form ℕ) Piece Ending) (second : Machine (State form Point) Piece Ending) (law : SimulatesWithin steps_for_one first second FormRel) where
  lowered : (n : ℕ) (s : State form ℕ) (t : State form Point) → FormRel n s t → FormRel 0 s t
  lowered n s t related = subst (λ k. FormRel k s t) (number_is_none n s t related.either) related

  one_step : (o : Option Ending) (s : State form ℕ) (t : State form Point) → first.ending s ≡ o → FormRel 0 s t → FormRel 0 (advance first s) (advance second t)
  one_step (Some e) s t ended related =
      let here = sym (advance_ended first s e ended) in
      let there = sym (advance_ended second t e (sym (law.same_ending 0 s t related) ∙ ended)) in
      subst (λ x. FormRel 0 x (advance second t)) here (subst (λ y. FormRel 0 s y) there related)
  one_step None s t going related =
      let here = sym (advance_going first s going) in
      let there = sym (advance_going second t (sym (law.same_ending 0 s t related) ∙ going)) in
      elim (law.moves 0 s t related going) [
        | inl lowers ↦ absurd (omega (arith, lowers.1))
        | inr matches ↦ subst (λ x. FormRel 0 x (advance second t)) here (subst (λ y. FormRel 0 (first.step s) y) there (lowered matches.0 (first.step s) (second.step t) matches.1))
      ]

  pub stay_together : (n : ℕ) (s : State form ℕ) (t : State form Point) → FormRel 0 s t → FormRel 0 (after first n s) (after second n t)
  stay_together zero s t related = related
  stay_together (suc n) s t related =
      stay_together n (advance first s) (advance second t) (one_step (first.ending s) s t refl related)

  pub same_runs : (n : ℕ) (s : State form ℕ) (t : State form Point) → FormRel 0 s t → run first n s ≡ run second n t
  same_runs n s t related =
      let last = stay_together n s t related in
      same_run first n s second n t (law.same_trace 0 _ _ last) (law.same_ending 0 _ _ last)
