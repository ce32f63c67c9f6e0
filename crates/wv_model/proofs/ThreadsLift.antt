-- From single frames to machines of threads.
use Rattle.std.proofs.Common.{◌≡◌, ℕ, zero, ◌<◌, ◌⊎◌, List, ◌++◌, Option, None, Bool, true, false, refl, sym, ap, ◌∙◌, subst, inl, inr}
use Rattle.std.specs.Prelude.{cond, nat_eq}
use Rattle.std.proofs.lemmas.List.{append-nil}
use Rattle.std.proofs.lemmas.Bool.{eqb-true, eq-eqb}
use Rattle.wv_model.specs.Domain.{Domain}
use Rattle.wv_model.specs.Frame.{Frame}
use Rattle.wv_model.specs.Control.{Control, Rules}
use Rattle.wv_model.specs.Step.{turn}
use Rattle.wv_model.specs.Schedules.{LowersOf, MatchesOf, SimulatesEach, SchedulesCorrespond}
use Rattle.wv_model.specs.FrameRelation.{FrameRelation}
use Rattle.wv_model.specs.Lifted.{none_below, RelatedFrames, running, throwing, QuietTurn, TurnsAgree}
use Rattle.wv_model.specs.Threads.{ThreadsState, with_at, threads, threads_start, ThreadLaws, ThreadRelated, LiftedThreads}
use Rattle.wv_model.proofs.Runs.{same_with_more}
use Rattle.wv_model.proofs.Turns.{turns_agree, waiting_later}
use Rattle.wv_model.proofs.Lift.{frames_below}
use Rattle.wv_model.proofs.EverySchedule as Law

module _ (factor : ℕ) {D : Domain} {P Q : Type 0} (rules : Rules D) (first : ℕ → Control D P) (second : ℕ → Control D Q) (R : FrameRelation D P Q) (law : ThreadLaws factor rules first second R) where
  frames_later : {w later : R.World} {n : ℕ} {fs : List (Frame D P)} {gs : List (Frame D Q)} → R.Later w later → RelatedFrames R w n fs gs → RelatedFrames R later n fs gs
  frames_later l (running runs waiting) =
      running (law.still_runs _ _ _ _ _ _ l runs) (waiting_later factor rules (first 0) (second 0) R (law.each 0) l waiting)
  frames_later l (throwing waits throws waiting) =
      throwing ((law.each 0).still_waits _ _ _ _ _ _ l waits) (law.still_thrown _ _ _ _ l throws) (waiting_later factor rules (first 0) (second 0) R (law.each 0) l waiting)

  thread_later : (w later : R.World) (n : ℕ) (fs : List (Frame D P)) (gs : List (Frame D Q)) (o o' : Option D.Ending) → R.Later w later → ThreadRelated R w n fs gs o o' → ThreadRelated R later n fs gs o o'
  thread_later w later n fs gs o o' l (inl goes) =
      inl (record { first_goes = goes.first_goes; second_goes = goes.second_goes; frames = frames_later l goes.frames })
  thread_later w later n fs gs o o' l (inr ended) = inr ended

  -- thread i has new parts, and the others are as they were
  one_new : (b : Bool) (w : R.World) (n m : ℕ) (fs fs' : List (Frame D P)) (gs gs' : List (Frame D Q)) (e e' o o' : Option D.Ending) → ThreadRelated R w n fs gs e e' → ThreadRelated R w m fs' gs' o o' → ThreadRelated R w (cond b n m) (cond b fs fs') (cond b gs gs') (cond b e o) (cond b e' o')
  one_new true w n m fs fs' gs gs' e e' o o' new old = new
  one_new false w n m fs fs' gs gs' e e' o o' new old = old

  -- the same where only the first machine's thread is new
  first_new : (b : Bool) (w : R.World) (i j n m : ℕ) (fs fs' : List (Frame D P)) (gs : ℕ → List (Frame D Q)) (e o : Option D.Ending) (ends : ℕ → Option D.Ending) → nat_eq i j ≡ b → ThreadRelated R w n fs (gs i) e (ends i) → ThreadRelated R w m fs' (gs j) o (ends j) → ThreadRelated R w (cond b n m) (cond b fs fs') (gs j) (cond b e o) (ends j)
  first_new true w i j n m fs fs' gs e o ends same new old =
      subst (λ k. ThreadRelated R w n fs (gs k) e (ends k)) (eqb-true i j same) new
  first_new false w i j n m fs fs' gs e o ends same new old = old

  quiet_thread : (i : ℕ) (numbers : ℕ → ℕ) (s : ThreadsState D P) (t : ThreadsState D Q) → (lifted : LiftedThreads R numbers s t) → t.endings i ≡ None → QuietTurn R lifted.world (numbers i) (turn rules (first i) (s.frames i) s.shared) (t.frames i) t.shared → LowersOf i (threads rules first) (LiftedThreads R) numbers s t
  quiet_thread i numbers s t lifted goes quiet =
      let others = with_at i quiet.number numbers in
      let here : nat_eq i i ≡ true = eq-eqb i i refl in
      let lower : others i < numbers i = subst (λ b. cond b quiet.number (numbers i) < numbers i) (sym here) quiet.fewer in
      let trace : s.trace ++ (turn rules (first i) (s.frames i) s.shared).shown ≡ t.trace = ap (λ shown. s.trace ++ shown) quiet.unseen ∙ append-nil s.trace ∙ lifted.same_trace in
      let new = inl (record { first_goes = quiet.goes; second_goes = goes; frames = quiet.frames }) in (
        others,
        lower,
        record {
          same_trace = trace;
          world = quiet.world;
          alike = quiet.alike;
          each = λ j. first_new (nat_eq i j) quiet.world i j quiet.number (numbers j) _ (s.frames j) t.frames _ (s.endings j) t.endings refl new (thread_later _ _ _ _ _ _ _ quiet.is_later (lifted.each j));
        },
      )

  joint_thread : (i : ℕ) (numbers : ℕ → ℕ) (s : ThreadsState D P) (t : ThreadsState D Q) → (lifted : LiftedThreads R numbers s t) → TurnsAgree R lifted.world (turn rules (first i) (s.frames i) s.shared) (turn rules (second i) (t.frames i) t.shared) → MatchesOf i (threads rules first) (threads rules second) (LiftedThreads R) s t
  joint_thread i numbers s t lifted (shown, inl both) =
      let new = inl (record { first_goes = both.first_goes; second_goes = both.second_goes; frames = both.frames }) in (
        with_at i both.number numbers,
        record {
          same_trace = same_with_more _ _ _ _ lifted.same_trace shown;
          world = both.world;
          alike = both.alike;
          each = λ j. one_new (nat_eq i j) both.world both.number (numbers j) _ (s.frames j) _ (t.frames j) _ _ (s.endings j) (t.endings j) new (thread_later _ _ _ _ _ _ _ both.is_later (lifted.each j));
        },
      )
  joint_thread i numbers s t lifted (shown, inr both) =
      let new = inr (record { none_left = refl; last = both.ending; first_ended = both.first_ends; second_ended = both.second_ends }) in (
        with_at i zero numbers,
        record {
          same_trace = same_with_more _ _ _ _ lifted.same_trace shown;
          world = both.world;
          alike = both.alike;
          each = λ j. one_new (nat_eq i j) both.world zero (numbers j) _ (s.frames j) _ (t.frames j) _ _ (s.endings j) (t.endings j) new (thread_later _ _ _ _ _ _ _ both.is_later (lifted.each j));
        },
      )

  moves_of : (i : ℕ) (numbers : ℕ → ℕ) (s : ThreadsState D P) (t : ThreadsState D Q) → (lifted : LiftedThreads R numbers s t) → ThreadRelated R lifted.world (numbers i) (s.frames i) (t.frames i) (s.endings i) (t.endings i) → s.endings i ≡ None → LowersOf i (threads rules first) (LiftedThreads R) numbers s t ⊎ MatchesOf i (threads rules first) (threads rules second) (LiftedThreads R) s t
  moves_of i numbers s t lifted (inl goes) going =
      elim (turns_agree factor rules (first i) (second i) R (law.each i) lifted.world (numbers i) (s.frames i) (t.frames i) s.shared t.shared lifted.alike goes.frames) [
        | inl quiet ↦ inl (quiet_thread i numbers s t lifted goes.second_goes quiet)
        | inr agree ↦ inr (joint_thread i numbers s t lifted agree)
      ]
  moves_of i numbers s t lifted (inr ended) going = let over = ended.first_ended in absurd (cc (over, going))

  number_below : (w : R.World) (n : ℕ) (fs : List (Frame D P)) (gs : List (Frame D Q)) (o o' : Option D.Ending) → 0 < factor → ThreadRelated R w n fs gs o o' → n < factor
  number_below w n fs gs o o' some (inl goes) =
      frames_below factor rules (first 0) (second 0) R (law.each 0) some goes.frames
  number_below w n fs gs o o' some (inr ended) = subst (λ m. m < factor) (sym ended.none_left) some

  endings_alike : (w : R.World) (n : ℕ) (fs : List (Frame D P)) (gs : List (Frame D Q)) (o o' : Option D.Ending) → ThreadRelated R w n fs gs o o' → o ≡ o'
  endings_alike w n fs gs o o' (inl goes) = goes.first_goes ∙ sym goes.second_goes
  endings_alike w n fs gs o o' (inr ended) = ended.first_ended ∙ sym ended.second_ended

  -- the laws on single frames give a simulation thread by thread
  pub threads_lift : 0 < factor → SimulatesEach factor (threads rules first) (threads rules second) (LiftedThreads R)
  threads_lift some =
      record {
        below = λ numbers s t lifted i. number_below lifted.world (numbers i) (s.frames i) (t.frames i) (s.endings i) (t.endings i) some (lifted.each i);
        same_trace = λ numbers s t lifted. lifted.same_trace;
        same_ending = λ numbers s t lifted i. endings_alike lifted.world (numbers i) (s.frames i) (t.frames i) (s.endings i) (t.endings i) (lifted.each i);
        moves = λ numbers s t lifted i going. moves_of i numbers s t lifted (lifted.each i) going;
      }

  pub threads_correspond : 0 < factor → (w : R.World) (method : ℕ → D.Method) (numbers : ℕ → ℕ) (f : ℕ → Frame D P) (g : ℕ → Frame D Q) (h k : D.Shared) → R.Alike w h k → ((i : ℕ) → R.Runs w (method i) (numbers i) (f i) (g i)) → SchedulesCorrespond factor (threads rules first) (threads_start f h) (threads rules second) (threads_start g k)
  threads_correspond some w method numbers f g h k alike runs =
      let begin : LiftedThreads R numbers (threads_start f h) (threads_start g k) = record {
        same_trace = refl;
        world = w;
        alike = alike;
        each = λ i. inl (record { first_goes = refl; second_goes = refl; frames = running (runs i) none_below });
      } in
      Law.schedules_correspond factor (threads rules first) (threads rules second) (LiftedThreads R) (threads_lift some) numbers (threads_start f h) (threads_start g k) begin
