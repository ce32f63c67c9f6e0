-- Machines whose threads each have frames of their own, and share the rest. Our own.
use Rattle.std.specs.Prelude.{◌≡◌, ℕ, ◌⊎◌, List, [], ◌∷◌, ◌++◌, Option, Some, None, cond, nat_eq}
use Rattle.wv_model.specs.Domain.{Domain}
use Rattle.wv_model.specs.Frame.{Frame}
use Rattle.wv_model.specs.Control.{Control, Rules}
use Rattle.wv_model.specs.Step.{Turn, turn}
use Rattle.wv_model.specs.Schedules.{Threaded}
use Rattle.wv_model.specs.FrameRelation.{FrameRelation}
use Rattle.wv_model.specs.FrameLaws.{FrameLaws}
use Rattle.wv_model.specs.Lifted.{RelatedFrames}

-- a state of threads: the frames of each and its ending or none, and the shared part and the trace of all. A thread that
-- isn't started, or can't go on, has a row that is stuck: its step leaves everything as it is. Rows don't see endings:
-- what they need to know of one, `ended` of its thread's control has put into the shared part
pub record ThreadsState (D : Domain) (Place : Type 0) : Type 0 where
  pub frames : ℕ → List (Frame D Place)
  pub endings : ℕ → Option D.Ending
  pub shared : D.Shared
  pub trace : List D.Piece

-- the function with this value at i
abbrev pub with_at : {A : Type 0} → ℕ → A → (ℕ → A) → ℕ → A
with_at i value f j = cond (nat_eq i j) value (f j)

-- what a turn of thread i makes of a state
abbrev pub after_turn : {D : Domain} {Place : Type 0} → ℕ → Turn D Place → ThreadsState D Place → ThreadsState D Place
after_turn {D} {Place} i turn state =
    record {
      frames = with_at i turn.frames state.frames;
      endings = with_at i turn.ending state.endings;
      shared = turn.shared;
      trace = state.trace ++ turn.shown;
    }

-- the machine in which each thread has a control of its own, and its step is the one step of its frames
abbrev pub threads : {D : Domain} {Place : Type 0} → Rules D → (ℕ → Control D Place) → Threaded (ThreadsState D Place) D.Piece D.Ending
threads rules controls =
    record {
      step = λ i state. after_turn i (turn rules (controls i) (state.frames i) state.shared) state;
      trace = λ state. state.trace;
      ending = λ i state. state.endings i;
    }

-- the state in which threads begin, each with its start frame
abbrev pub threads_start : {D : Domain} {Place : Type 0} → (ℕ → Frame D Place) → D.Shared → ThreadsState D Place
threads_start {D} {Place} frames shared =
    record { frames = λ i. frames i ∷ []; endings = λ i. None; shared = shared; trace = [] }

-- the laws on single frames for each thread, and: what runs and what is thrown stays related in later worlds, too, since
-- other threads take steps
pub record ThreadLaws (factor : ℕ) {D : Domain} {P Q : Type 0} (rules : Rules D) (first : ℕ → Control D P) (second : ℕ → Control D Q) (R : FrameRelation D P Q) : Type 0 where
  pub each : (i : ℕ) → FrameLaws factor rules (first i) (second i) R
  pub still_runs : (w later : R.World) (method : D.Method) (n : ℕ) (f : Frame D P) (g : Frame D Q) → R.Later w later → R.Runs w method n f g → R.Runs later method n f g
  pub still_thrown : (w later : R.World) (thrown thrown' : D.Thrown) → R.Later w later → R.Thrown w thrown thrown' → R.Thrown later thrown thrown'

-- a thread of both machines that goes on, with related frames
pub record ThreadGoes {D : Domain} {P Q : Type 0} (R : FrameRelation D P Q) (w : R.World) (n : ℕ) (fs : List (Frame D P)) (gs : List (Frame D Q)) (ending ending' : Option D.Ending) : Type 0 where
  pub first_goes : ending ≡ None
  pub second_goes : ending' ≡ None
  pub frames : RelatedFrames R w n fs gs

-- a thread of both machines that has ended alike
pub record ThreadEnded {Ending : Type 0} (n : ℕ) (ending ending' : Option Ending) : Type 0 where
  pub none_left : n ≡ 0
  pub last : Ending
  pub first_ended : ending ≡ Some last
  pub second_ended : ending' ≡ Some last

abbrev pub ThreadRelated : {D : Domain} {P Q : Type 0} (R : FrameRelation D P Q) → R.World → ℕ → List (Frame D P) → List (Frame D Q) → Option D.Ending → Option D.Ending → Type 0
ThreadRelated {D} {P} {Q} R w n fs gs ending ending' =
    ThreadGoes R w n fs gs ending ending' ⊎ ThreadEnded n ending ending'

-- two states of threads that have shown the same, are related in some world, and have related threads
pub record LiftedThreads {D : Domain} {P Q : Type 0} (R : FrameRelation D P Q) (numbers : ℕ → ℕ) (s : ThreadsState D P) (t : ThreadsState D Q) : Type 0 where
  pub same_trace : s.trace ≡ t.trace
  pub world : R.World
  pub alike : R.Alike world s.shared t.shared
  pub each : (i : ℕ) → ThreadRelated R world (numbers i) (s.frames i) (t.frames i) (s.endings i) (t.endings i)
