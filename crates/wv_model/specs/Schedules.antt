-- Machines of several threads, one step for each entry of a schedule. Our own.
use Rattle.std.specs.Prelude.{◌≡◌, ℕ, ◌<◌, ◌≤◌, ◌*◌, ◌⊎◌, List, [], ◌∷◌, length, Option, None}
use Rattle.wv_model.specs.Machine.{unless_ended}

-- a machine of threads: the step of a thread, what a state has shown, and how a thread has ended, if it has
pub record Threaded (State Piece Ending : Type 0) : Type 0 where
  pub step : ℕ → State → State
  pub trace : State → List Piece
  pub ending : ℕ → State → Option Ending

-- one entry of a schedule: a thread that has ended does nothing
abbrev pub advance_thread : {State Piece Ending : Type 0} → Threaded State Piece Ending → ℕ → State → State
advance_thread machine i state = unless_ended (machine.ending i state) state (machine.step i state)

-- the state after a schedule
abbrev pub follow : {State Piece Ending : Type 0} → Threaded State Piece Ending → List ℕ → State → State
follow machine [] state = state
follow machine (i ∷ schedule) state = follow machine schedule (advance_thread machine i state)

-- two states have shown the same, and each thread has ended alike in both
pub record LooksSame {S T Piece Ending : Type 0} (first : Threaded S Piece Ending) (s : S) (second : Threaded T Piece Ending) (t : T) : Type 0 where
  pub same_trace : first.trace s ≡ second.trace t
  pub same_endings : (i : ℕ) → first.ending i s ≡ second.ending i t

-- each schedule of either machine has one of the other after which both look the same; one of the second is no longer,
-- and one of the first has at most `factor` entries for each
pub record SchedulesCorrespond (factor : ℕ) {S T Piece Ending : Type 0} (first : Threaded S Piece Ending) (s : S) (second : Threaded T Piece Ending) (t : T) : Type 0 where
  pub to_second : (schedule : List ℕ) → (other : List ℕ) × (length other ≤ length schedule) × LooksSame first (follow first schedule s) second (follow second other t)
  pub to_first : (schedule : List ℕ) → (other : List ℕ) × (length other ≤ factor * length schedule) × LooksSame first (follow first other s) second (follow second schedule t)

-- a relation of states with a number for each thread
abbrev pub NumberedEach : Type 0 → Type 0 → Type 1
NumberedEach S T = (ℕ → ℕ) → S → T → Type 0

-- the step of the first machine's thread i stands for none of the second, and the number of i falls
abbrev pub LowersOf : {S T Piece Ending : Type 0} → ℕ → Threaded S Piece Ending → NumberedEach S T → (ℕ → ℕ) → S → T → Type 0
LowersOf i first Related numbers s t = (others : ℕ → ℕ) × (others i < numbers i) × Related others (first.step i s) t

-- the step of the first machine's thread i stands for the second's step of that thread
abbrev pub MatchesOf : {S T Piece Ending : Type 0} → ℕ → Threaded S Piece Ending → Threaded T Piece Ending → NumberedEach S T → S → T → Type 0
MatchesOf i first second Related s t = (others : ℕ → ℕ) × Related others (first.step i s) (second.step i t)

-- related states look the same, and each step of a thread of the first machine lowers its number or stands for a step of
-- that thread of the second
pub record SimulatesEach (factor : ℕ) {S T Piece Ending : Type 0} (first : Threaded S Piece Ending) (second : Threaded T Piece Ending) (Related : NumberedEach S T) : Type 0 where
  pub below : (numbers : ℕ → ℕ) (s : S) (t : T) → Related numbers s t → (i : ℕ) → numbers i < factor
  pub same_trace : (numbers : ℕ → ℕ) (s : S) (t : T) → Related numbers s t → first.trace s ≡ second.trace t
  pub same_ending : (numbers : ℕ → ℕ) (s : S) (t : T) → Related numbers s t → (i : ℕ) → first.ending i s ≡ second.ending i t
  pub moves : (numbers : ℕ → ℕ) (s : S) (t : T) → Related numbers s t → (i : ℕ) → first.ending i s ≡ None → LowersOf i first Related numbers s t ⊎ MatchesOf i first second Related s t
