-- Machines that step, seen from outside: what a run shows, and how it ends. Our own.
use Rattle.std.specs.Prelude.{◌≡◌, ℕ, zero, suc, List, Option, Some, None, ◌++◌}

-- a machine: its step, and what a state has shown and how it has ended, if it has
pub record Machine (State Piece Ending : Type 0) : Type 0 where
  pub step : State → State
  pub trace : State → List Piece
  pub ending : State → Option Ending

-- the first state where there is an ending, and otherwise the second
abbrev pub unless_ended : {State Ending : Type 0} → Option Ending → State → State → State
unless_ended (Some ending) state next = state
unless_ended None state next = next

-- one step, or none from a state that has ended
abbrev pub advance : {State Piece Ending : Type 0} → Machine State Piece Ending → State → State
advance machine state = unless_ended (machine.ending state) state (machine.step state)

-- the state after at most n steps
abbrev pub after : {State Piece Ending : Type 0} → Machine State Piece Ending → ℕ → State → State
after machine zero state = state
after machine (suc n) state = after machine n (advance machine state)

-- how a run ends: by an ending of the machine, or because the steps of its budget are done
pub data Finish (Ending : Type 0) : Type 0 where
  Ended : Ending → Finish Ending
  Budget : Finish Ending

abbrev pub finish_of : {Ending : Type 0} → Option Ending → Finish Ending
finish_of (Some ending) = Ended ending
finish_of None = Budget

-- what is seen of a run
pub record Run (Piece Ending : Type 0) : Type 0 where
  pub trace : List Piece
  pub finish : Finish Ending

-- the run of at most n steps from a state
abbrev pub run : {State Piece Ending : Type 0} → Machine State Piece Ending → ℕ → State → Run Piece Ending
run machine n state =
    record { trace = machine.trace (after machine n state); finish = finish_of (machine.ending (after machine n state)) }

-- the first list is a front of the second
abbrev pub Begins : {Piece : Type 0} → List Piece → List Piece → Type 0
Begins {Piece} front whole = (rest : List Piece) × (whole ≡ front ++ rest)

-- a step only adds to what was shown
abbrev pub Grows : {State Piece Ending : Type 0} → Machine State Piece Ending → Type 0
Grows {State} machine = (state : State) → Begins (machine.trace state) (machine.trace (machine.step state))
