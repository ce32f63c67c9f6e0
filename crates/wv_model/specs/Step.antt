-- The one step that every machine of frames takes. Our own, after JVM Specification 2.6, 2.10 and 5.5.
use Rattle.std.specs.Prelude.{ℕ, List, [], ◌∷◌, ◌++◌, length, Option, Some, None, Bool, true, false, nat_lt}
use Rattle.wv_model.specs.Domain.{Domain}
use Rattle.wv_model.specs.Frame.{Frame, struck}
use Rattle.wv_model.specs.Control.{Control, Rules}
use Rattle.wv_model.specs.Course.{Course, Goes, Calls, Gives, Leaves, Ends, Sticks, Move, move, resumed}
use Rattle.wv_model.specs.Machine.{Machine}

-- the most frames that may stand at once
abbrev pub frame_limit : ℕ
frame_limit = 1024

-- what one step of a thread comes to: its frames (top first), the shared part, what it shows, and an ending or none
pub record Turn (D : Domain) (Place : Type 0) : Type 0 where
  pub frames : List (Frame D Place)
  pub shared : D.Shared
  pub shown : List D.Piece
  pub ending : Option D.Ending

-- a frame is pushed, or the run ends as Deep where there is no room for it
abbrev pub pushed : {D : Domain} {Place : Type 0} → Bool → Rules D → Frame D Place → List (Frame D Place) → D.Shared → List D.Piece → Turn D Place
pushed {D} {Place} true rules entered frames shared shown =
    record { frames = entered ∷ frames; shared = shared; shown = shown; ending = None }
pushed {D} {Place} false rules entered frames shared shown =
    record { frames = frames; shared = shared; shown = shown; ending = Some rules.deep }

-- a result goes to the frame below; where there is none, the start frame has returned
abbrev pub given : {D : Domain} {Place : Type 0} → Rules D → Control D Place → D.Method → Option D.Value → List (Frame D Place) → D.Shared → List D.Piece → Turn D Place
given {D} {Place} rules control called value [] shared shown =
    record { frames = []; shared = shared; shown = shown ++ rules.last value shared; ending = Some rules.returned }
given {D} {Place} rules control called value (frame ∷ below) shared shown =
    record { frames = resumed rules control called value frame ∷ below; shared = shared; shown = shown; ending = None }

-- a throw goes to the frame below; out of the start frame it ends the run
abbrev pub passed_down : {D : Domain} {Place : Type 0} → Rules D → D.Thrown → List (Frame D Place) → D.Shared → List D.Piece → Turn D Place
passed_down {D} {Place} rules thrown [] shared shown =
    record { frames = []; shared = shared; shown = shown; ending = Some (rules.uncaught thrown shared) }
passed_down {D} {Place} rules thrown (frame ∷ below) shared shown =
    record { frames = struck thrown frame ∷ below; shared = shared; shown = shown; ending = None }

-- a throw that leaves a class initializer ends the run
abbrev pub thrown_from : {D : Domain} {Place : Type 0} → Bool → Rules D → D.Thrown → List (Frame D Place) → D.Shared → List D.Piece → Turn D Place
thrown_from {D} {Place} true rules thrown below shared shown =
    record { frames = below; shared = shared; shown = shown; ending = Some (rules.uncaught thrown shared) }
thrown_from {D} {Place} false rules thrown below shared shown = passed_down rules thrown below shared shown

-- what the top frame's course comes to, over the frames below it
abbrev pub settled : {D : Domain} {Place : Type 0} → Rules D → Control D Place → Course D Place → List D.Piece → Frame D Place → List (Frame D Place) → D.Shared → Turn D Place
settled {D} {Place} rules control (Goes frame shared) shown top below before =
    record { frames = frame ∷ below; shared = shared; shown = shown; ending = None }
settled {D} {Place} rules control (Calls waiting entered shared) shown top below before =
    pushed (nat_lt (length (waiting ∷ below)) frame_limit) rules entered (waiting ∷ below) shared shown
settled {D} {Place} rules control (Gives value shared) shown top below before =
    given rules control top.method value below shared shown
settled {D} {Place} rules control (Leaves thrown shared) shown top below before =
    thrown_from (rules.is_initializer top.method) rules thrown below shared shown
settled {D} {Place} rules control (Ends ending shared) shown top below before =
    record { frames = top ∷ below; shared = shared; shown = shown; ending = Some ending }
settled {D} {Place} rules control Sticks shown top below before =
    record { frames = top ∷ below; shared = before; shown = []; ending = None }

abbrev pub turn_of : {D : Domain} {Place : Type 0} → Rules D → Control D Place → Move D Place → Frame D Place → List (Frame D Place) → D.Shared → Turn D Place
turn_of rules control move top below shared = settled rules control move.course move.shown top below shared

-- what the end of a thread does to the shared part, where there is an end
abbrev pub shared_after : {D : Domain} {Place : Type 0} → Control D Place → Option D.Ending → D.Shared → D.Shared
shared_after {D} {Place} control None shared = shared
shared_after {D} {Place} control (Some ending) shared = control.ended ending shared

-- a turn with that done
abbrev pub closed : {D : Domain} {Place : Type 0} → Control D Place → Turn D Place → Turn D Place
closed {D} {Place} control turn =
    record {
      frames = turn.frames;
      shared = shared_after control turn.ending turn.shared;
      shown = turn.shown;
      ending = turn.ending;
    }

-- one step of a thread
abbrev pub turn : {D : Domain} {Place : Type 0} → Rules D → Control D Place → List (Frame D Place) → D.Shared → Turn D Place
turn {D} {Place} rules control [] shared = record { frames = []; shared = shared; shown = []; ending = None }
turn {D} {Place} rules control (top ∷ below) shared =
    closed control (turn_of rules control (move control top shared) top below shared)

-- a state: the frames (top first), the shared part, what was shown so far, and the ending or none
pub record State (D : Domain) (Place : Type 0) : Type 0 where
  pub frames : List (Frame D Place)
  pub shared : D.Shared
  pub trace : List D.Piece
  pub ending : Option D.Ending

-- the state after a thread's step: what the step shows is added to the trace
abbrev pub state_after : {D : Domain} {Place : Type 0} → List D.Piece → Turn D Place → State D Place
state_after {D} {Place} trace turn =
    record { frames = turn.frames; shared = turn.shared; trace = trace ++ turn.shown; ending = turn.ending }

-- one step, from a state that hasn't ended
abbrev pub step : {D : Domain} {Place : Type 0} → Rules D → Control D Place → State D Place → State D Place
step rules control state = state_after state.trace (turn rules control state.frames state.shared)

-- the machine of a control
abbrev pub machine : {D : Domain} {Place : Type 0} → Rules D → Control D Place → Machine (State D Place) D.Piece D.Ending
machine rules control = record { step = step rules control; trace = λ state. state.trace; ending = λ state. state.ending }

-- the state in which a run begins
abbrev pub start : {D : Domain} {Place : Type 0} → Frame D Place → D.Shared → State D Place
start {D} {Place} frame shared = record { frames = frame ∷ []; shared = shared; trace = []; ending = None }
