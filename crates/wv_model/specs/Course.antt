-- What one frame does in its step. Our own.
use Rattle.std.specs.Prelude.{List, [], Option, Some, None, cond}
use Rattle.wv_model.specs.Domain.{Domain}
use Rattle.wv_model.specs.Effect.{Effect, Next, Jump, Call, Give, Raise, Init, End, Stuck, Row}
use Rattle.wv_model.specs.Frame.{Frame, cleared}
use Rattle.wv_model.specs.Control.{Control, Rules}

-- what a frame does, apart from the frames below it
pub data Course (D : Domain) (Place : Type 0) : Type 0 where
  -- it goes on as this frame
  Goes : (frame : Frame D Place) (shared : D.Shared) → Course D Place
  -- it waits as this frame, below the frame of the method that it calls
  Calls : (waiting : Frame D Place) (entered : Frame D Place) (shared : D.Shared) → Course D Place
  -- it is left with this result; the shared part is that after leaving
  Gives : (value : Option D.Value) (shared : D.Shared) → Course D Place
  -- it is left by a throw; the shared part is that after leaving
  Leaves : (thrown : D.Thrown) (shared : D.Shared) → Course D Place
  -- the run ends
  Ends : (ending : D.Ending) (shared : D.Shared) → Course D Place
  -- it can do nothing
  Sticks : Course D Place

-- a throw in a frame goes on at the handler, or leaves the frame where there is none
abbrev pub caught : {D : Domain} {Place : Type 0} → Control D Place → Frame D Place → Option (Frame D Place) → D.Thrown → D.Shared → Course D Place
caught {D} {Place} control frame (Some handler) thrown shared = Goes handler shared
caught {D} {Place} control frame None thrown shared = Leaves thrown (control.left frame shared)

-- a class is initialized by its initializer, or at once where it has none
abbrev pub initialized : {D : Domain} {Place : Type 0} → Control D Place → Option D.Method → D.Shared → Frame D Place → Course D Place
initialized {D} {Place} control (Some method) shared frame = Calls frame (control.enter method []) shared
initialized {D} {Place} control None shared frame = Goes frame shared

-- what an effect comes to, for a frame that has the locals of the row
abbrev pub course_of : {D : Domain} {Place : Type 0} → Control D Place → Effect D → Frame D Place → Course D Place
course_of {D} {Place} control (Next stack shared) frame = Goes (control.next (record frame { stack = stack })) shared
course_of {D} {Place} control (Jump k stack shared) frame = Goes (control.jump k (record frame { stack = stack })) shared
course_of {D} {Place} control (Call method args stack shared) frame =
    Calls (record frame { stack = stack }) (control.enter method args) shared
course_of {D} {Place} control (Give value shared) frame =
    Gives (control.result frame.method value) (control.left frame shared)
course_of {D} {Place} control (Raise thrown shared) frame =
    caught control frame (control.catch thrown shared frame) thrown shared
course_of {D} {Place} control (Init initializer shared) frame = initialized control initializer shared frame
course_of {D} {Place} control (End ending shared) frame = Ends ending shared
course_of {D} {Place} control Stuck frame = Sticks

-- what a frame shows in its step, and its course
pub record Move (D : Domain) (Place : Type 0) : Type 0 where
  pub shown : List D.Piece
  pub course : Course D Place

abbrev pub move_of_row : {D : Domain} {Place : Type 0} → Control D Place → Row D → Frame D Place → Move D Place
move_of_row {D} {Place} control row frame =
    record { shown = row.shown; course = course_of control row.effect (record frame { locals = row.locals }) }

-- the step of a frame into which a throw comes back is to catch it or to be left; any other frame does its row
abbrev pub move_by : {D : Domain} {Place : Type 0} → Option D.Thrown → Control D Place → Frame D Place → D.Shared → Move D Place
move_by {D} {Place} (Some thrown) control frame shared =
    record {
      shown = [];
      course = caught control (cleared frame) (control.catch thrown shared (cleared frame)) thrown shared;
    }
move_by {D} {Place} None control frame shared = move_of_row control (control.effect frame shared) frame

-- the step of a frame
abbrev pub move : {D : Domain} {Place : Type 0} → Control D Place → Frame D Place → D.Shared → Move D Place
move control frame shared = move_by frame.thrown control frame shared

-- a waiting frame after the method that it called gave a value; after a class initializer it is as it was
abbrev pub resumed : {D : Domain} {Place : Type 0} → Rules D → Control D Place → D.Method → Option D.Value → Frame D Place → Frame D Place
resumed rules control called value frame = cond (rules.is_initializer called) frame (control.answer called value frame)
