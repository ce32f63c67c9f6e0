-- Facts on single frames from which no step of a whole run is stuck. Our own.
use Rattle.std.specs.Prelude.{◌≡◌, ◌⊎◌, List, [], ◌∷◌, Option, Some, None}
use Rattle.wv_model.specs.Domain.{Domain}
use Rattle.wv_model.specs.Frame.{Frame, struck, cleared}
use Rattle.wv_model.specs.Control.{Control, Rules}
use Rattle.wv_model.specs.Course.{Course, Goes, Calls, Gives, Leaves, Ends, Sticks, move, resumed}
use Rattle.wv_model.specs.Step.{State}

-- what is known of the frames of one machine. A world is what is known of the shared part; worlds get later
pub record FrameTyping (D : Domain) (P : Type 0) : Type 1 where
  pub World : Type 0
  pub Later : World → World → Type 0
  pub Sound : World → D.Shared → Type 0
  -- a frame of this method that runs, and one that waits for the second method
  pub Runs : World → D.Method → Frame D P → Type 0
  pub Waits : World → D.Method → D.Method → Frame D P → Type 0
  -- what this method gives, and what is thrown
  pub Given : World → D.Method → Option D.Value → Type 0
  pub Thrown : World → D.Thrown → Type 0

-- a course of a frame of a method that keeps the typing, and doesn't stick
abbrev pub Keeps : {D : Domain} {P : Type 0} (T : FrameTyping D P) → T.World → D.Method → Course D P → Type 0
Keeps {D} {P} T w method (Goes frame shared) = T.Sound w shared × T.Runs w method frame
Keeps {D} {P} T w method (Calls waiting entered shared) =
    T.Sound w shared × ((called : D.Method) × T.Waits w method called waiting × T.Runs w called entered)
Keeps {D} {P} T w method (Gives value shared) = T.Sound w shared × T.Given w method value
Keeps {D} {P} T w method (Leaves thrown shared) = T.Sound w shared × T.Thrown w thrown
Keeps {D} {P} T w method (Ends ending shared) = Unit {0}
Keeps {D} {P} T w method Sticks = ⊥

-- a frame that catches runs
abbrev pub CatchKeeps : {D : Domain} {P : Type 0} (T : FrameTyping D P) → T.World → D.Method → Option (Frame D P) → Type 0
CatchKeeps {D} {P} T w method (Some frame) = T.Runs w method frame
CatchKeeps {D} {P} T w method None = Unit {0}

-- a frame that is left keeps what is known of the shared part and of what is thrown, in a later world
abbrev pub LeaveKeeps : {D : Domain} {P : Type 0} (T : FrameTyping D P) → T.World → D.Thrown → D.Shared → Type 0
LeaveKeeps T w thrown shared = (later : T.World) × T.Later w later × T.Sound later shared × T.Thrown later thrown

-- what a machine owes of single frames
pub record TypingLaws {D : Domain} {P : Type 0} (rules : Rules D) (control : Control D P) (T : FrameTyping D P) : Type 0 where
  pub still_waits : (w later : T.World) (method called : D.Method) (frame : Frame D P) → T.Later w later → T.Waits w method called frame → T.Waits later method called frame
  pub running_method : (w : T.World) (method : D.Method) (frame : Frame D P) → T.Runs w method frame → frame.method ≡ method
  pub waiting_method : (w : T.World) (method called : D.Method) (frame : Frame D P) → T.Waits w method called frame → frame.method ≡ method
  -- what runs keeps the typing in a later world
  pub runs : (w : T.World) (method : D.Method) (frame : Frame D P) (shared : D.Shared) → T.Sound w shared → T.Runs w method frame → (later : T.World) × T.Later w later × Keeps T later method (move control frame shared).course
  -- what waits and is answered runs
  pub answered : (w : T.World) (method called : D.Method) (value : Option D.Value) (frame : Frame D P) → T.Waits w method called frame → T.Given w called value → T.Runs w method (resumed rules control called value frame)
  -- what waits and catches runs
  pub catches : (w : T.World) (method called : D.Method) (thrown : D.Thrown) (frame : Frame D P) (shared : D.Shared) → T.Sound w shared → T.Waits w method called frame → T.Thrown w thrown → CatchKeeps T w method (control.catch thrown shared (cleared frame))
  -- what waits and doesn't catch is left in the typing
  pub leaves : (w : T.World) (method called : D.Method) (thrown : D.Thrown) (frame : Frame D P) (shared : D.Shared) → T.Sound w shared → T.Waits w method called frame → T.Thrown w thrown → control.catch thrown shared (cleared frame) ≡ None → LeaveKeeps T w thrown (control.left (cleared frame) shared)

-- the top frame's step can do nothing, or there is no frame
abbrev pub FramesStick : {D : Domain} {P : Type 0} → Control D P → List (Frame D P) → D.Shared → Type 0
FramesStick {D} {P} control [] shared = Unit {0}
FramesStick {D} {P} control (frame ∷ below) shared = (move control frame shared).course ≡ Sticks

-- a state that hasn't ended and whose step can do nothing
abbrev pub IsStuck : {D : Domain} {P : Type 0} → Control D P → State D P → Type 0
IsStuck control state = (state.ending ≡ None) × FramesStick control state.frames state.shared

-- the frames below a frame of the called method wait for it, and each waits for the one above it
pub data TypedBelow {D : Domain} {P : Type 0} (T : FrameTyping D P) (w : T.World) : D.Method → List (Frame D P) → Type 0 where
  none_typed : {called : D.Method} → TypedBelow T w called []
  one_typed : {method called : D.Method} {frame : Frame D P} {frames : List (Frame D P)} → T.Waits w method called frame → TypedBelow T w method frames → TypedBelow T w called (frame ∷ frames)

-- the frames of a thread: the top one runs, or waits and has a throw come back into it
pub data TypedFrames {D : Domain} {P : Type 0} (T : FrameTyping D P) (w : T.World) : List (Frame D P) → Type 0 where
  typed_running : {method : D.Method} {frame : Frame D P} {frames : List (Frame D P)} → T.Runs w method frame → TypedBelow T w method frames → TypedFrames T w (frame ∷ frames)
  typed_throwing : {method called : D.Method} {thrown : D.Thrown} {frame : Frame D P} {frames : List (Frame D P)} → T.Waits w method called frame → T.Thrown w thrown → TypedBelow T w method frames → TypedFrames T w (struck thrown frame ∷ frames)

-- a state that goes on typed in some world
pub record GoesTyped {D : Domain} {P : Type 0} (T : FrameTyping D P) (ending : Option D.Ending) (frames : List (Frame D P)) (shared : D.Shared) : Type 0 where
  pub goes : ending ≡ None
  pub world : T.World
  pub sound : T.Sound world shared
  pub typed : TypedFrames T world frames

-- frames that go on typed, or have ended
abbrev pub IsTyped : {D : Domain} {P : Type 0} (T : FrameTyping D P) → Option D.Ending → List (Frame D P) → D.Shared → Type 0
IsTyped {D} {P} T ending frames shared = GoesTyped T ending frames shared ⊎ ((e : D.Ending) × (ending ≡ Some e))

-- a state that has ended, or whose frames are typed in some world
abbrev pub StateTyped : {D : Domain} {P : Type 0} (T : FrameTyping D P) → State D P → Type 0
StateTyped T state = IsTyped T state.ending state.frames state.shared
