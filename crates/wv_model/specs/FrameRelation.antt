-- How single frames of two machines are related. Our own.
use Rattle.std.specs.Prelude.{◌≡◌, ℕ, ◌<◌, [], Option, Some, None}
use Rattle.wv_model.specs.Domain.{Domain}
use Rattle.wv_model.specs.Frame.{Frame}
use Rattle.wv_model.specs.Course.{Course, Goes, Calls, Gives, Leaves, Ends, Sticks, Move}

-- what relates two machines frame by frame. A world is what both know of the shared parts (that an object is a certain
-- callback, which place of one heap is which of the other); worlds get later, and what waits stays related
pub record FrameRelation (D : Domain) (P Q : Type 0) : Type 1 where
  pub World : Type 0
  pub Later : World → World → Type 0
  -- the shared parts of both machines
  pub Alike : World → D.Shared → D.Shared → Type 0
  -- two frames of this method that run; the number says how many steps of the first may come before one of the second
  pub Runs : World → D.Method → ℕ → Frame D P → Frame D Q → Type 0
  -- two frames of the first method that wait for the second
  pub Waits : World → D.Method → D.Method → Frame D P → Frame D Q → Type 0
  -- what this method gives
  pub Given : World → D.Method → Option D.Value → Option D.Value → Type 0
  -- what is thrown
  pub Thrown : World → D.Thrown → D.Thrown → Type 0

-- the shared parts of both machines are one and the same, and that is the world
pub data OneShared {Shared : Type 0} : Shared → Shared → Shared → Type 0 where
  one_shared : {shared : Shared} → OneShared shared shared shared

-- two frames of a method that run, with some number
abbrev pub Running : {D : Domain} {P Q : Type 0} (R : FrameRelation D P Q) → R.World → D.Method → Frame D P → Frame D Q → Type 0
Running {D} {P} {Q} R w method f g = (n : ℕ) × R.Runs w method n f g

-- two courses of frames of a method agree: both go on related, call the same method, give, throw or end alike, or stick
abbrev pub Agree : {D : Domain} {P Q : Type 0} (R : FrameRelation D P Q) → R.World → D.Method → Course D P → Course D Q → Type 0
Agree {D} {P} {Q} R w method (Goes f h) (Goes g k) = R.Alike w h k × Running R w method f g
Agree {D} {P} {Q} R w method (Calls f entered h) (Calls g entered' k) =
    R.Alike w h k × ((called : D.Method) × R.Waits w method called f g × Running R w called entered entered')
Agree {D} {P} {Q} R w method (Gives value h) (Gives value' k) = R.Alike w h k × R.Given w method value value'
Agree {D} {P} {Q} R w method (Leaves thrown h) (Leaves thrown' k) = R.Alike w h k × R.Thrown w thrown thrown'
Agree {D} {P} {Q} R w method (Ends ending h) (Ends ending' k) = R.Alike w h k × (ending ≡ ending')
Agree {D} {P} {Q} R w method Sticks Sticks = Unit {0}
Agree {D} {P} {Q} R w method _ _ = ⊥

-- a course of the first machine's frame that goes on, is still related to the frame of the second, and lowers the number
abbrev pub GoesQuietly : {D : Domain} {P Q : Type 0} (R : FrameRelation D P Q) → R.World → D.Method → ℕ → Course D P → Frame D Q → D.Shared → Type 0
GoesQuietly {D} {P} {Q} R w method n (Goes f h) g k =
    R.Alike w h k × ((fewer : ℕ) × (fewer < n) × R.Runs w method fewer f g)
GoesQuietly {D} {P} {Q} R w method n _ g k = ⊥

-- the first machine's move shows nothing and stands for none of the second
abbrev pub IsQuiet : {D : Domain} {P Q : Type 0} (R : FrameRelation D P Q) → R.World → D.Method → ℕ → Move D P → Frame D Q → D.Shared → Type 0
IsQuiet {D} {P} {Q} R w method n move g k =
    (later : R.World) × R.Later w later × (move.shown ≡ []) × GoesQuietly R later method n move.course g k

-- the two moves show the same and agree
abbrev pub IsMatched : {D : Domain} {P Q : Type 0} (R : FrameRelation D P Q) → R.World → D.Method → Move D P → Move D Q → Type 0
IsMatched {D} {P} {Q} R w method move move' =
    (later : R.World) × R.Later w later × (move.shown ≡ move'.shown) × Agree R later method move.course move'.course

-- both frames catch, and are related as frames that run, or neither does
abbrev pub CatchAlike : {D : Domain} {P Q : Type 0} (R : FrameRelation D P Q) → R.World → D.Method → Option (Frame D P) → Option (Frame D Q) → Type 0
CatchAlike {D} {P} {Q} R w method (Some f) (Some g) = Running R w method f g
CatchAlike {D} {P} {Q} R w method None None = Unit {0}
CatchAlike {D} {P} {Q} R w method _ _ = ⊥

-- the shared parts are related in a later world
abbrev pub AlikeLater : {D : Domain} {P Q : Type 0} (R : FrameRelation D P Q) → R.World → D.Shared → D.Shared → Type 0
AlikeLater R w h k = (later : R.World) × R.Later w later × R.Alike later h k

-- the shared parts and what is thrown are related in a later world
abbrev pub LeaveAlike : {D : Domain} {P Q : Type 0} (R : FrameRelation D P Q) → R.World → D.Thrown → D.Thrown → D.Shared → D.Shared → Type 0
LeaveAlike R w thrown thrown' h k =
    (later : R.World) × R.Later w later × R.Alike later h k × R.Thrown later thrown thrown'
