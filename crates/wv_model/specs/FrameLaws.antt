-- The laws on single frames from which whole states follow. Our own.
use Rattle.std.specs.Prelude.{◌≡◌, ℕ, ◌<◌, ◌⊎◌, Option, None}
use Rattle.wv_model.specs.Domain.{Domain}
use Rattle.wv_model.specs.Frame.{Frame, cleared}
use Rattle.wv_model.specs.Control.{Control, Rules}
use Rattle.wv_model.specs.Course.{move, resumed}
use Rattle.wv_model.specs.FrameRelation.{FrameRelation, Running, IsQuiet, IsMatched, CatchAlike, AlikeLater, LeaveAlike}

-- what two machines with the same rules owe of single frames
pub record FrameLaws (factor : ℕ) {D : Domain} {P Q : Type 0} (rules : Rules D) (first : Control D P) (second : Control D Q) (R : FrameRelation D P Q) : Type 0 where
  -- a world is later than itself, one later than a later world is later, and what waits stays related in later worlds
  pub same_world : (w : R.World) → R.Later w w
  pub later_still : (w later last : R.World) → R.Later w later → R.Later later last → R.Later w last
  pub still_waits : (w later : R.World) (method called : D.Method) (f : Frame D P) (g : Frame D Q) → R.Later w later → R.Waits w method called f g → R.Waits later method called f g
  -- the relations name the frames' method
  pub running_method : (w : R.World) (method : D.Method) (n : ℕ) (f : Frame D P) (g : Frame D Q) → R.Runs w method n f g → (f.method ≡ method) × (g.method ≡ method)
  pub waiting_method : (w : R.World) (method called : D.Method) (f : Frame D P) (g : Frame D Q) → R.Waits w method called f g → (f.method ≡ method) × (g.method ≡ method)
  -- the number stays below the factor, strictly
  pub below : (w : R.World) (method : D.Method) (n : ℕ) (f : Frame D P) (g : Frame D Q) → R.Runs w method n f g → n < factor
  -- what runs is quiet or matched
  pub runs : (w : R.World) (method : D.Method) (n : ℕ) (f : Frame D P) (g : Frame D Q) (h k : D.Shared) → R.Alike w h k → R.Runs w method n f g → IsQuiet R w method n (move first f h) g k ⊎ IsMatched R w method (move first f h) (move second g k)
  -- what waits and is answered runs
  pub answered : (w : R.World) (method called : D.Method) (value value' : Option D.Value) (f : Frame D P) (g : Frame D Q) → R.Waits w method called f g → R.Given w called value value' → Running R w method (resumed rules first called value f) (resumed rules second called value' g)
  -- of what waits, both catch or neither does
  pub catches : (w : R.World) (method called : D.Method) (thrown thrown' : D.Thrown) (f : Frame D P) (g : Frame D Q) (h k : D.Shared) → R.Alike w h k → R.Waits w method called f g → R.Thrown w thrown thrown' → CatchAlike R w method (first.catch thrown h (cleared f)) (second.catch thrown' k (cleared g))
  -- what waits and doesn't catch leaves related shared parts behind, and so does a thread that ends
  pub leaves : (w : R.World) (method called : D.Method) (thrown thrown' : D.Thrown) (f : Frame D P) (g : Frame D Q) (h k : D.Shared) → R.Alike w h k → R.Waits w method called f g → R.Thrown w thrown thrown' → first.catch thrown h (cleared f) ≡ None → LeaveAlike R w thrown thrown' (first.left (cleared f) h) (second.left (cleared g) k)
  pub ends : (w : R.World) (ending : D.Ending) (h k : D.Shared) → R.Alike w h k → AlikeLater R w (first.ended ending h) (second.ended ending k)
  -- what the start frame gives is shown alike, and what leaves it is named alike
  pub last_alike : (w : R.World) (method : D.Method) (value value' : Option D.Value) (h k : D.Shared) → R.Alike w h k → R.Given w method value value' → rules.last value h ≡ rules.last value' k
  pub uncaught_alike : (w : R.World) (thrown thrown' : D.Thrown) (h k : D.Shared) → R.Alike w h k → R.Thrown w thrown thrown' → rules.uncaught thrown h ≡ rules.uncaught thrown' k
