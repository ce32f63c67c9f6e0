-- What tells one machine from another: its places and how frames move over them. Our own.
use Rattle.std.specs.Prelude.{ℕ, List, Option, Bool}
use Rattle.wv_model.specs.Domain.{Domain}
use Rattle.wv_model.specs.Effect.{Row}
use Rattle.wv_model.specs.Frame.{Frame}

-- how the frames of a thread move. What moves a frame gives the frame that goes on, and not a place alone, so that a
-- machine whose places keep values (a callback that it made) can move them
pub record Control (D : Domain) (Place : Type 0) : Type 0 where
  -- the row of the step that stands at the frame's place
  pub effect : Frame D Place → D.Shared → Row D
  -- the frame at what follows its place
  pub next : Frame D Place → Frame D Place
  -- the frame at the k-th target of its place
  pub jump : ℕ → Frame D Place → Frame D Place
  -- the frame of a method that is called with these arguments
  pub enter : D.Method → List D.Value → Frame D Place
  -- what a method gives, made regular by its descriptor
  pub result : D.Method → Option D.Value → Option D.Value
  -- the waiting frame after the called method gave this
  pub answer : D.Method → Option D.Value → Frame D Place → Frame D Place
  -- the frame at the handler that catches the thrown object, if the frame's place is covered by one
  pub catch : D.Thrown → D.Shared → Frame D Place → Option (Frame D Place)
  -- the shared part after the frame is left, by a return or a throw: here a synchronized method releases its monitor
  -- (JVM Specification 2.11.10)
  pub left : Frame D Place → D.Shared → D.Shared
  -- the shared part after the thread has ended, however it did: here rows of other threads can learn of it
  pub ended : D.Ending → D.Shared → D.Shared

-- what two machines have in common besides: which methods initialize classes, what is shown last where the start frame
-- gives something, and the endings of the driver itself
pub record Rules (D : Domain) : Type 0 where
  pub is_initializer : D.Method → Bool
  pub last : Option D.Value → D.Shared → List D.Piece
  pub returned : D.Ending
  pub deep : D.Ending
  pub uncaught : D.Thrown → D.Shared → D.Ending
