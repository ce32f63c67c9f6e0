-- How whole states are related, from the relation of single frames. Our own.
use Rattle.std.specs.Prelude.{◌≡◌, ℕ, zero, ◌<◌, ◌⊎◌, List, [], ◌∷◌, Some, None}
use Rattle.wv_model.specs.Domain.{Domain}
use Rattle.wv_model.specs.Frame.{Frame, struck}
use Rattle.wv_model.specs.Step.{Turn, State}
use Rattle.wv_model.specs.FrameRelation.{FrameRelation}

-- the frames below a frame of the called method wait for it, and each waits for the one above it
pub data Waiting {D : Domain} {P Q : Type 0} (R : FrameRelation D P Q) (w : R.World) : D.Method → List (Frame D P) → List (Frame D Q) → Type 0 where
  none_below : {called : D.Method} → Waiting R w called [] []
  one_below : {method called : D.Method} {f : Frame D P} {g : Frame D Q} {fs : List (Frame D P)} {gs : List (Frame D Q)} → R.Waits w method called f g → Waiting R w method fs gs → Waiting R w called (f ∷ fs) (g ∷ gs)

-- the frames of two threads: the top ones run, or wait and have a throw come back into them
pub data RelatedFrames {D : Domain} {P Q : Type 0} (R : FrameRelation D P Q) (w : R.World) : ℕ → List (Frame D P) → List (Frame D Q) → Type 0 where
  running : {method : D.Method} {n : ℕ} {f : Frame D P} {g : Frame D Q} {fs : List (Frame D P)} {gs : List (Frame D Q)} → R.Runs w method n f g → Waiting R w method fs gs → RelatedFrames R w n (f ∷ fs) (g ∷ gs)
  throwing : {method called : D.Method} {thrown thrown' : D.Thrown} {f : Frame D P} {g : Frame D Q} {fs : List (Frame D P)} {gs : List (Frame D Q)} → R.Waits w method called f g → R.Thrown w thrown thrown' → Waiting R w method fs gs → RelatedFrames R w zero (struck thrown f ∷ fs) (struck thrown' g ∷ gs)

-- the first machine's turn shows nothing, ends nothing and lowers the number, and the second thread stays
pub record QuietTurn {D : Domain} {P Q : Type 0} (R : FrameRelation D P Q) (w : R.World) (n : ℕ) (turn : Turn D P) (gs : List (Frame D Q)) (k : D.Shared) : Type 0 where
  pub unseen : turn.shown ≡ []
  pub goes : turn.ending ≡ None
  pub world : R.World
  pub is_later : R.Later w world
  pub alike : R.Alike world turn.shared k
  pub number : ℕ
  pub fewer : number < n
  pub frames : RelatedFrames R world number turn.frames gs

-- two turns after which both threads go on, related in a later world
pub record BothGo {D : Domain} {P Q : Type 0} (R : FrameRelation D P Q) (w : R.World) (turn : Turn D P) (turn' : Turn D Q) : Type 0 where
  pub first_goes : turn.ending ≡ None
  pub second_goes : turn'.ending ≡ None
  pub world : R.World
  pub is_later : R.Later w world
  pub alike : R.Alike world turn.shared turn'.shared
  pub number : ℕ
  pub frames : RelatedFrames R world number turn.frames turn'.frames

-- two turns that end alike, and leave shared parts that are related in a later world
pub record BothEnd {D : Domain} {P Q : Type 0} (R : FrameRelation D P Q) (w : R.World) (turn : Turn D P) (turn' : Turn D Q) : Type 0 where
  pub ending : D.Ending
  pub first_ends : turn.ending ≡ Some ending
  pub second_ends : turn'.ending ≡ Some ending
  pub world : R.World
  pub is_later : R.Later w world
  pub alike : R.Alike world turn.shared turn'.shared

-- two turns that show the same, and go on related or end alike
abbrev pub TurnsAgree : {D : Domain} {P Q : Type 0} (R : FrameRelation D P Q) → R.World → Turn D P → Turn D Q → Type 0
TurnsAgree R w turn turn' = (turn.shown ≡ turn'.shown) × (BothGo R w turn turn' ⊎ BothEnd R w turn turn')

-- two states that go on, related in some world
pub record GoOn {D : Domain} {P Q : Type 0} (R : FrameRelation D P Q) (n : ℕ) (s : State D P) (t : State D Q) : Type 0 where
  pub first_goes : s.ending ≡ None
  pub second_goes : t.ending ≡ None
  pub world : R.World
  pub alike : R.Alike world s.shared t.shared
  pub frames : RelatedFrames R world n s.frames t.frames

-- two states that have ended alike
pub record HaveEnded {D : Domain} {P Q : Type 0} (n : ℕ) (s : State D P) (t : State D Q) : Type 0 where
  pub none_left : n ≡ 0
  pub ending : D.Ending
  pub first_ended : s.ending ≡ Some ending
  pub second_ended : t.ending ≡ Some ending

-- two states that have shown the same, and go on related or have ended alike
pub record Lifted {D : Domain} {P Q : Type 0} (R : FrameRelation D P Q) (n : ℕ) (s : State D P) (t : State D Q) : Type 0 where
  pub same_trace : s.trace ≡ t.trace
  pub either : GoOn R n s t ⊎ HaveEnded n s t
