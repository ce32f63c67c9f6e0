-- No run has more frames than the limit.
use Rattle.std.proofs.Common.{◌≡◌, ℕ, zero, suc, ◌≤◌, List, [], ◌∷◌, length, Option, Some, None, Bool, true, false, refl, arith}
use Rattle.std.specs.Prelude.{nat_lt}
use Rattle.std.proofs.lemmas.Bool.{ltb-true}
use Rattle.wv_model.specs.Domain.{Domain}
use Rattle.wv_model.specs.Machine.{unless_ended, advance, after}
use Rattle.wv_model.specs.Frame.{Frame}
use Rattle.wv_model.specs.Control.{Control, Rules}
use Rattle.wv_model.specs.Course.{Course, Goes, Calls, Gives, Leaves, Ends, Sticks}
use Rattle.wv_model.specs.Step.{frame_limit, pushed, given, thrown_from, settled, turn, State, step, machine, start}

module _ {D : Domain} {P : Type 0} (rules : Rules D) (control : Control D P) where
  abbrev Fits : List (Frame D P) → Type 0
  Fits frames = length frames ≤ frame_limit

  pushed_fits : (b : Bool) (frame : Frame D P) (frames : List (Frame D P)) (shared : D.Shared) (shown : List D.Piece) → nat_lt (length frames) frame_limit ≡ b → Fits frames → Fits (pushed b rules frame frames shared shown).frames
  pushed_fits true frame frames shared shown room fits = ltb-true (length frames) frame_limit room
  pushed_fits false frame frames shared shown room fits = fits

  given_fits : (called : D.Method) (value : Option D.Value) (frames : List (Frame D P)) (shared : D.Shared) (shown : List D.Piece) → Fits frames → Fits (given rules control called value frames shared shown).frames
  given_fits called value [] shared shown fits = fits
  given_fits called value (frame ∷ frames) shared shown fits = fits

  thrown_fits : (b : Bool) (thrown : D.Thrown) (frames : List (Frame D P)) (shared : D.Shared) (shown : List D.Piece) → Fits frames → Fits (thrown_from b rules thrown frames shared shown).frames
  thrown_fits true thrown frames shared shown fits = fits
  thrown_fits false thrown [] shared shown fits = fits
  thrown_fits false thrown (frame ∷ frames) shared shown fits = fits

  settled_fits : (c : Course D P) (shown : List D.Piece) (top : Frame D P) (below : List (Frame D P)) (shared : D.Shared) → Fits (top ∷ below) → Fits (settled rules control c shown top below shared).frames
  settled_fits (Goes frame shared') shown top below shared fits = fits
  settled_fits (Calls waiting entered shared') shown top below shared fits =
      pushed_fits _ entered (waiting ∷ below) shared' shown refl fits
  settled_fits (Gives value shared') shown top below shared fits =
      given_fits top.method value below shared' shown (omega arith)
  settled_fits (Leaves thrown shared') shown top below shared fits =
      thrown_fits (rules.is_initializer top.method) thrown below shared' shown (omega arith)
  settled_fits (Ends ending shared') shown top below shared fits = fits
  settled_fits Sticks shown top below shared fits = fits

  turn_fits : (frames : List (Frame D P)) (shared : D.Shared) → Fits frames → Fits (turn rules control frames shared).frames
  turn_fits [] shared fits = fits
  turn_fits (top ∷ below) shared fits = settled_fits _ _ top below shared fits

  advance_fits : (o : Option D.Ending) (s : State D P) → Fits s.frames → Fits (unless_ended o s (step rules control s)).frames
  advance_fits (Some e) s fits = fits
  advance_fits None s fits = turn_fits s.frames s.shared fits

  after_fits : (n : ℕ) (s : State D P) → Fits s.frames → Fits (after (machine rules control) n s).frames
  after_fits zero s fits = fits
  after_fits (suc n) s fits = after_fits n (advance (machine rules control) s) (advance_fits s.ending s fits)

  pub frames_fit : (frame : Frame D P) (shared : D.Shared) (n : ℕ) → length (after (machine rules control) n (start frame shared)).frames ≤ frame_limit
  frames_fit frame shared n = after_fits n (start frame shared) (omega arith)
