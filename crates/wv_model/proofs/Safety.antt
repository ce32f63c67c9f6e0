-- From typings of single frames to runs in which no step is stuck.
use Rattle.std.proofs.Common.{◌≡◌, ℕ, zero, suc, List, [], ◌∷◌, Option, Some, None, Bool, true, false, refl, sym, subst, inl, inr}
use Rattle.wv_model.specs.Domain.{Domain}
use Rattle.wv_model.specs.Machine.{unless_ended, advance, after}
use Rattle.wv_model.specs.Frame.{Frame, struck, cleared}
use Rattle.wv_model.specs.Control.{Control, Rules}
use Rattle.wv_model.specs.Course.{Course, Goes, Calls, Gives, Leaves, Ends, Sticks, caught}
use Rattle.wv_model.specs.Step.{Turn, State, pushed, given, thrown_from, settled, shared_after, turn, step, machine, start}
use Rattle.wv_model.specs.Typing.{FrameTyping, Keeps, CatchKeeps, LeaveKeeps, TypingLaws, FramesStick, IsStuck, TypedBelow, none_typed, one_typed, TypedFrames, typed_running, typed_throwing, IsTyped, StateTyped}

-- a frame that catches in its typing, or is left in it where it doesn't catch, keeps it in a later world
pub caught_typed : {D : Domain} {P : Type 0} (control : Control D P) (T : FrameTyping D P) (o : Option (Frame D P)) (frame : Frame D P) (w : T.World) (method : D.Method) (thrown : D.Thrown) (shared : D.Shared) → T.Later w w → T.Sound w shared → CatchKeeps T w method o → (o ≡ None → LeaveKeeps T w thrown (control.left frame shared)) → (later : T.World) × T.Later w later × Keeps T later method (caught control frame o thrown shared)
caught_typed control T (Some handler) frame w method thrown shared same sound catch left = (w, same, (sound, catch))
caught_typed control T None frame w method thrown shared same sound catch left =
    let (later, l, sound', throws) = left refl in
    (later, l, (sound', throws))

module _ {D : Domain} {P : Type 0} (rules : Rules D) (control : Control D P) (T : FrameTyping D P) (law : TypingLaws rules control T) where
  abbrev Fine : Turn D P → Type 0
  Fine turn = IsTyped T turn.ending turn.frames turn.shared

  below_later : {w later : T.World} {called : D.Method} {fs : List (Frame D P)} → T.Later w later → TypedBelow T w called fs → TypedBelow T later called fs
  below_later l none_typed = none_typed
  below_later l (one_typed waits rest) = one_typed (law.still_waits _ _ _ _ _ l waits) (below_later l rest)

  pushed_typed : (b : Bool) (w : T.World) (called : D.Method) (frame : Frame D P) (fs : List (Frame D P)) (shared : D.Shared) (shown : List D.Piece) → T.Sound w shared → T.Runs w called frame → TypedBelow T w called fs → Fine (pushed b rules frame fs shared shown)
  pushed_typed true w called frame fs shared shown sound runs below =
      inl (record { goes = refl; world = w; sound = sound; typed = typed_running runs below })
  pushed_typed false w called frame fs shared shown sound runs below = inr (rules.deep, refl)

  given_typed : (w : T.World) (called : D.Method) (value : Option D.Value) (fs : List (Frame D P)) (shared : D.Shared) (shown : List D.Piece) → T.Sound w shared → T.Given w called value → TypedBelow T w called fs → Fine (given rules control called value fs shared shown)
  given_typed w called value _ shared shown sound gives none_typed = inr (rules.returned, refl)
  given_typed w called value _ shared shown sound gives (one_typed waits rest) =
      inl (record { goes = refl; world = w; sound = sound; typed = typed_running (law.answered _ _ _ _ _ waits gives) rest })

  thrown_typed : (b : Bool) (w : T.World) (called : D.Method) (thrown : D.Thrown) (fs : List (Frame D P)) (shared : D.Shared) (shown : List D.Piece) → T.Sound w shared → T.Thrown w thrown → TypedBelow T w called fs → Fine (thrown_from b rules thrown fs shared shown)
  thrown_typed true w called thrown fs shared shown sound throws below = inr (rules.uncaught thrown shared, refl)
  thrown_typed false w called thrown _ shared shown sound throws none_typed = inr (rules.uncaught thrown shared, refl)
  thrown_typed false w called thrown _ shared shown sound throws (one_typed waits rest) =
      inl (record { goes = refl; world = w; sound = sound; typed = typed_throwing waits throws rest })

  settled_typed : (c : Course D P) (w : T.World) (method : D.Method) (frame : Frame D P) (fs : List (Frame D P)) (shared : D.Shared) (shown : List D.Piece) → frame.method ≡ method → TypedBelow T w method fs → Keeps T w method c → Fine (settled rules control c shown frame fs shared)
  settled_typed (Goes next shared') w method frame fs shared shown e below (sound, runs) =
      inl (record { goes = refl; world = w; sound = sound; typed = typed_running runs below })
  settled_typed (Calls waiting entered shared') w method frame fs shared shown e below (sound, (called, waits, runs)) =
      pushed_typed _ w called entered (waiting ∷ fs) shared' shown sound runs (one_typed waits below)
  settled_typed (Gives value shared') w method frame fs shared shown e below (sound, gives) =
      subst (λ m. Fine (given rules control m value fs shared' shown)) (sym e) (given_typed w method value fs shared' shown sound gives below)
  settled_typed (Leaves thrown shared') w method frame fs shared shown e below (sound, throws) =
      thrown_typed (rules.is_initializer frame.method) w method thrown fs shared' shown sound throws below
  settled_typed (Ends ending shared') w method frame fs shared shown e below keeps = inr (ending, refl)
  settled_typed Sticks w method frame fs shared shown e below keeps = absurd keeps

  closed_typed : (o : Option D.Ending) (frames : List (Frame D P)) (shared : D.Shared) → IsTyped T o frames shared → IsTyped T o frames (shared_after control o shared)
  closed_typed None frames shared typed = typed
  closed_typed (Some e) frames shared typed = inr (e, refl)

  -- a throw that comes back into a frame that waits is caught in the typing, or leaves it
  struck_typed : (o : Option (Frame D P)) (w : T.World) (method : D.Method) (thrown : D.Thrown) (frame : Frame D P) (fs : List (Frame D P)) (shared : D.Shared) → frame.method ≡ method → T.Sound w shared → TypedBelow T w method fs → CatchKeeps T w method o → (o ≡ None → LeaveKeeps T w thrown (control.left (cleared frame) shared)) → Fine (settled rules control (caught control (cleared frame) o thrown shared) [] (struck thrown frame) fs shared)
  struck_typed (Some handler) w method thrown frame fs shared e sound below catch left =
      settled_typed (Goes handler shared) w method (struck thrown frame) fs shared [] e below (sound, catch)
  struck_typed None w method thrown frame fs shared e sound below catch left =
      let (later, l, sound', throws) = left refl in
      settled_typed (Leaves thrown (control.left (cleared frame) shared)) later method (struck thrown frame) fs shared [] e (below_later l below) (sound', throws)

  turn_typed : (w : T.World) (fs : List (Frame D P)) (shared : D.Shared) → T.Sound w shared → TypedFrames T w fs → Fine (turn rules control fs shared)
  turn_typed w _ shared sound (typed_running {method} {frame} {frames} runs below) =
      let (later, l, keeps) = law.runs w method frame shared sound runs in
      closed_typed _ _ _ (settled_typed _ later method frame frames shared _ (law.running_method w method frame runs) (below_later l below) keeps)
  turn_typed w _ shared sound (typed_throwing {method} {called} {thrown} {frame} {frames} waits throws below) =
      let catch = law.catches w method called thrown frame shared sound waits throws in
      let leaves = law.leaves w method called thrown frame shared sound waits throws in
      closed_typed _ _ _ (struck_typed _ w method thrown frame frames shared (law.waiting_method w method called frame waits) sound below catch leaves)

  never_sticks : (c : Course D P) (w : T.World) (method : D.Method) → Keeps T w method c → c ≡ Sticks → ⊥
  never_sticks c w method keeps e = subst (Keeps T w method) e keeps

  caught_goes : (o : Option (Frame D P)) (frame : Frame D P) (thrown : D.Thrown) (shared : D.Shared) → caught control frame o thrown shared ≡ Sticks → ⊥
  caught_goes (Some handler) frame thrown shared e = absurd cc
  caught_goes None frame thrown shared e = absurd cc

  frames_go : (w : T.World) (fs : List (Frame D P)) (shared : D.Shared) → T.Sound w shared → TypedFrames T w fs → FramesStick control fs shared → ⊥
  frames_go w _ shared sound (typed_running {method} {frame} runs below) stuck =
      let (later, l, keeps) = law.runs w method frame shared sound runs in
      never_sticks _ later method keeps stuck
  frames_go w _ shared sound (typed_throwing {method} {called} {thrown} {frame} waits throws below) stuck =
      caught_goes _ (cleared frame) thrown shared stuck

  advance_typed : (s : State D P) (o : Option D.Ending) → s.ending ≡ o → StateTyped T s → StateTyped T (unless_ended o s (step rules control s))
  advance_typed s (Some e) ended typed = typed
  advance_typed s None going (inl typed) = turn_typed typed.world s.frames s.shared typed.sound typed.typed
  advance_typed s None going (inr (e, ended)) = absurd (cc (ended, going))

  pub stays_typed : (n : ℕ) (s : State D P) → StateTyped T s → StateTyped T (after (machine rules control) n s)
  stays_typed zero s typed = typed
  stays_typed (suc n) s typed = stays_typed n (advance (machine rules control) s) (advance_typed s s.ending refl typed)

  typed_goes : (s : State D P) → StateTyped T s → IsStuck control s → ⊥
  typed_goes s (inl typed) stuck = frames_go typed.world s.frames s.shared typed.sound typed.typed stuck.1
  typed_goes s (inr (e, ended)) stuck = let going = stuck.0 in absurd (cc (ended, going))

  pub starts_typed : (w : T.World) (method : D.Method) (frame : Frame D P) (shared : D.Shared) → T.Sound w shared → T.Runs w method frame → StateTyped T (start frame shared)
  starts_typed w method frame shared sound runs =
      inl (record { goes = refl; world = w; sound = sound; typed = typed_running runs none_typed })

  pub never_stuck : (s : State D P) (n : ℕ) → StateTyped T s → IsStuck control (after (machine rules control) n s) → ⊥
  never_stuck s n typed = typed_goes (after (machine rules control) n s) (stays_typed n s typed)
