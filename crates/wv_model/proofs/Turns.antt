-- From single frames to the frames of a whole thread.
use Rattle.std.proofs.Common.{◌≡◌, ℕ, zero, suc, ◌⊎◌, List, [], ◌∷◌, length, Option, Some, None, Bool, true, false, refl, sym, ap, ◌∙◌, subst, inl, inr}
use Rattle.std.specs.Prelude.{nat_lt}
use Rattle.wv_model.specs.Domain.{Domain}
use Rattle.wv_model.specs.Frame.{Frame, struck, cleared}
use Rattle.wv_model.specs.Control.{Control, Rules}
use Rattle.wv_model.specs.Course.{Course, Goes, Calls, Gives, Leaves, Ends, Sticks, caught}
use Rattle.wv_model.specs.Step.{frame_limit, Turn, pushed, given, passed_down, thrown_from, settled, shared_after, closed, turn}
use Rattle.wv_model.specs.FrameRelation.{FrameRelation, Running, Agree, GoesQuietly, CatchAlike, AlikeLater, LeaveAlike}
use Rattle.wv_model.specs.FrameLaws.{FrameLaws}
use Rattle.wv_model.specs.Lifted.{Waiting, none_below, one_below, RelatedFrames, running, throwing, QuietTurn, TurnsAgree}

-- frames that catch alike, or are left alike where they don't catch, have courses that agree in a later world
pub caught_agree : {D : Domain} {P Q : Type 0} (first : Control D P) (second : Control D Q) (R : FrameRelation D P Q) (o : Option (Frame D P)) (o' : Option (Frame D Q)) (f : Frame D P) (g : Frame D Q) (w : R.World) (method : D.Method) (thrown thrown' : D.Thrown) (h k : D.Shared) → R.Later w w → R.Alike w h k → CatchAlike R w method o o' → (o ≡ None → LeaveAlike R w thrown thrown' (first.left f h) (second.left g k)) → (later : R.World) × R.Later w later × Agree R later method (caught first f o thrown h) (caught second g o' thrown' k)
caught_agree first second R (Some f') (Some g') f g w method thrown thrown' h k same alike catch left = (w, same, (alike, catch))
caught_agree first second R None None f g w method thrown thrown' h k same alike catch left =
    let (later, l, alike', throws) = left refl in
    (later, l, (alike', throws))
caught_agree first second R (Some f') None f g w method thrown thrown' h k same alike catch left = absurd catch
caught_agree first second R None (Some g') f g w method thrown thrown' h k same alike catch left = absurd catch

module _ (factor : ℕ) {D : Domain} {P Q : Type 0} (rules : Rules D) (first : Control D P) (second : Control D Q) (R : FrameRelation D P Q) (law : FrameLaws factor rules first second R) where
  pub waiting_later : {w later : R.World} {called : D.Method} {fs : List (Frame D P)} {gs : List (Frame D Q)} → R.Later w later → Waiting R w called fs gs → Waiting R later called fs gs
  waiting_later l none_below = none_below
  waiting_later l (one_below waits rest) =
      one_below (law.still_waits _ _ _ _ _ _ l waits) (waiting_later l rest)

  waiting_length : {w : R.World} {called : D.Method} {fs : List (Frame D P)} {gs : List (Frame D Q)} → Waiting R w called fs gs → length fs ≡ length gs
  waiting_length none_below = refl
  waiting_length (one_below waits rest) = ap suc (waiting_length rest)

  pushed_agree : (b b' : Bool) (w later : R.World) (called : D.Method) (f : Frame D P) (g : Frame D Q) (fs : List (Frame D P)) (gs : List (Frame D Q)) (h k : D.Shared) (shown shown' : List D.Piece) → b ≡ b' → R.Later w later → R.Alike later h k → Running R later called f g → Waiting R later called fs gs → shown ≡ shown' → TurnsAgree R w (pushed b rules f fs h shown) (pushed b' rules g gs k shown')
  pushed_agree true true w later called f g fs gs h k shown shown' e l alike (n, runs) waiting same =
      (same, inl (record { first_goes = refl; second_goes = refl; world = later; is_later = l; alike = alike; number = n; frames = running runs waiting }))
  pushed_agree false false w later called f g fs gs h k shown shown' e l alike runs waiting same =
      (same, inr (record { ending = rules.deep; first_ends = refl; second_ends = refl; world = later; is_later = l; alike = alike }))
  pushed_agree true false w later called f g fs gs h k shown shown' e l alike runs waiting same = absurd cc
  pushed_agree false true w later called f g fs gs h k shown shown' e l alike runs waiting same = absurd cc

  given_agree : (w later : R.World) (called : D.Method) (value value' : Option D.Value) (fs : List (Frame D P)) (gs : List (Frame D Q)) (h k : D.Shared) (shown shown' : List D.Piece) → R.Later w later → R.Alike later h k → R.Given later called value value' → Waiting R later called fs gs → shown ≡ shown' → TurnsAgree R w (given rules first called value fs h shown) (given rules second called value' gs k shown')
  given_agree w later called value value' _ _ h k shown shown' l alike gives none_below same =
      let last = law.last_alike later called value value' h k alike gives in
      (cc, inr (record { ending = rules.returned; first_ends = refl; second_ends = refl; world = later; is_later = l; alike = alike }))
  given_agree w later called value value' _ _ h k shown shown' l alike gives (one_below waits rest) same =
      let (n, runs) = law.answered _ _ _ _ _ _ _ waits gives in
      (same, inl (record { first_goes = refl; second_goes = refl; world = later; is_later = l; alike = alike; number = n; frames = running runs rest }))

  passed_agree : (w later : R.World) (called : D.Method) (thrown thrown' : D.Thrown) (fs : List (Frame D P)) (gs : List (Frame D Q)) (h k : D.Shared) (shown shown' : List D.Piece) → R.Later w later → R.Alike later h k → R.Thrown later thrown thrown' → Waiting R later called fs gs → shown ≡ shown' → TurnsAgree R w (passed_down rules thrown fs h shown) (passed_down rules thrown' gs k shown')
  passed_agree w later called thrown thrown' _ _ h k shown shown' l alike throws none_below same =
      (same, inr (record { ending = rules.uncaught thrown h; first_ends = refl; second_ends = ap Some (sym (law.uncaught_alike later thrown thrown' h k alike throws)); world = later; is_later = l; alike = alike }))
  passed_agree w later called thrown thrown' _ _ h k shown shown' l alike throws (one_below waits rest) same =
      (same, inl (record { first_goes = refl; second_goes = refl; world = later; is_later = l; alike = alike; number = zero; frames = throwing waits throws rest }))

  thrown_agree : (b : Bool) (w later : R.World) (called : D.Method) (thrown thrown' : D.Thrown) (fs : List (Frame D P)) (gs : List (Frame D Q)) (h k : D.Shared) (shown shown' : List D.Piece) → R.Later w later → R.Alike later h k → R.Thrown later thrown thrown' → Waiting R later called fs gs → shown ≡ shown' → TurnsAgree R w (thrown_from b rules thrown fs h shown) (thrown_from b rules thrown' gs k shown')
  thrown_agree true w later called thrown thrown' fs gs h k shown shown' l alike throws waiting same =
      (same, inr (record { ending = rules.uncaught thrown h; first_ends = refl; second_ends = ap Some (sym (law.uncaught_alike later thrown thrown' h k alike throws)); world = later; is_later = l; alike = alike }))
  thrown_agree false w later called thrown thrown' fs gs h k shown shown' l alike throws waiting same =
      passed_agree w later called thrown thrown' fs gs h k shown shown' l alike throws waiting same

  -- courses that agree come to turns that agree
  settled_agree : (c : Course D P) (c' : Course D Q) (w later : R.World) (method : D.Method) (n : ℕ) (f : Frame D P) (g : Frame D Q) (fs : List (Frame D P)) (gs : List (Frame D Q)) (h k : D.Shared) (shown shown' : List D.Piece) → f.method ≡ method → g.method ≡ method → R.Later w later → R.Alike w h k → Waiting R w method fs gs → RelatedFrames R w n (f ∷ fs) (g ∷ gs) → shown ≡ shown' → Agree R later method c c' → TurnsAgree R w (settled rules first c shown f fs h) (settled rules second c' shown' g gs k)
  settled_agree (Goes f' h') (Goes g' k') w later method n f g fs gs h k shown shown' ef eg l alike waiting frames same (alike', (n', runs)) =
      (same, inl (record { first_goes = refl; second_goes = refl; world = later; is_later = l; alike = alike'; number = n'; frames = running runs (waiting_later l waiting) }))
  settled_agree (Calls f' entered h') (Calls g' entered' k') w later method n f g fs gs h k shown shown' ef eg l alike waiting frames same (alike', (called, waits, runs)) =
      let room = ap (λ m. nat_lt (suc m) frame_limit) (waiting_length waiting) in
      pushed_agree _ _ w later called entered entered' (f' ∷ fs) (g' ∷ gs) h' k' shown shown' room l alike' runs (one_below waits (waiting_later l waiting)) same
  settled_agree (Gives value h') (Gives value' k') w later method n f g fs gs h k shown shown' ef eg l alike waiting frames same (alike', gives) =
      let agree = given_agree w later method value value' fs gs h' k' shown shown' l alike' gives (waiting_later l waiting) same in
      subst (λ m. TurnsAgree R w (given rules first m value fs h' shown) (given rules second g.method value' gs k' shown')) (sym ef) (subst (λ m. TurnsAgree R w (given rules first method value fs h' shown) (given rules second m value' gs k' shown')) (sym eg) agree)
  settled_agree (Leaves thrown h') (Leaves thrown' k') w later method n f g fs gs h k shown shown' ef eg l alike waiting frames same (alike', throws) =
      let agree = thrown_agree (rules.is_initializer f.method) w later method thrown thrown' fs gs h' k' shown shown' l alike' throws (waiting_later l waiting) same in
      subst (λ m. TurnsAgree R w (thrown_from (rules.is_initializer f.method) rules thrown fs h' shown) (thrown_from (rules.is_initializer m) rules thrown' gs k' shown')) (ef ∙ sym eg) agree
  settled_agree (Ends ending h') (Ends ending' k') w later method n f g fs gs h k shown shown' ef eg l alike waiting frames same (alike', e) =
      (same, inr (record { ending = ending; first_ends = refl; second_ends = ap Some (sym e); world = later; is_later = l; alike = alike' }))
  settled_agree Sticks Sticks w later method n f g fs gs h k shown shown' ef eg l alike waiting frames same agree =
      (refl, inl (record { first_goes = refl; second_goes = refl; world = w; is_later = law.same_world w; alike = alike; number = n; frames = frames }))
  settled_agree _ _ w later method n f g fs gs h k shown shown' ef eg l alike waiting frames same agree = absurd agree

  -- a quiet course comes to a quiet turn
  settled_quietly : (c : Course D P) (w later : R.World) (method : D.Method) (n : ℕ) (f : Frame D P) (g : Frame D Q) (fs : List (Frame D P)) (gs : List (Frame D Q)) (h k : D.Shared) (shown : List D.Piece) → R.Later w later → Waiting R w method fs gs → shown ≡ [] → GoesQuietly R later method n c g k → QuietTurn R w n (closed first (settled rules first c shown f fs h)) (g ∷ gs) k
  settled_quietly (Goes f' h') w later method n f g fs gs h k shown l waiting unseen (alike, (fewer, less, runs)) =
      record { unseen = unseen; goes = refl; world = later; is_later = l; alike = alike; number = fewer; fewer = less; frames = running runs (waiting_later l waiting) }
  settled_quietly _ w later method n f g fs gs h k shown l waiting unseen quiet = absurd quiet

  still_alike : (o o' : Option D.Ending) (w : R.World) (h k : D.Shared) → o ≡ None → o' ≡ None → R.Alike w h k → R.Alike w (shared_after first o h) (shared_after second o' k)
  still_alike None None w h k goes goes' alike = alike
  still_alike (Some e) _ w h k goes goes' alike = absurd cc
  still_alike None (Some e) w h k goes goes' alike = absurd cc

  ended_alike : (o o' : Option D.Ending) (w : R.World) (ending : D.Ending) (h k : D.Shared) → o ≡ Some ending → o' ≡ Some ending → R.Alike w h k → AlikeLater R w (shared_after first o h) (shared_after second o' k)
  ended_alike o o' w ending h k ends ends' alike =
      let both = law.ends w ending h k alike in
      subst (λ e. AlikeLater R w (shared_after first e h) (shared_after second o' k)) (sym ends) (subst (λ e. AlikeLater R w (first.ended ending h) (shared_after second e k)) (sym ends') both)

  -- turns that agree do so where the thread's end has done its part
  closed_agree : (w : R.World) (turn : Turn D P) (turn' : Turn D Q) → TurnsAgree R w turn turn' → TurnsAgree R w (closed first turn) (closed second turn')
  closed_agree w turn turn' (same, inl both) =
      let alike = still_alike turn.ending turn'.ending both.world turn.shared turn'.shared both.first_goes both.second_goes both.alike in
      (same, inl (record { first_goes = both.first_goes; second_goes = both.second_goes; world = both.world; is_later = both.is_later; alike = alike; number = both.number; frames = both.frames }))
  closed_agree w turn turn' (same, inr both) =
      let (last, l, alike) = ended_alike turn.ending turn'.ending both.world both.ending turn.shared turn'.shared both.first_ends both.second_ends both.alike in
      (same, inr (record { ending = both.ending; first_ends = both.first_ends; second_ends = both.second_ends; world = last; is_later = law.later_still _ _ _ both.is_later l; alike = alike }))

  -- a turn of the first machine is quiet, or agrees with a turn of the second
  pub turns_agree : (w : R.World) (n : ℕ) (fs : List (Frame D P)) (gs : List (Frame D Q)) (h k : D.Shared) → R.Alike w h k → RelatedFrames R w n fs gs → QuietTurn R w n (turn rules first fs h) gs k ⊎ TurnsAgree R w (turn rules first fs h) (turn rules second gs k)
  turns_agree w n _ _ h k alike (running {method} {f} {g} {fs} {gs} runs waiting) =
      let (ef, eg) = law.running_method w method n f g runs in
      elim (law.runs w method n f g h k alike runs) [
        | inl quiet ↦ inl (settled_quietly _ w quiet.0 method n f g fs gs h k _ quiet.1 waiting quiet.2 quiet.3)
        | inr both ↦ inr (closed_agree w _ _ (settled_agree _ _ w both.0 method n f g fs gs h k _ _ ef eg both.1 alike waiting (running runs waiting) both.2 both.3))
      ]
  turns_agree w _ _ _ h k alike (throwing {method} {called} {thrown} {thrown'} {f} {g} {fs} {gs} waits throws waiting) =
      let (ef, eg) = law.waiting_method w method called f g waits in
      let catch = law.catches w method called thrown thrown' f g h k alike waits throws in
      let leaves = law.leaves w method called thrown thrown' f g h k alike waits throws in
      let (later, l, agree) = caught_agree first second R _ _ (cleared f) (cleared g) w method thrown thrown' h k (law.same_world w) alike catch leaves in
      inr (closed_agree w _ _ (settled_agree _ _ w later method zero (struck thrown f) (struck thrown' g) fs gs h k [] [] ef eg l alike waiting (throwing waits throws waiting) refl agree))
