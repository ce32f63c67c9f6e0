-- The toy's woven code and its hook machine meet the laws on single frames.
use Rattle.std.proofs.Common.{◌≡◌, ℕ, suc, ◌<◌, ◌≤◌, ◌⊎◌, List, [], ◌∷◌, Option, Some, None, refl, sym, ap, ◌∙◌, subst, inl, inr, arith}
use Rattle.wv_model.specs.Frame.{Frame, cleared}
use Rattle.wv_model.specs.Course.{move, resumed}
use Rattle.wv_model.specs.FrameRelation.{OneShared, one_shared, Running, IsQuiet, IsMatched, CatchAlike, AlikeLater, LeaveAlike}
use Rattle.wv_model.specs.FrameLaws.{FrameLaws}
use Rattle.wv_model.specs.Threads.{ThreadLaws}
use Rattle.wv_model.specs.Toy.{Instr, Idle, Say, Invoke, Throw, Catch, Return, Uncaught, Spot, At, blocks, expand, toy, toy_rules, frame_at, moved_to, behind_catch, caught_at, behind_catching_spot, ToyEnding, hooked, woven, lead, ToyRuns, at_spot, at_call, at_end, ToyWaits, for_hook, for_instr, toy_relation}
use Rattle.wv_model.proofs.Turns.{caught_agree}

expanded : Option (List Spot) → Option (List Instr)
expanded None = None
expanded (Some spots) = Some (expand spots)

-- a block catches nothing
skips_blocks : (methods : List ℕ) (rest : List Instr) → behind_catch (blocks methods rest) ≡ behind_catch rest
skips_blocks [] rest = refl
skips_blocks (method ∷ methods) rest = skips_blocks methods rest

one_more : (instr : Instr) (spots : List Spot) → behind_catch (expand spots) ≡ expanded (behind_catching_spot spots) → behind_catch (instr ∷ expand spots) ≡ expanded (caught_at instr spots (behind_catching_spot spots))
unfolding expanded
one_more Catch spots h = refl
one_more _ spots h = h

catches_at : (spots : List Spot) → behind_catch (expand spots) ≡ expanded (behind_catching_spot spots)
unfolding expanded
catches_at [] = refl
catches_at (At methods instr ∷ spots) =
    skips_blocks methods (instr ∷ expand spots) ∙ one_more instr spots (catches_at spots)

lead_below_two : (spots : List Spot) → lead spots < 2
lead_below_two [] = omega arith
lead_below_two (At [] instr ∷ spots) = omega arith
lead_below_two (At (method ∷ methods) instr ∷ spots) = omega arith

catch_alike : (said method : ℕ) (locals stack : List ℕ) (code : List Instr) (spots : List Spot) (o : Option (List Instr)) (o' : Option (List Spot)) → o ≡ expanded o' → CatchAlike toy_relation said method (moved_to (frame_at method code locals stack) o) (moved_to (frame_at method spots locals stack) o')
unfolding expanded
catch_alike said method locals stack code spots None None e = tt
catch_alike said method locals stack code spots (Some left) (Some spots') e =
    let here : left ≡ expand spots' = cc in
    (lead spots', subst (λ place. ToyRuns said method (lead spots') (frame_at method place locals stack) (frame_at method spots' locals stack)) (sym here) at_spot)
catch_alike said method locals stack code spots None (Some spots') e = absurd cc
catch_alike said method locals stack code spots (Some left) None e = absurd cc

module _ (body : ℕ → List Spot) where
  -- what the first law asks of two frames
  Law : ℕ → ℕ → ℕ → Frame toy (List Instr) → Frame toy (List Spot) → Type 0
  Law said method n f g = IsQuiet toy_relation said method n (move (woven body) f said) g said ⊎ IsMatched toy_relation said method (move (woven body) f said) (move (hooked body) g said)

  instr_law : (instr : Instr) (said method : ℕ) (spots : List Spot) (locals stack : List ℕ) → Law said method 0 (frame_at method (instr ∷ expand spots) locals stack) (frame_at method (At [] instr ∷ spots) locals stack)
  unfolding Law
  instr_law Idle said method spots locals stack = inr (said, tt, refl, (one_shared, (lead spots, at_spot)))
  instr_law (Say number) said method spots locals stack =
      inr (suc said, tt, refl, (one_shared, (lead spots, at_spot)))
  instr_law (Invoke called) said method spots locals stack =
      inr (said, tt, refl, (one_shared, (called, for_instr, (lead (body called), at_spot))))
  instr_law (Throw number) said method spots locals stack =
      let code = Throw number ∷ expand spots in
      let here = At [] (Throw number) ∷ spots in
      let catch = catch_alike said method locals stack code here (behind_catch code) (behind_catching_spot here) (catches_at here) in
      let frame = frame_at method code locals stack in
      let hooked_frame = frame_at method here locals stack in
      let (later, l, agree) = caught_agree (woven body) (hooked body) toy_relation _ _ frame hooked_frame said method number number said said tt one_shared catch (λ none. (suc said, tt, one_shared, refl)) in
      inr (later, l, refl, agree)
  instr_law Catch said method spots locals stack = inr (said, tt, refl, (one_shared, (lead spots, at_spot)))
  instr_law Return said method spots locals stack = inr (suc said, tt, refl, (one_shared, refl))

  spot_law : (spots : List Spot) (said method : ℕ) (locals stack : List ℕ) → Law said method (lead spots) (frame_at method (expand spots) locals stack) (frame_at method spots locals stack)
  unfolding Law
  spot_law [] said method locals stack = inr (said, tt, refl, tt)
  spot_law (At [] instr ∷ spots) said method locals stack = instr_law instr said method spots locals stack
  spot_law (At (called ∷ methods) instr ∷ spots) said method locals stack =
      inl (said, tt, refl, (one_shared, (0, omega arith, at_call)))

  runs : (w method n : ℕ) (f : Frame toy (List Instr)) (g : Frame toy (List Spot)) (h k : ℕ) → OneShared w h k → ToyRuns w method n f g → IsQuiet toy_relation w method n (move (woven body) f h) g k ⊎ IsMatched toy_relation w method (move (woven body) f h) (move (hooked body) g k)
  unfolding Law
  runs w method _ _ _ _ _ one_shared (at_spot {spots} {locals} {stack}) = spot_law spots w method locals stack
  runs w method _ _ _ _ _ one_shared (at_call {called} {methods} {instr} {spots} {locals} {stack}) =
      inr (w, tt, refl, (one_shared, (called, for_hook, (lead (body called), at_spot))))
  runs w method _ _ _ _ _ one_shared (at_end {spots} {locals} {stack}) =
      inl (w, tt, refl, (one_shared, (lead spots, lead_below_two spots, at_spot)))

  still_waits : (w later method called : ℕ) (f : Frame toy (List Instr)) (g : Frame toy (List Spot)) → ToyWaits w method called f g → ToyWaits later method called f g
  still_waits w later method called _ _ for_hook = for_hook
  still_waits w later method called _ _ for_instr = for_instr

  running_method : (w method n : ℕ) (f : Frame toy (List Instr)) (g : Frame toy (List Spot)) → ToyRuns w method n f g → (f.method ≡ method) × (g.method ≡ method)
  running_method w method _ _ _ at_spot = (refl, refl)
  running_method w method _ _ _ at_call = (refl, refl)
  running_method w method _ _ _ at_end = (refl, refl)

  waiting_method : (w method called : ℕ) (f : Frame toy (List Instr)) (g : Frame toy (List Spot)) → ToyWaits w method called f g → (f.method ≡ method) × (g.method ≡ method)
  waiting_method w method called _ _ for_hook = (refl, refl)
  waiting_method w method called _ _ for_instr = (refl, refl)

  below_three : (w method n : ℕ) (f : Frame toy (List Instr)) (g : Frame toy (List Spot)) → ToyRuns w method n f g → n < 3
  below_three w method _ _ _ (at_spot {spots}) = omega (arith, lead_below_two spots)
  below_three w method _ _ _ at_call = omega arith
  below_three w method _ _ _ at_end = omega arith

  answered : (w method called : ℕ) (value value' : Option ℕ) (f : Frame toy (List Instr)) (g : Frame toy (List Spot)) → ToyWaits w method called f g → value ≡ value' → Running toy_relation w method (resumed toy_rules (woven body) called value f) (resumed toy_rules (hooked body) called value' g)
  answered w method called value value' _ _ for_hook e = (2, at_end)
  answered w method called value value' _ _ (for_instr {spots}) e = (lead spots, at_spot)

  catches : (w method called : ℕ) (thrown thrown' : ℕ) (f : Frame toy (List Instr)) (g : Frame toy (List Spot)) (h k : ℕ) → OneShared w h k → ToyWaits w method called f g → thrown ≡ thrown' → CatchAlike toy_relation w method ((woven body).catch thrown h (cleared f)) ((hooked body).catch thrown' k (cleared g))
  catches w method called thrown thrown' _ _ _ _ one_shared (for_hook {methods} {instr} {spots} {locals} {stack}) e =
      let here = At (called ∷ methods) instr ∷ spots in
      let code = Invoke called ∷ (Idle ∷ expand (At methods instr ∷ spots)) in
      catch_alike w method locals stack code here (behind_catch code) (behind_catching_spot here) (catches_at here)
  catches w method called thrown thrown' _ _ _ _ one_shared (for_instr {spots} {locals} {stack}) e =
      let here = At [] (Invoke called) ∷ spots in
      let code = Invoke called ∷ expand spots in
      catch_alike w method locals stack code here (behind_catch code) (behind_catching_spot here) (catches_at here)

  ends : (w : ℕ) (ending : ToyEnding) (h k : ℕ) → OneShared w h k → AlikeLater toy_relation w (suc h) (suc k)
  ends w ending _ _ one_shared = (suc w, tt, one_shared)

  leaves : (w thrown thrown' h k : ℕ) → OneShared w h k → thrown ≡ thrown' → LeaveAlike toy_relation w thrown thrown' (suc h) (suc k)
  leaves w thrown thrown' _ _ one_shared e = (suc w, tt, one_shared, e)

  uncaught_alike : (w thrown thrown' h k : ℕ) → OneShared w h k → thrown ≡ thrown' → toy_rules.uncaught thrown h ≡ toy_rules.uncaught thrown' k
  uncaught_alike w thrown thrown' _ _ one_shared e = ap Uncaught e

  pub toy_laws : (factor : ℕ) → 3 ≤ factor → FrameLaws factor toy_rules (woven body) (hooked body) toy_relation
  toy_laws factor most =
      record {
        same_world = λ w. tt;
        later_still = λ w later last l m. tt;
        still_waits = λ w later method called f g l waits. still_waits w later method called f g waits;
        running_method = running_method;
        waiting_method = waiting_method;
        below = λ w method n f g r. omega (arith, below_three w method n f g r);
        runs = runs;
        answered = answered;
        catches = catches;
        leaves = λ w method called thrown thrown' f g h k alike waits throws none. leaves w thrown thrown' h k alike throws;
        ends = ends;
        last_alike = λ w method value value' h k alike gives. refl;
        uncaught_alike = uncaught_alike;
      }

still_runs : (w later method n : ℕ) (f : Frame toy (List Instr)) (g : Frame toy (List Spot)) → ToyRuns w method n f g → ToyRuns later method n f g
still_runs w later method _ _ _ at_spot = at_spot
still_runs w later method _ _ _ at_call = at_call
still_runs w later method _ _ _ at_end = at_end

pub toy_thread_laws : (body : ℕ → List Spot) (factor : ℕ) → 3 ≤ factor → ThreadLaws factor toy_rules (λ i. woven body) (λ i. hooked body) toy_relation
toy_thread_laws body factor most =
    record {
      each = λ i. toy_laws body factor most;
      still_runs = λ w later method n f g l runs. still_runs w later method n f g runs;
      still_thrown = λ w later thrown thrown' l same. same;
    }

-- the starts of a method of the toy are related
pub toy_starts : (body : ℕ → List Spot) (said method : ℕ) → ToyRuns said method (lead (body method)) ((woven body).enter method []) ((hooked body).enter method [])
toy_starts body said method = at_spot
