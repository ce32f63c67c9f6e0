-- No step of the toy's code is stuck, where each method ends well.
use Rattle.std.proofs.Common.{◌≡◌, ℕ, List, [], ◌∷◌, Option, refl}
use Rattle.wv_model.specs.Frame.{Frame, cleared}
use Rattle.wv_model.specs.Course.{move, resumed}
use Rattle.wv_model.specs.Typing.{Keeps, CatchKeeps, TypingLaws}
use Rattle.wv_model.proofs.Safety.{caught_typed}
use Rattle.wv_model.specs.Toy.{Instr, Idle, Say, Invoke, Throw, Catch, Return, toy, toy_rules, frame_at, moved_to, behind_catch, plain, EndsWell, at_return, ahead, RunsWell, runs_well, WaitsWell, waits_well, toy_typing}

catch_well : (method : ℕ) (code start : List Instr) (locals stack : List ℕ) → EndsWell code → CatchKeeps toy_typing tt method (moved_to (frame_at method start locals stack) (behind_catch code))
catch_well method _ start locals stack at_return = tt
catch_well method _ start locals stack (ahead {instr = Catch} well) = runs_well well
catch_well method _ start locals stack (ahead {instr = Idle} well) = catch_well method _ start locals stack well
catch_well method _ start locals stack (ahead {instr = Say number} well) = catch_well method _ start locals stack well
catch_well method _ start locals stack (ahead {instr = Invoke called} well) = catch_well method _ start locals stack well
catch_well method _ start locals stack (ahead {instr = Throw number} well) = catch_well method _ start locals stack well
catch_well method _ start locals stack (ahead {instr = Return} well) = catch_well method _ start locals stack well

module _ (code : ℕ → List Instr) (each : (method : ℕ) → EndsWell (code method)) where
  keeps_well : (method said : ℕ) (left : List Instr) (locals stack : List ℕ) → EndsWell left → Keeps toy_typing tt method (move (plain code) (frame_at method left locals stack) said).course
  keeps_well method said _ locals stack at_return = (tt, tt)
  keeps_well method said _ locals stack (ahead {instr = Idle} well) = (tt, runs_well well)
  keeps_well method said _ locals stack (ahead {instr = Say number} well) = (tt, runs_well well)
  keeps_well method said _ locals stack (ahead {instr = Invoke called} well) =
      (tt, (called, waits_well well, runs_well (each called)))
  keeps_well method said _ locals stack (ahead {instr = Throw number} {code = left} well) =
      let place = Throw number ∷ left in
      let (later, l, keeps) = caught_typed (plain code) toy_typing _ (frame_at method place locals stack) tt method number said tt tt (catch_well method left place locals stack well) (λ none. (tt, tt, tt, tt)) in
      keeps
  keeps_well method said _ locals stack (ahead {instr = Catch} well) = (tt, runs_well well)
  keeps_well method said _ locals stack (ahead {instr = Return} well) = (tt, tt)

  runs : (w : Unit {0}) (method : ℕ) (frame : Frame toy (List Instr)) (said : ℕ) → RunsWell w method frame → Keeps toy_typing tt method (move (plain code) frame said).course
  runs _ method _ said (runs_well {code = left} {locals} {stack} well) = keeps_well method said left locals stack well

  answered : (w : Unit {0}) (method called : ℕ) (value : Option ℕ) (frame : Frame toy (List Instr)) → WaitsWell w method called frame → RunsWell w method (resumed toy_rules (plain code) called value frame)
  answered _ method called value _ (waits_well well) = runs_well well

  catches : (w : Unit {0}) (method called thrown : ℕ) (frame : Frame toy (List Instr)) (said : ℕ) → WaitsWell w method called frame → CatchKeeps toy_typing w method ((plain code).catch thrown said (cleared frame))
  catches _ method called thrown _ said (waits_well {code = left} {locals} {stack} well) =
      catch_well method left (Invoke called ∷ left) locals stack well

  running_method : (w : Unit {0}) (method : ℕ) (frame : Frame toy (List Instr)) → RunsWell w method frame → frame.method ≡ method
  running_method _ method _ (runs_well well) = refl

  waiting_method : (w : Unit {0}) (method called : ℕ) (frame : Frame toy (List Instr)) → WaitsWell w method called frame → frame.method ≡ method
  waiting_method _ method called _ (waits_well well) = refl

  pub typing_laws : TypingLaws toy_rules (plain code) toy_typing
  typing_laws =
      record {
        still_waits = λ w later method called frame l waits. waits;
        running_method = running_method;
        waiting_method = waiting_method;
        runs = λ w method frame said sound well. (tt, tt, runs w method frame said well);
        answered = λ w method called value frame waits gives. answered w method called value frame waits;
        catches = λ w method called thrown frame said sound waits throws. catches w method called thrown frame said waits;
        leaves = λ w method called thrown frame said sound waits throws none. (tt, tt, tt, tt);
      }

  pub starts_well : (method : ℕ) → RunsWell tt method ((plain code).enter method [])
  starts_well method = runs_well (each method)
