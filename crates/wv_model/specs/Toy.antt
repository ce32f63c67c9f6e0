-- A small language whose methods have hooks, and its woven code: an instance that shows how the laws are used. Our own.
use Rattle.std.specs.Prelude.{zero, ◌≡◌, ℕ, suc, List, [], ◌∷◌, Option, Some, None, false}
use Rattle.wv_model.specs.Domain.{Domain}
use Rattle.wv_model.specs.Effect.{Next, Call, Give, Raise, Stuck, Row}
use Rattle.wv_model.specs.Frame.{Frame}
use Rattle.wv_model.specs.Control.{Control, Rules}
use Rattle.wv_model.specs.FrameRelation.{FrameRelation, OneShared}
use Rattle.wv_model.specs.Typing.{FrameTyping}
use Rattle.wv_model.specs.Machine.{Run, after, run}
use Rattle.wv_model.specs.Step.{machine, start}

-- an instruction: to do nothing, show a number, call a method, throw a number, catch what was thrown before it, return
pub data Instr : Type 0 where
  Idle : Instr
  Say : ℕ → Instr
  Invoke : ℕ → Instr
  Throw : ℕ → Instr
  Catch : Instr
  Return : Instr

-- an instruction with the methods that are called before it, in their order
pub data Spot : Type 0 where
  At : List ℕ → Instr → Spot

-- the woven code: for each method that is called before an instruction a block that calls it
abbrev pub blocks : List ℕ → List Instr → List Instr
blocks [] rest = rest
blocks (method ∷ methods) rest = Idle ∷ (Invoke method ∷ (Idle ∷ blocks methods rest))

abbrev pub expand : List Spot → List Instr
expand [] = []
expand (At methods instr ∷ spots) = blocks methods (instr ∷ expand spots)

-- numbers and methods are numbers, a number is thrown and shown, and what is shared counts what was said, the frames
-- that were left and the threads that have ended
pub data ToyEnding : Type 0 where
  Returned : ToyEnding
  Deep : ToyEnding
  Uncaught : ℕ → ToyEnding

abbrev pub toy : Domain
toy = record { Value = ℕ; Method = ℕ; Thrown = ℕ; Shared = ℕ; Piece = ℕ; Ending = ToyEnding }

abbrev pub toy_rules : Rules toy
toy_rules =
    record { is_initializer = λ method. false; last = λ value shared. []; returned = Returned; deep = Deep; uncaught = λ thrown shared. Uncaught thrown }

-- the one table of rows of both machines
abbrev pub row : Instr → List ℕ → List ℕ → ℕ → Row toy
row Idle locals stack said = record { locals = locals; shown = []; effect = Next stack said }
row (Say number) locals stack said = record { locals = locals; shown = number ∷ []; effect = Next stack (suc said) }
row (Invoke method) locals stack said = record { locals = locals; shown = []; effect = Call method [] stack said }
row (Throw number) locals stack said = record { locals = locals; shown = []; effect = Raise number said }
row Catch locals stack said = record { locals = locals; shown = []; effect = Next stack said }
row Return locals stack said = record { locals = locals; shown = []; effect = Give None said }

-- a frame of a method at the code or the spots that are left of it
abbrev pub frame_at : {Place : Type 0} → ℕ → Place → List ℕ → List ℕ → Frame toy Place
frame_at method place locals stack =
    record { method = method; place = place; locals = locals; stack = stack; thrown = None }

abbrev pub moved_to : {Place : Type 0} → Frame toy Place → Option Place → Option (Frame toy Place)
moved_to frame None = None
moved_to frame (Some place) = Some (record frame { place = place })

-- the plain machine runs code
abbrev pub plain_row : List Instr → List ℕ → List ℕ → ℕ → Row toy
plain_row [] locals stack said = record { locals = locals; shown = []; effect = Stuck }
plain_row (instr ∷ code) locals stack said = row instr locals stack said

abbrev pub behind : List Instr → List Instr
behind [] = []
behind (instr ∷ code) = code

-- what is left behind the next Catch
abbrev pub behind_catch : List Instr → Option (List Instr)
behind_catch [] = None
behind_catch (Catch ∷ code) = Some code
behind_catch (instr ∷ code) = behind_catch code

abbrev pub plain : (ℕ → List Instr) → Control toy (List Instr)
plain code =
    record {
      effect = λ frame said. plain_row frame.place frame.locals frame.stack said;
      next = λ frame. record frame { place = behind frame.place };
      jump = λ k frame. frame;
      enter = λ method args. frame_at method (code method) args [];
      result = λ method value. value;
      answer = λ called value frame. record frame { place = behind frame.place };
      catch = λ thrown said frame. moved_to frame (behind_catch frame.place);
      left = λ frame said. suc said;
      ended = λ ending said. suc said;
    }

-- the hook machine runs spots: it calls what is left of the first spot's methods, and then does its instruction
abbrev pub hooked_row : List Spot → List ℕ → List ℕ → ℕ → Row toy
hooked_row [] locals stack said = record { locals = locals; shown = []; effect = Stuck }
hooked_row (At [] instr ∷ spots) locals stack said = row instr locals stack said
hooked_row (At (method ∷ methods) instr ∷ spots) locals stack said =
    record { locals = locals; shown = []; effect = Call method [] stack said }

abbrev pub behind_spot : List Spot → List Spot
behind_spot [] = []
behind_spot (At [] instr ∷ spots) = spots
behind_spot (At (method ∷ methods) instr ∷ spots) = At methods instr ∷ spots

abbrev pub caught_at : Instr → List Spot → Option (List Spot) → Option (List Spot)
caught_at Catch spots later = Some spots
caught_at instr spots later = later

abbrev pub behind_catching_spot : List Spot → Option (List Spot)
behind_catching_spot [] = None
behind_catching_spot (At methods instr ∷ spots) = caught_at instr spots (behind_catching_spot spots)

abbrev pub hooked : (ℕ → List Spot) → Control toy (List Spot)
hooked body =
    record {
      effect = λ frame said. hooked_row frame.place frame.locals frame.stack said;
      next = λ frame. record frame { place = behind_spot frame.place };
      jump = λ k frame. frame;
      enter = λ method args. frame_at method (body method) args [];
      result = λ method value. value;
      answer = λ called value frame. record frame { place = behind_spot frame.place };
      catch = λ thrown said frame. moved_to frame (behind_catching_spot frame.place);
      left = λ frame said. suc said;
      ended = λ ending said. suc said;
    }

-- the plain machine over the woven code
abbrev pub woven : (ℕ → List Spot) → Control toy (List Instr)
woven body = plain (λ method. expand (body method))

-- how many steps the woven code has ahead of the first spot's call or instruction
abbrev pub lead : List Spot → ℕ
lead [] = 0
lead (At [] instr ∷ spots) = 0
lead (At (method ∷ methods) instr ∷ spots) = 1

-- frames that run: at a spot, ready for the call of a block, or at a block's end
pub data ToyRuns : ℕ → ℕ → ℕ → Frame toy (List Instr) → Frame toy (List Spot) → Type 0 where
  at_spot : {said method : ℕ} {spots : List Spot} {locals stack : List ℕ} → ToyRuns said method (lead spots) (frame_at method (expand spots) locals stack) (frame_at method spots locals stack)
  at_call : {said method called : ℕ} {methods : List ℕ} {instr : Instr} {spots : List Spot} {locals stack : List ℕ} → ToyRuns said method 0 (frame_at method (Invoke called ∷ (Idle ∷ expand (At methods instr ∷ spots))) locals stack) (frame_at method (At (called ∷ methods) instr ∷ spots) locals stack)
  at_end : {said method : ℕ} {spots : List Spot} {locals stack : List ℕ} → ToyRuns said method 2 (frame_at method (Idle ∷ expand spots) locals stack) (frame_at method spots locals stack)

-- frames that wait: for the call of a block, or for that of an instruction
pub data ToyWaits : ℕ → ℕ → ℕ → Frame toy (List Instr) → Frame toy (List Spot) → Type 0 where
  for_hook : {said method called : ℕ} {methods : List ℕ} {instr : Instr} {spots : List Spot} {locals stack : List ℕ} → ToyWaits said method called (frame_at method (Invoke called ∷ (Idle ∷ expand (At methods instr ∷ spots))) locals stack) (frame_at method (At (called ∷ methods) instr ∷ spots) locals stack)
  for_instr : {said method called : ℕ} {spots : List Spot} {locals stack : List ℕ} → ToyWaits said method called (frame_at method (Invoke called ∷ expand spots) locals stack) (frame_at method (At [] (Invoke called) ∷ spots) locals stack)

-- a world is the shared part, which is the same in both machines
abbrev pub toy_relation : FrameRelation toy (List Instr) (List Spot)
toy_relation =
    record {
      World = ℕ;
      Later = λ said later. Unit {0};
      Alike = OneShared;
      Runs = ToyRuns;
      Waits = ToyWaits;
      Given = λ said method value value'. value ≡ value';
      Thrown = λ said thrown thrown'. thrown ≡ thrown';
    }

-- code whose last instruction is a return
pub data EndsWell : List Instr → Type 0 where
  at_return : EndsWell (Return ∷ [])
  ahead : {instr : Instr} {code : List Instr} → EndsWell code → EndsWell (instr ∷ code)

-- a frame that runs code which ends well, and one that waits for a call in such code
pub data RunsWell : Unit {0} → ℕ → Frame toy (List Instr) → Type 0 where
  runs_well : {method : ℕ} {code : List Instr} {locals stack : List ℕ} → EndsWell code → RunsWell tt method (frame_at method code locals stack)

pub data WaitsWell : Unit {0} → ℕ → ℕ → Frame toy (List Instr) → Type 0 where
  waits_well : {method called : ℕ} {code : List Instr} {locals stack : List ℕ} → EndsWell code → WaitsWell tt method called (frame_at method (Invoke called ∷ code) locals stack)

abbrev pub toy_typing : FrameTyping toy (List Instr)
toy_typing =
    record {
      World = Unit {0};
      Later = λ w later. Unit {0};
      Sound = λ w said. Unit {0};
      Runs = RunsWell;
      Waits = WaitsWell;
      Given = λ w method value. Unit {0};
      Thrown = λ w thrown. Unit {0};
    }

-- a program: method 0 says 5 and is hooked by methods 1 and 2, the second of which catches what it throws; method 3
-- throws what nothing catches, out of method 4
abbrev pub example : ℕ → List Spot
example zero = At (1 ∷ 2 ∷ []) (Say 5) ∷ At [] Return ∷ []
example (suc zero) = At [] (Say 1) ∷ At [] Return ∷ []
example (suc (suc zero)) = At [] (Throw 9) ∷ At [] (Say 8) ∷ At [] Catch ∷ At [] (Say 2) ∷ At [] Return ∷ []
example (suc (suc (suc zero))) = At [] (Throw 7) ∷ At [] Return ∷ []
example (suc (suc (suc (suc zero)))) = At (3 ∷ []) (Say 6) ∷ At [] Return ∷ []
example _ = []

-- what is shared after a run of a method of the example under its hooks
abbrev pub hooked_count : ℕ → ℕ → ℕ
hooked_count method n = (after (machine toy_rules (hooked example)) n (start ((hooked example).enter method []) 0)).shared

-- the run of a method of the example under its hooks, and woven
abbrev pub hooked_example : ℕ → ℕ → Run ℕ ToyEnding
hooked_example method n = run (machine toy_rules (hooked example)) n (start ((hooked example).enter method []) 0)

abbrev pub woven_example : ℕ → ℕ → Run ℕ ToyEnding
woven_example method n = run (machine toy_rules (woven example)) n (start ((woven example).enter method []) 0)
