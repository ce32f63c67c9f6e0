-- The machines of the form meet the laws on single frames, where each method's code means the same in both.
use Rattle.std.proofs.Common.{◌≡◌, ℕ, ◌<◌, ◌⊎◌, List, map, Option, Some, None, refl, sym, ap, ◌∙◌, subst, inr}
use Rattle.std.specs.Prelude.{slice_get}
use Rattle.std.proofs.lemmas.Option.{slice_get-map}
use Rattle.wv_base.specs.declared.insn.Insn.{Insn}
use Rattle.wv_model.specs.Effect.{Effect, Next, Jump, Call, Give, Raise, Init, End, Stuck, Row}
use Rattle.wv_model.specs.Frame.{Frame}
use Rattle.wv_model.specs.Course.{move, move_of_row, resumed}
use Rattle.wv_model.specs.FrameRelation.{OneShared, one_shared, Running, IsQuiet, IsMatched, AlikeLater}
use Rattle.wv_model.specs.FrameLaws.{FrameLaws}
use Rattle.wv_model.specs.FormDomain.{Ref, Value, MethodId, Shared, Ending, Threw, Piece, class_of, form, form_rules}
use Rattle.wv_model.specs.Linking.{ClassShape}
use Rattle.wv_model.specs.PlainRows.{row_at}
use Rattle.wv_model.specs.PlainMachine.{frame_at, plain}
use Rattle.wv_model.specs.HookMachine.{Script, Point, insn_at, meant, running, hooked}
use Rattle.wv_model.specs.FirstMeaning.{AtSamePoint, at_same_point, form_relation}

-- code with each instruction as it is meant
abbrev pub read_script : Script → List Insn
read_script script = map (meant script.origin) script.code

module _ (classes : List ClassShape) (body : MethodId → List Insn) (script : MethodId → Script) (same : (method : MethodId) → body method ≡ read_script (script method)) where
  -- the same instruction runs at a point and at its place
  same_insn : (method : MethodId) (point : Point) → slice_get (body method) (insn_at point) ≡ running (script method) point
  same_insn method point =
      ap (λ code. slice_get code (insn_at point)) (same method) ∙ slice_get-map (meant (script method).origin) (script method).code (insn_at point)

  -- one row leads two frames at a point the same way
  effect_agrees : (effect : Effect form) (shown : List Piece) (w : Shared) (method : MethodId) (point : Point) (locals locals' stack : List Value) → IsMatched form_relation w method (move_of_row (plain classes body) (record { locals = locals'; shown = shown; effect = effect }) (frame_at method (insn_at point) locals stack)) (move_of_row (hooked classes script) (record { locals = locals'; shown = shown; effect = effect }) (frame_at method point locals stack))
  effect_agrees (Next left after) shown w method point locals locals' stack =
      (after, tt, refl, (one_shared, (0, at_same_point)))
  effect_agrees (Jump k left after) shown w method point locals locals' stack =
      (after, tt, refl, (one_shared, (0, at_same_point)))
  effect_agrees (Call called arguments left after) shown w method point locals locals' stack =
      (after, tt, refl, (one_shared, (called, at_same_point, (0, at_same_point))))
  effect_agrees (Give value after) shown w method point locals locals' stack = (after, tt, refl, (one_shared, refl))
  effect_agrees (Raise thrown after) shown w method point locals locals' stack = (after, tt, refl, (one_shared, refl))
  effect_agrees (Init None after) shown w method point locals locals' stack =
      (after, tt, refl, (one_shared, (0, at_same_point)))
  effect_agrees (Init (Some initializer) after) shown w method point locals locals' stack =
      (after, tt, refl, (one_shared, (initializer, at_same_point, (0, at_same_point))))
  effect_agrees (End ending after) shown w method point locals locals' stack = (after, tt, refl, (one_shared, refl))
  effect_agrees Stuck shown w method point locals locals' stack = (w, tt, refl, tt)

  row_agrees : (row : Row form) (w : Shared) (method : MethodId) (point : Point) (locals stack : List Value) → IsMatched form_relation w method (move_of_row (plain classes body) row (frame_at method (insn_at point) locals stack)) (move_of_row (hooked classes script) row (frame_at method point locals stack))
  row_agrees row w method point locals stack =
      effect_agrees row.effect row.shown w method point locals row.locals stack

  point_agrees : (here : Option Insn) (w : Shared) (method : MethodId) (point : Point) (locals stack : List Value) → here ≡ running (script method) point → IsMatched form_relation w method (move_of_row (plain classes body) (row_at classes here locals stack w) (frame_at method (insn_at point) locals stack)) (move (hooked classes script) (frame_at method point locals stack) w)
  point_agrees here w method point locals stack e =
      subst (λ insn. IsMatched form_relation w method (move_of_row (plain classes body) (row_at classes insn locals stack w) (frame_at method (insn_at point) locals stack)) (move (hooked classes script) (frame_at method point locals stack) w)) (sym e) (row_agrees (row_at classes (running (script method) point) locals stack w) w method point locals stack)

  runs : (w : Shared) (method : MethodId) (n : ℕ) (f : Frame form ℕ) (g : Frame form Point) (h k : Shared) → OneShared w h k → AtSamePoint w method n f g → IsQuiet form_relation w method n (move (plain classes body) f h) g k ⊎ IsMatched form_relation w method (move (plain classes body) f h) (move (hooked classes script) g k)
  runs w method _ _ _ _ _ one_shared (at_same_point {point} {locals} {stack}) =
      inr (point_agrees (slice_get (body method) (insn_at point)) w method point locals stack (same_insn method point))

  still_there : (w later : Shared) (method : MethodId) (n : ℕ) (f : Frame form ℕ) (g : Frame form Point) → AtSamePoint w method n f g → AtSamePoint later method n f g
  still_there w later method _ _ _ at_same_point = at_same_point

  same_method : (w : Shared) (method : MethodId) (n : ℕ) (f : Frame form ℕ) (g : Frame form Point) → AtSamePoint w method n f g → (f.method ≡ method) × (g.method ≡ method)
  same_method w method _ _ _ at_same_point = (refl, refl)

  none_ahead : (factor : ℕ) → 0 < factor → (w : Shared) (method : MethodId) (n : ℕ) (f : Frame form ℕ) (g : Frame form Point) → AtSamePoint w method n f g → n < factor
  none_ahead factor some w method _ _ _ at_same_point = some

  answered : (w : Shared) (method called : MethodId) (value value' : Option Value) (f : Frame form ℕ) (g : Frame form Point) → AtSamePoint w method 0 f g → value ≡ value' → Running form_relation w method (resumed form_rules (plain classes body) called value f) (resumed form_rules (hooked classes script) called value' g)
  answered w method called value value' f g waits e =
      subst (λ given. Running form_relation w method (resumed form_rules (plain classes body) called value f) (resumed form_rules (hooked classes script) called given g)) e (answered_same w method called value f g waits)
    where
      answered_same : (w : Shared) (method called : MethodId) (value : Option Value) (f : Frame form ℕ) (g : Frame form Point) → AtSamePoint w method 0 f g → Running form_relation w method (resumed form_rules (plain classes body) called value f) (resumed form_rules (hooked classes script) called value g)
      answered_same w method called value _ _ at_same_point = (0, at_same_point)

  ends : (w : Shared) (ending : Ending) (h k : Shared) → OneShared w h k → AlikeLater form_relation w h k
  ends w ending _ _ one_shared = (w, tt, one_shared)

  uncaught : (w : Shared) (thrown thrown' : Ref) (h k : Shared) → OneShared w h k → thrown ≡ thrown' → Threw (class_of h.heap thrown) ≡ Threw (class_of k.heap thrown')
  uncaught w thrown thrown' _ _ one_shared e = ap (λ ref. Threw (class_of w.heap ref)) e

  pub form_laws : (factor : ℕ) → 0 < factor → FrameLaws factor form_rules (plain classes body) (hooked classes script) form_relation
  form_laws factor some =
      record {
        same_world = λ w. tt;
        later_still = λ w later last l m. tt;
        still_waits = λ w later method called f g l waits. still_there w later method 0 f g waits;
        running_method = same_method;
        waiting_method = λ w method called f g waits. same_method w method 0 f g waits;
        below = none_ahead factor some;
        runs = runs;
        answered = answered;
        catches = λ w method called thrown thrown' f g h k alike waits throws. tt;
        leaves = λ w method called thrown thrown' f g h k alike waits throws none. (w, tt, alike, throws);
        ends = ends;
        last_alike = λ w method value value' h k alike gives. refl;
        uncaught_alike = uncaught;
      }
