-- No step of the plain machine over plain classes is stuck.
use Rattle.std.proofs.Common.{◌≡◌, ℕ, ℤ, pos, ◌-◌, ◌+◌, zero, suc, ◌≤◌, ◌&&◌, Bool, true, false, List, [], ◌∷◌, ◌++◌, map, drop, Option, Some, None, refl, sym, ap, ◌∙◌, subst, inl, inr, arith}
use Rattle.std.specs.Prelude.{◌==◌, nat_le, if◌then◌else◌, bytes_eq, slice_get, option_map, option_and_then, unwrap_or, IsSomeAnd}
use Rattle.std.specs.Int.{w32, int_wrapping_add, int_wrapping_mul}
use Rattle.std.specs.List.{AllByRecursion, AllZip, zip, position, list_any}
use Rattle.std.proofs.lemmas.Bool.{le-leb}
use Rattle.wv_base.specs.declared.class_file.Body.{Body}
use Rattle.wv_base.specs.declared.class_file.ClassFile.{ClassFile}
use Rattle.wv_base.specs.declared.class_file.Member.{Member}
use Rattle.wv_base.specs.declared.constant.MemberReference.{MemberReference}
use Rattle.wv_base.specs.declared.frame.VType.{VType}
use Rattle.wv_base.specs.declared.frame.VType.TheVariants as types
use Rattle.wv_base.specs.declared.insn.Insn.{Insn}
use Rattle.wv_base.specs.declared.insn.Insn.TheVariants as insns
use Rattle.wv_base.specs.Opcodes.{iconst_0, iconst_5, return, getstatic, invokevirtual, invokestatic}
use Rattle.wv_model.specs.Control.{Control}
use Rattle.wv_model.specs.Course.{course_of, move, resumed}
use Rattle.wv_model.specs.Effect.{Effect, Next, Call, Init, End, Stuck, Row}
use Rattle.wv_model.specs.Frame.{Frame}
use Rattle.wv_model.specs.Typing.{FrameTyping, Keeps, TypingLaws, IsStuck}
use Rattle.wv_model.specs.Entries.{Entry, Program, Method, IsFormEntry, main_descriptor, entry_method, entry_arguments, entry_shared}
use Rattle.wv_model.specs.Machine.{after}
use Rattle.wv_model.specs.FormDomain.{Value, Answer, AVoid, AThrow, Int, Reference, SystemOut, Null, Place, MethodId, Start, At, Shared, BadAnswer, HeapFull, Unlinked, form, form_rules}
use Rattle.wv_model.specs.Outside.{with_values, next_place, with_throwable, throwable_cells, throwing, throw_outcome, unanswered, can_be_thrown, outcome_of}
use Rattle.wv_model.specs.Linking.{ClassShape, MethodShape, class_named, method_named, names_interface, is_static, method_shape}
use Rattle.wv_model.specs.PlainMethod.{IsBodyCalling, IsPlainBody, IsPlainMethod, IsPlainDescriptor, IsAnyMethod, HasPlainMethods}
use Rattle.wv_model.specs.PlainCode.{Role, Game, Mixin, AnyClass, system_out, println, IsMethodOf, IsReferenceCalling, IsInsnCalling, IsPlainInsn}
use Rattle.wv_model.specs.PlainMachine.{item, code_of, body_of, frame_at, plain_control, plain_machine, plain_start, shape_of}
use Rattle.wv_model.specs.PlainRows.{quiet, insn_row, row_at, plain_effect, arguments, called, once_begun, found_effect, outside_call, static_row, reference_row, dropped, combined, println_row, push_effect, finds_no_static}
use Rattle.wv_model.proofs.Safety.{never_stuck, starts_typed}
use Rattle.wv_model.specs.PlainTyping as typing
use Rattle.wv_model.specs.PlainTyping.{Stack, Leads, HasTyping}

-- code from a place on, with a typing, whose last instruction is `return`
pub data TypedCode : List Insn → Stack → Type 0 where
  at_return : {stack : Stack} → TypedCode (insns.Plain return ∷ []) stack
  ahead : {insn : Insn} {code : List Insn} {before after : Stack} → IsInsnCalling AnyClass insn → Leads insn before after → TypedCode code after → TypedCode (insn ∷ code) before

-- a value of a type, and a stack of values of these types
abbrev pub FitsType : VType → Value → Type 0
FitsType types.Int (Int number) = Unit {0}
FitsType (types.Class name) (Reference SystemOut) = Unit {0}
FitsType _ _ = ⊥

typed_from : (front : List Insn) (before : Stack) (later : List Stack) → AllByRecursion (IsInsnCalling AnyClass) (front ++ (insns.Plain return ∷ [])) → AllZip (λ insn states. Leads insn states.0 states.1) (front ++ (insns.Plain return ∷ [])) (zip (before ∷ later) later) → TypedCode (front ++ (insns.Plain return ∷ [])) before
typed_from [] before later plain leads = at_return
typed_from (insn ∷ front) before [] plain leads = absurd leads
typed_from (insn ∷ front) before (after ∷ later) (here, rest) (lead, leads) =
    ahead here lead (typed_from front after later rest leads)

body_typed : (descriptor : List ℕ) (body : Body) → IsBodyCalling AnyClass descriptor body → TypedCode body.insns []
body_typed descriptor body plain =
    let ends = plain.ends in
    let states = plain.verifies.typing in
    let whole = ends.front ++ (insns.Plain return ∷ []) in
    let each = subst (AllByRecursion (IsInsnCalling AnyClass)) ends.last plain.plain in
    let leads = subst (λ code. AllZip (λ insn states. Leads insn states.0 states.1) code (zip ([] ∷ states.later) states.later)) ends.last states.leads in
    subst (λ code. TypedCode code []) (sym ends.last) (typed_from ends.front [] states.later each leads)

-- the first instruction of the code from a place on stands at that place
first_of : (code : List Insn) (place : ℕ) (insn : Insn) (rest : List Insn) → drop place code ≡ insn ∷ rest → (slice_get code place ≡ Some insn) × (drop (suc place) code ≡ rest)
first_of [] zero insn rest e = absurd cc
first_of [] (suc place) insn rest e = absurd cc
first_of (first ∷ code) zero insn rest e = (cc, cc)
first_of (first ∷ code) (suc place) insn rest e = first_of code place insn rest e

code_typed : (descriptor : List ℕ) (body : Option Body) → IsSomeAnd body (IsBodyCalling AnyClass descriptor) → TypedCode (unwrap_or (option_map (λ b. b.insns) body) []) []
code_typed descriptor None plain = absurd plain
code_typed descriptor (Some body) plain = body_typed descriptor body plain

-- the code of a method that is found
member_typed : (methods : List Member) → AllByRecursion IsAnyMethod methods → (place : ℕ) (shape : MethodShape) → slice_get (map method_shape methods) place ≡ Some shape → TypedCode (item (map code_of methods) place) []
member_typed [] plain place shape found = absurd cc
member_typed (method ∷ methods) (here, rest) zero shape found = code_typed method.descriptor method.body here.code
member_typed (method ∷ methods) (here, rest) (suc place) shape found =
    member_typed methods rest place shape found

-- the code of a method of a class that is found
class_typed : (classes : List ClassFile) → AllByRecursion HasPlainMethods classes → (class : ℕ) (shape : ClassShape) → slice_get (map shape_of classes) class ≡ Some shape → (place : ℕ) (method : MethodShape) → slice_get shape.methods place ≡ Some method → TypedCode (item (item (map (λ c. map code_of c.methods) classes) class) place) []
class_typed [] plain class shape found place method at = absurd cc
class_typed (first ∷ classes) (here, rest) zero shape found place method at =
    let same : shape_of first ≡ shape = cc in
    member_typed first.methods here place method (subst (λ (s : ClassShape). slice_get s.methods place ≡ Some method) (sym same) at)
class_typed (first ∷ classes) (here, rest) (suc class) shape found place method at =
    class_typed classes rest class shape found place method at

pair_found : {X : Type 0} (items : List X) (k i : ℕ) (x : X) (o : Option X) → slice_get items i ≡ o → option_map {U = ℕ × X} (λ item. (i, item)) o ≡ Some (k, x) → slice_get items k ≡ Some x
pair_found {X} items k i x None at e = absurd cc
pair_found {X} items k i x (Some y) at e =
    let pair : ◌≡◌ {A = ℕ × X} (i, y) (k, x) = cc in
    let number : i ≡ k = ap (λ p. p.0) pair in
    let item : y ≡ x = ap (λ p. p.1) pair in
    subst (λ j. slice_get items j ≡ Some x) number (at ∙ ap Some item)

place_found : {X : Type 0} (items : List X) (k : ℕ) (x : X) (o : Option ℕ) → option_and_then {U = ℕ × X} (λ number. option_map (λ item. (number, item)) (slice_get items number)) o ≡ Some (k, x) → slice_get items k ≡ Some x
place_found items k x None e = absurd cc
place_found items k x (Some i) e = pair_found items k i x (slice_get items i) refl e

-- a frame at a place of plain code: the code from there on has a typing, and the stack fits it
pub record Placed (body : MethodId → List Insn) (method : MethodId) (place : ℕ) (stack : List Value) : Type 0 where
  pub code : List Insn
  pub at : drop place (body method) ≡ code
  pub before : Stack
  pub typed : TypedCode code before
  pub fits : AllZip FitsType before stack

-- the method that a start frame calls, with the arguments on the stack
pub record Startable (method : MemberReference) (stack : List Value) : Type 0 where
  pub taken : List Value
  pub arguments_there : arguments method.descriptor stack ≡ Some (taken, [])

-- frames of plain classes that run: in plain code, or at the call of the start frame
pub data FrameRuns (classes : List ClassFile) : Unit {0} → MethodId → Frame form ℕ → Type 0 where
  in_code : {method : MethodId} {place : ℕ} {locals stack : List Value} → Placed (body_of classes) method place stack → FrameRuns classes tt method (frame_at method place locals stack)
  at_start : {method : MemberReference} {locals stack : List Value} → Startable method stack → FrameRuns classes tt (Start method) (frame_at (Start method) 0 locals stack)

-- and frames that wait for a call, behind which they go on
pub data FrameWaits (classes : List ClassFile) : Unit {0} → MethodId → MethodId → Frame form ℕ → Type 0 where
  waits : {method called : MethodId} {place : ℕ} {locals stack : List Value} → Placed (body_of classes) method (suc place) stack → FrameWaits classes tt method called (frame_at method place locals stack)

abbrev pub plain_typing : List ClassFile → FrameTyping form ℕ
plain_typing classes =
    record {
      World = Unit {0};
      Later = λ w later. Unit {0};
      Sound = λ w shared. Unit {0};
      Runs = FrameRuns classes;
      Waits = FrameWaits classes;
      Given = λ w method value. value ≡ None;
      Thrown = λ w thrown. Unit {0};
    }

-- which reference an instruction of plain code has
reads_out : (op : ℕ) (reference : MemberReference) → op ≡ getstatic → IsReferenceCalling AnyClass op reference → reference ≡ system_out
reads_out op reference e (inl (is, same)) = same
reads_out op reference e (inr (inl (is, same))) = absurd (omega (arith, e, is))
reads_out op reference e (inr (inr (is, own))) = absurd (omega (arith, e, is))

calls_println : (op : ℕ) (reference : MemberReference) → op ≡ invokevirtual → IsReferenceCalling AnyClass op reference → reference ≡ println
calls_println op reference e (inl (is, same)) = absurd (omega (arith, e, is))
calls_println op reference e (inr (inl (is, same))) = same
calls_println op reference e (inr (inr (is, own))) = absurd (omega (arith, e, is))

calls_own : (op : ℕ) (reference : MemberReference) → op ≡ invokestatic → IsReferenceCalling AnyClass op reference → IsMethodOf AnyClass reference
calls_own op reference e (inl (is, same)) = absurd (omega (arith, e, is))
calls_own op reference e (inr (inl (is, same))) = absurd (omega (arith, e, is))
calls_own op reference e (inr (inr (is, own))) = own

const_effect : (op : ℕ) → iconst_0 ≤ op → op ≤ iconst_5 → (stack : List Value) (shared : Shared) → plain_effect op stack shared ≡ Next (Int (pos (op - iconst_0)) ∷ stack) shared
const_effect op low high stack shared = rw (le-leb iconst_0 op low, le-leb op iconst_5 high) refl

module _ (classes : List ClassFile) (all_plain : AllByRecursion HasPlainMethods classes) where
  abbrev shapes : List ClassShape
  shapes = map shape_of classes

  abbrev control : Control form ℕ
  control = plain_control classes

  -- the course of an effect keeps the typing
  abbrev EffectKeeps : MethodId → ℕ → List Value → List Value → Effect form → Type 0
  EffectKeeps method place locals stack effect = Keeps (plain_typing classes) tt method (course_of control effect (frame_at method place locals stack))

  abbrev RowKeeps : MethodId → ℕ → List Value → List Value → Row form → Type 0
  RowKeeps method place locals stack row = EffectKeeps method place row.locals stack row.effect

  module _ (method : MethodId) (place : ℕ) (locals stack : List Value) (shared : Shared) where
    call_keeps : (called : MethodId) (taken left : List Value) → TypedCode (body_of classes called) [] → Placed (body_of classes) method (suc place) left → EffectKeeps method place locals stack (Call called taken left shared)
    call_keeps called taken left typed after =
        (tt, (called, waits after, in_code (record { code = body_of classes called; at = refl; before = []; typed = typed; fits = tt })))

    begun_keeps : (begun : Bool) (class : ℕ) (called : MethodId) (taken left : List Value) → TypedCode (body_of classes called) [] → Placed (body_of classes) method (suc place) left → FrameRuns classes tt method (frame_at method place locals stack) → EffectKeeps method place locals stack (if begun then Call called taken left shared else Init None (record shared { begun = class ∷ shared.begun }))
    begun_keeps true class called taken left typed after here = call_keeps called taken left typed after
    begun_keeps false class called taken left typed after here = (tt, here)

    static_keeps : (static : Bool) (reference : MemberReference) (class k : ℕ) (taken left : List Value) → arguments reference.descriptor stack ≡ Some (taken, left) → TypedCode (body_of classes (At class k)) [] → Placed (body_of classes) method (suc place) left → FrameRuns classes tt method (frame_at method place locals stack) → EffectKeeps method place locals stack (if static then once_begun class (called (At class k) (arguments reference.descriptor stack) shared) shared else End (Unlinked reference.owner) shared)
    static_keeps false reference class k taken left there typed after here = tt
    static_keeps true reference class k taken left there typed after here =
        subst (λ o. EffectKeeps method place locals stack (once_begun class (called (At class k) o shared) shared)) (sym there) (begun_keeps (list_any (λ begun. begun == class) shared.begun) class (At class k) taken left typed after here)

    found_keeps : (found : Option (ℕ × MethodShape)) (reference : MemberReference) (class : ℕ) (shape : ClassShape) (taken left : List Value) → slice_get shapes class ≡ Some shape → found ≡ method_named shape reference.name reference.descriptor → arguments reference.descriptor stack ≡ Some (taken, left) → Placed (body_of classes) method (suc place) left → FrameRuns classes tt method (frame_at method place locals stack) → EffectKeeps method place locals stack (found_effect reference class found stack shared)
    found_keeps None reference class shape taken left here_class e there after here = tt
    found_keeps (Some (k, m)) reference class shape taken left here_class e there after here =
        let at = place_found shape.methods k m (position (λ m. bytes_eq m.name reference.name && bytes_eq m.descriptor reference.descriptor) shape.methods) (sym e) in
        static_keeps (is_static m) reference class k taken left there (class_typed classes all_plain class shape here_class k m at) after here

    -- what an outside step comes to
    throw_keeps : (fits : Bool) (class : List ℕ) (before : Shared) → EffectKeeps method place locals stack (if fits then throwing class (next_place before) (with_throwable class before) else unanswered HeapFull before).effect
    throw_keeps true class before = (tt, tt)
    throw_keeps false class before = tt

    thrown_keeps : (can : Bool) (class : List ℕ) (before taken : Shared) → EffectKeeps method place locals stack (if can then throw_outcome class taken else unanswered BadAnswer before).effect
    thrown_keeps true class before taken = throw_keeps (nat_le (taken.used + throwable_cells) taken.most) class taken
    thrown_keeps false class before taken = tt

    outcome_keeps : (answers : List Answer) (left : List Value) (before : Shared) → Placed (body_of classes) method (suc place) left → EffectKeeps method place locals stack (outcome_of shapes answers left before).effect
    outcome_keeps [] left before behind = tt
    outcome_keeps (AVoid ∷ answers) left before behind = (tt, in_code behind)
    outcome_keeps (AThrow class ∷ answers) left before behind =
        thrown_keeps (can_be_thrown shapes class) class before (record before { answers = answers })
    outcome_keeps (_ ∷ answers) left before behind = tt

    outside_keeps : (o : Option (List Value × List Value)) (reference : MemberReference) (taken left : List Value) → o ≡ Some (taken, left) → Placed (body_of classes) method (suc place) left → RowKeeps method place locals stack (outside_call shapes reference o locals shared)
    outside_keeps o reference taken left there behind =
        subst (λ taken. RowKeeps method place locals stack (outside_call shapes reference taken locals shared)) (sym there) (outcome_keeps shared.answers left (record shared { appeared = with_values shared.appeared taken }) behind)

    no_class_keeps : (no_static : Bool) (reference : MemberReference) (taken left : List Value) → arguments reference.descriptor stack ≡ Some (taken, left) → Placed (body_of classes) method (suc place) left → RowKeeps method place locals stack (if no_static then quiet locals (End (Unlinked reference.owner) shared) else outside_call shapes reference (arguments reference.descriptor stack) locals shared)
    no_class_keeps true reference taken left there after = tt
    no_class_keeps false reference taken left there after =
        outside_keeps (arguments reference.descriptor stack) reference taken left there after

    static_row_keeps : (found : Option (ℕ × ClassShape)) (reference : MemberReference) (taken left : List Value) → found ≡ class_named shapes reference.owner → arguments reference.descriptor stack ≡ Some (taken, left) → Placed (body_of classes) method (suc place) left → FrameRuns classes tt method (frame_at method place locals stack) → RowKeeps method place locals stack (static_row shapes reference found locals stack shared)
    static_row_keeps None reference taken left e there after here =
        no_class_keeps (finds_no_static reference) reference taken left there after
    static_row_keeps (Some (class, shape)) reference taken left e there after here =
        let at = place_found shapes class shape (position (λ c. bytes_eq c.name reference.owner) shapes) (sym e) in
        found_keeps (method_named shape reference.name reference.descriptor) reference class shape taken left at refl there after here

    call_row_keeps : (reference : MemberReference) (taken left : List Value) → arguments reference.descriptor stack ≡ Some (taken, left) → Placed (body_of classes) method (suc place) left → FrameRuns classes tt method (frame_at method place locals stack) → RowKeeps method place locals stack (static_row shapes reference (class_named shapes reference.owner) locals stack shared)
    call_row_keeps reference taken left there after here =
        static_row_keeps (class_named shapes reference.owner) reference taken left refl there after here

  -- what the rest of a frame's code owes once a row has put its types
  abbrev GoesOn : MethodId → ℕ → Stack → Type 0
  GoesOn method place after = (left : List Value) → AllZip FitsType after left → Placed (body_of classes) method (suc place) left

  module _ (method : MethodId) (place : ℕ) (locals : List Value) (shared : Shared) (rest : Stack) where
    drop_keeps : (top : VType) (stack : List Value) → AllZip FitsType (top ∷ rest) stack → GoesOn method place rest → EffectKeeps method place locals stack (dropped stack shared)
    drop_keeps top [] fits goes = absurd fits
    drop_keeps top (value ∷ stack) (here, fits) goes = (tt, in_code (goes stack fits))

    combine_keeps : (operation : ℤ → ℤ → ℤ) (stack : List Value) → AllZip FitsType (types.Int ∷ types.Int ∷ rest) stack → GoesOn method place (types.Int ∷ rest) → EffectKeeps method place locals stack (combined operation stack shared)
    combine_keeps operation [] fits goes = absurd fits
    combine_keeps operation (Reference other ∷ stack) fits goes = absurd fits.0
    combine_keeps operation (Int right ∷ []) fits goes = absurd fits.1
    combine_keeps operation (Int right ∷ (Reference other ∷ stack)) fits goes = absurd fits.1.0
    combine_keeps operation (Int right ∷ (Int left ∷ stack)) (one, (two, fits)) goes =
        (tt, in_code (goes (Int (operation left right) ∷ stack) (tt, fits)))

    print_keeps : (stack : List Value) → AllZip FitsType (types.Int ∷ typing.print_stream ∷ rest) stack → GoesOn method place rest → RowKeeps method place locals stack (println_row locals stack shared)
    print_keeps [] fits goes = absurd fits
    print_keeps (Reference other ∷ stack) fits goes = absurd fits.0
    print_keeps (Int number ∷ []) fits goes = absurd fits.1
    print_keeps (Int number ∷ (Int other ∷ stack)) fits goes = absurd fits.1.0
    print_keeps (Int number ∷ (Reference Null ∷ stack)) fits goes = absurd fits.1.0
    print_keeps (Int number ∷ (Reference (Place k) ∷ stack)) fits goes = absurd fits.1.0
    print_keeps (Int number ∷ (Reference SystemOut ∷ stack)) (one, (two, fits)) goes = (tt, in_code (goes stack fits))

    plain_keeps : (op : ℕ) (taken put : Stack) (row : typing.Row (insns.Plain op) taken put) (stack : List Value) → AllZip FitsType (taken ++ rest) stack → GoesOn method place (put ++ rest) → EffectKeeps method place locals stack (plain_effect op stack shared)
    plain_keeps op _ _ (typing.iconst low high) stack fits goes =
        subst (EffectKeeps method place locals stack) (sym (const_effect op low high stack shared)) (tt, in_code (goes (Int (pos (op - iconst_0)) ∷ stack) (tt, fits)))
    plain_keeps op _ _ (typing.arithmetic (inl e)) stack fits goes =
        subst (λ o. EffectKeeps method place locals stack (plain_effect o stack shared)) (sym e) (combine_keeps (int_wrapping_add w32) stack fits goes)
    plain_keeps op _ _ (typing.arithmetic (inr e)) stack fits goes =
        subst (λ o. EffectKeeps method place locals stack (plain_effect o stack shared)) (sym e) (combine_keeps (int_wrapping_mul w32) stack fits goes)
    plain_keeps op _ _ (typing.dropped {top} e) stack fits goes =
        subst (λ o. EffectKeeps method place locals stack (plain_effect o stack shared)) (sym e) (drop_keeps top stack fits goes)
    plain_keeps op _ _ (typing.returned e) stack fits goes =
        subst (λ o. EffectKeeps method place locals stack (plain_effect o stack shared)) (sym e) (tt, refl)

    reference_keeps : (op : ℕ) (owner member descriptor : List ℕ) (interface : Bool) (taken put : Stack) (row : typing.Row (insns.Reference op owner member descriptor interface) taken put) (stack : List Value) → IsReferenceCalling AnyClass op (record { owner = owner; name = member; descriptor = descriptor }) → AllZip FitsType (taken ++ rest) stack → GoesOn method place (put ++ rest) → FrameRuns classes tt method (frame_at method place locals stack) → RowKeeps method place locals stack (reference_row shapes op (record { owner = owner; name = member; descriptor = descriptor }) locals stack shared)
    reference_keeps op owner member descriptor interface _ _ (typing.read_out e) stack reference fits goes here =
        subst (λ r. RowKeeps method place locals stack (reference_row shapes op r locals stack shared)) (sym (reads_out op _ e reference)) (subst (λ o. RowKeeps method place locals stack (reference_row shapes o system_out locals stack shared)) (sym e) (tt, in_code (goes (Reference SystemOut ∷ stack) (tt, fits))))
    reference_keeps op owner member descriptor interface _ _ (typing.printed e) stack reference fits goes here =
        subst (λ r. RowKeeps method place locals stack (reference_row shapes op r locals stack shared)) (sym (calls_println op _ e reference)) (subst (λ o. RowKeeps method place locals stack (reference_row shapes o println locals stack shared)) (sym e) (print_keeps stack fits goes))
    reference_keeps op owner member descriptor interface _ _ (typing.called e) stack reference fits goes here =
        let own = calls_own op _ e reference in
        let method_called : MemberReference = record { owner = owner; name = member; descriptor = descriptor } in
        subst (λ o. RowKeeps method place locals stack (reference_row shapes o method_called locals stack shared)) (sym e) (call_row_keeps method place locals stack shared method_called [] stack (ap (λ d. arguments d stack) own.descriptor) (goes stack fits) here)

    push_keeps : (op : ℕ) (value : ℤ) (taken put : Stack) → typing.Row (insns.Push op value) taken put → (stack : List Value) → AllZip FitsType (taken ++ rest) stack → GoesOn method place (put ++ rest) → EffectKeeps method place locals stack (push_effect op value stack shared)
    push_keeps op value _ _ (typing.push e) stack fits goes =
        subst (λ o. EffectKeeps method place locals stack (push_effect o value stack shared)) (sym e) (tt, in_code (goes (Int value ∷ stack) (tt, fits)))

    insn_keeps : (insn : Insn) (taken put : Stack) → typing.Row insn taken put → IsInsnCalling AnyClass insn → (stack : List Value) → AllZip FitsType (taken ++ rest) stack → GoesOn method place (put ++ rest) → FrameRuns classes tt method (frame_at method place locals stack) → RowKeeps method place locals stack (insn_row shapes insn locals stack shared)
    insn_keeps (insns.Plain op) taken put row plain stack fits goes here = plain_keeps op taken put row stack fits goes
    insn_keeps (insns.Push op value) taken put row plain stack fits goes here =
        push_keeps op value taken put row stack fits goes
    insn_keeps (insns.Reference op owner member descriptor interface) taken put row (direct, plain) stack fits goes here =
        subst (λ b. RowKeeps method place locals stack (insn_row shapes (insns.Reference op owner member descriptor b) locals stack shared)) (sym direct) (reference_keeps op owner member descriptor interface taken put row stack plain fits goes here)
    insn_keeps _ taken put row plain stack fits goes here = absurd plain

  placed_keeps : (method : MethodId) (place : ℕ) (locals stack : List Value) (shared : Shared) (code : List Insn) (before : Stack) → TypedCode code before → drop place (body_of classes method) ≡ code → AllZip FitsType before stack → FrameRuns classes tt method (frame_at method place locals stack) → RowKeeps method place locals stack (row_at shapes (slice_get (body_of classes method) place) locals stack shared)
  placed_keeps method place locals stack shared _ _ at_return at fits here =
      let (first, behind) = first_of (body_of classes method) place (insns.Plain return) [] at in
      subst (λ o. RowKeeps method place locals stack (row_at shapes o locals stack shared)) (sym first) (tt, refl)
  placed_keeps method place locals stack shared _ _ (ahead {insn} {code} {before} {after} plain leads typed) at fits here =
      let (first, behind) = first_of (body_of classes method) place insn code at in
      let fits_row = subst (λ each. AllZip FitsType each stack) leads.from fits in
      let goes : GoesOn method place (leads.put ++ leads.rest) = λ left fit. record { code = code; at = behind; before = after; typed = typed; fits = subst (λ each. AllZip FitsType each left) (sym leads.to) fit } in
      subst (λ o. RowKeeps method place locals stack (row_at shapes o locals stack shared)) (sym first) (insn_keeps method place locals shared leads.rest insn leads.taken leads.put leads.row plain stack fits_row goes here)

  -- the call of a start frame, of either kind of class
  start_keeps : (interface : Bool) (method : MemberReference) (locals stack : List Value) (shared : Shared) → interface ≡ names_interface shapes method.owner → Startable method stack → Placed (body_of classes) (Start method) 1 [] → FrameRuns classes tt (Start method) (frame_at (Start method) 0 locals stack) → RowKeeps (Start method) 0 locals stack (insn_row shapes (insns.Reference invokestatic method.owner method.name method.descriptor interface) locals stack shared)
  start_keeps false method locals stack shared e starts after here =
      call_row_keeps (Start method) 0 locals stack shared method starts.taken [] starts.arguments_there after here
  start_keeps true method locals stack shared e starts after here =
      subst (λ b. RowKeeps (Start method) 0 locals stack (if b then outside_call shapes method (arguments method.descriptor stack) locals shared else quiet locals Stuck)) e (outside_keeps (Start method) 0 locals stack shared (arguments method.descriptor stack) method starts.taken [] starts.arguments_there after)

  runs : (w : Unit {0}) (method : MethodId) (frame : Frame form ℕ) (shared : Shared) → FrameRuns classes w method frame → Keeps (plain_typing classes) tt method (move control frame shared).course
  runs _ method _ shared (in_code {place} {locals} {stack} placed) =
      placed_keeps method place locals stack shared placed.code placed.before placed.typed placed.at placed.fits (in_code placed)
  runs _ _ _ shared (at_start {method} {locals} {stack} starts) =
      start_keeps (names_interface shapes method.owner) method locals stack shared refl starts (record { code = insns.Plain return ∷ []; at = refl; before = []; typed = at_return; fits = tt }) (at_start starts)

  answered : (w : Unit {0}) (method called : MethodId) (value : Option Value) (frame : Frame form ℕ) → FrameWaits classes w method called frame → value ≡ None → FrameRuns classes w method (resumed form_rules control called value frame)
  answered _ method called value _ (waits {place} {locals} {stack} placed) e =
      subst (λ v. FrameRuns classes tt method (resumed form_rules control called v (frame_at method place locals stack))) (sym e) (in_code placed)

  running_method : (w : Unit {0}) (method : MethodId) (frame : Frame form ℕ) → FrameRuns classes w method frame → frame.method ≡ method
  running_method _ _ _ (in_code placed) = refl
  running_method _ _ _ (at_start starts) = refl

  waiting_method : (w : Unit {0}) (method called : MethodId) (frame : Frame form ℕ) → FrameWaits classes w method called frame → frame.method ≡ method
  waiting_method _ _ _ _ (waits placed) = refl

  typing_laws : TypingLaws form_rules control (plain_typing classes)
  typing_laws =
      record {
        still_waits = λ w later method called frame l waits. waits;
        running_method = running_method;
        waiting_method = waiting_method;
        runs = λ w method frame shared sound here. (tt, tt, runs w method frame shared here);
        answered = answered;
        catches = λ w method called thrown frame shared sound waits throws. tt;
        leaves = λ w method called thrown frame shared sound waits throws none. (tt, tt, tt, tt);
      }

  startable : (entry : Entry) → IsFormEntry entry → Startable (entry_method entry) (entry_arguments entry)
  startable (Program main) fits = record { taken = Reference (Place 0) ∷ []; arguments_there = refl }
  startable (Method method) (inl e) =
      record { taken = []; arguments_there = subst (λ d. arguments d (if bytes_eq d main_descriptor then Reference Null ∷ [] else []) ≡ Some ([], [])) (sym e) refl }
  startable (Method method) (inr e) =
      record { taken = Reference Null ∷ []; arguments_there = subst (λ d. arguments d (if bytes_eq d main_descriptor then Reference Null ∷ [] else []) ≡ Some (Reference Null ∷ [], [])) (sym e) refl }

  pub goes_on : (entry : Entry) → IsFormEntry entry → (most : ℕ) (answers : List Answer) (n : ℕ) → IsStuck control (after (plain_machine classes) n (plain_start entry most answers)) → ⊥
  goes_on entry fits most answers n =
      let method = Start (entry_method entry) in
      let frame : Frame form ℕ = frame_at method 0 [] (entry_arguments entry) in
      let typed = starts_typed form_rules control (plain_typing classes) typing_laws tt method frame (entry_shared entry most answers) tt (at_start (startable entry fits)) in
      never_stuck form_rules control (plain_typing classes) typing_laws (plain_start entry most answers) n typed

-- ---- Methods of the roles

narrow_insn : (role : Role) (own : List ℕ) (insn : Insn) → IsPlainInsn role own insn → IsInsnCalling AnyClass insn
narrow_insn role own (insns.Plain op) plain = plain
narrow_insn role own (insns.Push op value) plain = plain
narrow_insn role own (insns.Reference op owner name descriptor interface) (direct, inl field) = (direct, inl field)
narrow_insn role own (insns.Reference op owner name descriptor interface) (direct, inr (inl prints)) =
    (direct, inr (inl prints))
narrow_insn role own (insns.Reference op owner name descriptor interface) (direct, inr (inr (is, method))) =
    (direct, inr (inr (is, record { owner = tt; ordinary = method.ordinary; descriptor = method.descriptor })))
narrow_insn role own _ plain = absurd plain

narrow_insns : (role : Role) (own : List ℕ) (code : List Insn) → AllByRecursion (IsPlainInsn role own) code → AllByRecursion (IsInsnCalling AnyClass) code
narrow_insns role own [] plain = tt
narrow_insns role own (insn ∷ code) (here, rest) = (narrow_insn role own insn here, narrow_insns role own code rest)

narrow_body : (role : Role) (own descriptor : List ℕ) (body : Body) → IsPlainBody role own descriptor body → IsBodyCalling AnyClass descriptor body
narrow_body role own descriptor body plain =
    record {
      plain = narrow_insns role own body.insns plain.plain;
      ends = plain.ends;
      verifies = plain.verifies;
      no_ranges = plain.no_ranges;
      no_frames = plain.no_frames;
    }

narrow_code : (role : Role) (own descriptor : List ℕ) (body : Option Body) → IsSomeAnd body (IsPlainBody role own descriptor) → IsSomeAnd body (IsBodyCalling AnyClass descriptor)
narrow_code role own descriptor None plain = absurd plain
narrow_code role own descriptor (Some body) plain = narrow_body role own descriptor body plain

narrow_descriptor : (role : Role) (descriptor : List ℕ) → IsPlainDescriptor role descriptor → IsPlainDescriptor Game descriptor
narrow_descriptor Game descriptor is = is
narrow_descriptor Mixin descriptor is = inl is

-- a method of either role is one of the form
pub narrower : (role : Role) (own : List ℕ) (method : Member) → IsPlainMethod role own method → IsAnyMethod method
narrower role own method plain =
    record {
      flags = plain.flags;
      name = plain.name;
      ordinary = plain.ordinary;
      descriptor = narrow_descriptor role method.descriptor plain.descriptor;
      code = narrow_code role own method.descriptor method.body plain.code;
    }
