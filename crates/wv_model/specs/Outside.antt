-- Outside steps: calls of methods that no class of the program has, and no built-in one is, ask the list of answers. Our
-- own.
use Rattle.std.specs.Prelude.{ℕ, ◌+◌, ◌==◌, nat_le, Bool, true, false, not, ◌&&◌, if◌then◌else◌, List, [], ◌∷◌, ◌++◌, length, map, Option, Some, None, unwrap_or}
use Rattle.std.specs.List.{fold, list_any, position}
use Rattle.wv_base.specs.declared.constant.MemberReference.{MemberReference}
use Rattle.wv_model.specs.Effect.{Effect, Next, Raise, End, Row}
use Rattle.wv_model.specs.FormDomain.{Ref, Null, SystemOut, Place, Value, Int, Reference, Instance, Answer, AVoid, AThrow, Shared, ShownValue, ShownInt, ShownNull, ShownReference, ShownAnswer, ShownVoid, ShownThrow, Outside, Ending, NoAnswer, BadAnswer, HeapFull, form}
use Rattle.std.specs.Option.{is_some}
use Rattle.wv_model.specs.Linking.{ClassShape, class_named}
use Rattle.wv_model.specs.Platform.{is_throwable}

-- ---- References in the order in which they first appear

-- whether two references are the same
abbrev pub is_same_ref : Ref → Ref → Bool
is_same_ref Null Null = true
is_same_ref SystemOut SystemOut = true
is_same_ref (Place first) (Place second) = first == second
is_same_ref _ _ = false

-- the references that have appeared, with that of a value which is shown now: a new one is the last of them
abbrev pub with_value : List Ref → Value → List Ref
with_value appeared (Int number) = appeared
with_value appeared (Reference Null) = appeared
with_value appeared (Reference ref) =
    if list_any (is_same_ref ref) appeared then appeared else appeared ++ (ref ∷ [])

-- and with those of several values, in their order
abbrev pub with_values : List Ref → List Value → List Ref
with_values appeared values = fold with_value appeared values

-- the number of a reference that has appeared, from 0
abbrev pub number_of : List Ref → Ref → ℕ
number_of appeared ref = unwrap_or (position (is_same_ref ref) appeared) 0

-- a value as it is shown
abbrev pub shown_value : List Ref → Value → ShownValue
shown_value appeared (Int number) = ShownInt number
shown_value appeared (Reference Null) = ShownNull
shown_value appeared (Reference ref) = ShownReference (number_of appeared ref)

-- ---- What an answer comes to

-- what comes of an outside step: the answer that fitted, as it is shown, and the effect
pub record Outcome : Type 0 where
  pub answer : Option ShownAnswer
  pub effect : Effect form

-- no answer fitted
abbrev pub unanswered : Ending → Shared → Outcome
unanswered ending shared = record { answer = None; effect = End ending shared }

-- the cells of an object that can be thrown: the object, and its message
abbrev pub throwable_cells : ℕ
throwable_cells = 2

-- the reference of the next object
abbrev pub next_place : Shared → Ref
next_place shared = Place (length shared.heap)

-- the next object is made, of this class, and appears
abbrev pub with_throwable : List ℕ → Shared → Shared
with_throwable class shared =
    record shared {
      heap = shared.heap ++ (Instance class ∷ []);
      used = shared.used + throwable_cells;
      appeared = with_value shared.appeared (Reference (next_place shared));
    }

-- it is shown as the answer and thrown
abbrev pub throwing : List ℕ → Ref → Shared → Outcome
throwing class made shared =
    record { answer = Some (ShownThrow class (number_of shared.appeared made)); effect = Raise made shared }

-- an answer that throws a new object of this class, where there are cells for it
abbrev pub throw_outcome : List ℕ → Shared → Outcome
throw_outcome class shared =
    if nat_le (shared.used + throwable_cells) shared.most
    then throwing class (next_place shared) (with_throwable class shared)
    else unanswered HeapFull shared

-- whether an answer can throw an object of this class: one of the platform, since a class of the program is below
-- `java/lang/Object` in this form
abbrev pub can_be_thrown : List ClassShape → List ℕ → Bool
can_be_thrown classes class = is_throwable class && not (is_some (class_named classes class))

-- what the next answer comes to, of a method that gives no value
abbrev pub outcome_of : List ClassShape → List Answer → List Value → Shared → Outcome
outcome_of classes [] stack shared = unanswered NoAnswer shared
outcome_of classes (AVoid ∷ left) stack shared =
    record { answer = Some ShownVoid; effect = Next stack (record shared { answers = left }) }
outcome_of classes (AThrow class ∷ left) stack shared =
    if can_be_thrown classes class then throw_outcome class (record shared { answers = left })
    else unanswered BadAnswer shared
outcome_of classes _ stack shared = unanswered BadAnswer shared

-- ---- The step

-- the step shows the method, its operands and the answer
abbrev pub outcome_row : MemberReference → List Value → List Value → List Ref → Outcome → Row form
outcome_row method operands locals appeared outcome =
    record {
      locals = locals;
      shown = Outside method (map (shown_value appeared) operands) outcome.answer ∷ [];
      effect = outcome.effect;
    }

-- the row of an outside step with these operands, over the stack below them: the operands appear before the answer
abbrev pub outside_row : List ClassShape → MemberReference → List Value → List Value → List Value → Shared → Row form
outside_row classes method operands locals stack shared =
    let appeared = with_values shared.appeared operands in
    outcome_row method operands locals appeared (outcome_of classes shared.answers stack (record shared { appeared = appeared }))
