-- The plain machine: what a list of plain classes does (JVM Specification 2.6, 2.10, 2.11.8 and chapter 6).
use Rattle.std.specs.Prelude.{ℕ, zero, suc, List, [], ◌∷◌, map, Option, Some, None, unwrap_or, slice_get, option_map}
use Rattle.wv_base.specs.declared.class_file.ClassFile.{ClassFile}
use Rattle.wv_base.specs.declared.class_file.Member.{Member}
use Rattle.wv_base.specs.declared.insn.Insn.{Insn}
use Rattle.wv_model.specs.Control.{Control}
use Rattle.wv_model.specs.Frame.{Frame}
use Rattle.wv_model.specs.Machine.{Machine, Run, run}
use Rattle.wv_model.specs.Step.{State, machine, start}
use Rattle.wv_model.specs.FormDomain.{Value, MethodId, Start, At, Piece, Ending, Answer, form, form_rules}
use Rattle.wv_model.specs.Linking.{ClassShape, method_shape}
use Rattle.wv_model.specs.PlainRows.{row_at}
use Rattle.wv_model.specs.Entries.{Entry, entry_method, entry_arguments, entry_shared, start_code}

-- a list's item with this number, or nothing of it
abbrev pub item : {X : Type 0} → List (List X) → ℕ → List X
item lists number = unwrap_or (slice_get lists number) []

-- a class and a method as they stand in the file
abbrev pub shape_of : ClassFile → ClassShape
shape_of class = record { name = class.name; methods = map method_shape class.methods }

abbrev pub code_of : Member → List Insn
code_of method = unwrap_or (option_map (λ body. body.insns) method.body) []

-- the code of a method, given the classes from outside and the code of each method of each
abbrev pub code_in : List ClassShape → List (List (List Insn)) → MethodId → List Insn
code_in classes code (Start method) = start_code classes method
code_in classes code (At class place) = item (item code class) place

-- the code of a method of these classes
abbrev pub body_of : List ClassFile → MethodId → List Insn
body_of classes method = code_in (map shape_of classes) (map (λ class. map code_of class.methods) classes) method

-- the stack on which what a method gives is put
abbrev pub answered_stack : Option Value → List Value → List Value
answered_stack None stack = stack
answered_stack (Some value) stack = value ∷ stack

-- a frame at a place of a method
abbrev pub frame_at : {Point : Type 0} → MethodId → Point → List Value → List Value → Frame form Point
frame_at method place locals stack =
    record { method = method; place = place; locals = locals; stack = stack; thrown = None }

-- a place is the index of an instruction. Plain code has no targets and catches nothing
abbrev pub plain : List ClassShape → (MethodId → List Insn) → Control form ℕ
plain classes body =
    record {
      effect = λ frame shared. row_at classes (slice_get (body frame.method) frame.place) frame.locals frame.stack shared;
      next = λ frame. record frame { place = suc frame.place };
      jump = λ k frame. frame;
      enter = λ method arguments. frame_at method zero arguments [];
      result = λ method value. value;
      answer = λ method value frame. record frame { place = suc frame.place; stack = answered_stack value frame.stack };
      catch = λ thrown shared frame. None;
      left = λ frame shared. shared;
      ended = λ ending shared. shared;
    }

-- the plain machine over these classes, and nothing else
abbrev pub plain_control : List ClassFile → Control form ℕ
plain_control classes = plain (map shape_of classes) (body_of classes)

abbrev pub plain_machine : List ClassFile → Machine (State form ℕ) Piece Ending
plain_machine classes = machine form_rules (plain_control classes)

-- its first state for an entry, with so many cells and these answers
abbrev pub plain_start : Entry → ℕ → List Answer → State form ℕ
plain_start entry most answers =
    start (frame_at (Start (entry_method entry)) zero [] (entry_arguments entry)) (entry_shared entry most answers)

-- the run of at most n steps
abbrev pub run_plain : List ClassFile → Entry → ℕ → List Answer → ℕ → Run Piece Ending
run_plain classes entry most answers n = run (plain_machine classes) n (plain_start entry most answers)
