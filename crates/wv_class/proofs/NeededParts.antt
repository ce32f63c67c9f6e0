-- What holds of each constant that a class names holds of those of its parts.
use Rattle.std.proofs.Common.{◌≡◌, ℕ, true, false, Bool, List, [], ◌∷◌, ◌++◌, Option, Some, None, map}
use Rattle.std.specs.Prelude.{codes, ◌==◌, if◌then◌else◌}
use Rattle.std.specs.List.{flat_map, AllByRecursion}
use Rattle.wv_base.specs.declared.class_file.Body.{Body}
use Rattle.wv_base.specs.declared.class_file.Member.{Member}
use Rattle.wv_base.specs.declared.class_file.ClassFile.{ClassFile}
use Rattle.wv_base.specs.declared.constant.Const.{Const}
use Rattle.wv_base.specs.declared.constant.Const.TheVariants as constants
use Rattle.wv_base.specs.declared.insn.Insn.{Insn}
use Rattle.wv_base.specs.declared.insn.Insn.TheVariants as insn
use Rattle.wv_base.specs.declared.note.Note.{Note}
use Rattle.wv_base.specs.Opcodes.{ldc}
use Rattle.wv_pool.specs.Adding.{needs}
use Rattle.wv_code.specs.BodyConstants.{body_constants, other_constants}
use Rattle.wv_code.specs.Constants.{constants_in, all_constants}
use Rattle.wv_code.specs.Entering.{short_constant, short_constants}
use Rattle.wv_code.proofs.Written.{all_front, all_back}
use Rattle.wv_code.proofs.OffsetFrames.{all_append}
use Rattle.wv_class.specs.Tables.{tables_of, table_name}
use Rattle.wv_class.specs.Needs.{parts_of, value_constants, code_constants, exceptions_constants, content_needs, table_needs, all_tables_need, annotations_need, member_constants, member_needs, members_need, head_constants, class_needs}

module _ (P : Const → Type 0) where
  first_needed : (c : Const) → AllByRecursion P (needs c) → P c
  first_needed (constants.Utf8 x) h = h.0
  first_needed (constants.Integer v) h = h.0
  first_needed (constants.Float b) h = h.0
  first_needed (constants.Long v) h = h.0
  first_needed (constants.Double b) h = h.0
  first_needed (constants.Class x) h = h.0
  first_needed (constants.String x) h = h.0
  first_needed (constants.Field m) h = h.0
  first_needed (constants.Method m i) h = h.0
  first_needed (constants.NameAndType x y) h = h.0
  first_needed (constants.MethodHandle k m i) h = h.0
  first_needed (constants.MethodType x) h = h.0
  first_needed (constants.InvokeDynamic k x y) h = h.0

  all_wanted : (cs : List Const) → AllByRecursion P (parts_of cs) → AllByRecursion P cs
  all_wanted [] h = tt
  all_wanted (c ∷ cs) h = (first_needed c (all_back P (parts_of cs) (needs c) h), all_wanted cs (all_front P (parts_of cs) (needs c) h))

  -- ---- The class

  pub class_annotations : (c : ClassFile) → AllByRecursion P (class_needs c) → AllByRecursion P (annotations_need c.notes)
  class_annotations c h = all_front P (annotations_need c.notes) (members_need c.methods ++ (members_need c.fields ++ parts_of (head_constants c))) h

  behind_annotations : (c : ClassFile) → AllByRecursion P (class_needs c) → AllByRecursion P (members_need c.methods ++ (members_need c.fields ++ parts_of (head_constants c)))
  behind_annotations c h = all_back P (annotations_need c.notes) (members_need c.methods ++ (members_need c.fields ++ parts_of (head_constants c))) h

  behind_methods : (c : ClassFile) → AllByRecursion P (class_needs c) → AllByRecursion P (members_need c.fields ++ parts_of (head_constants c))
  behind_methods c h = all_back P (members_need c.methods) (members_need c.fields ++ parts_of (head_constants c)) (behind_annotations c h)

  pub class_head : (c : ClassFile) → AllByRecursion P (class_needs c) → AllByRecursion P (head_constants c)
  class_head c h = all_wanted (head_constants c) (all_back P (members_need c.fields) (parts_of (head_constants c)) (behind_methods c h))

  each_member : (ms : List Member) → AllByRecursion P (members_need ms) → AllByRecursion (λ (m : Member). AllByRecursion P (member_needs m)) ms
  each_member [] h = tt
  each_member (m ∷ ms) h = (all_back P (members_need ms) (member_needs m) h, each_member ms (all_front P (members_need ms) (member_needs m) h))

  pub class_methods : (c : ClassFile) → AllByRecursion P (class_needs c) → AllByRecursion (λ (m : Member). AllByRecursion P (member_needs m)) c.methods
  class_methods c h = each_member c.methods (all_front P (members_need c.methods) (members_need c.fields ++ parts_of (head_constants c)) (behind_annotations c h))

  pub class_fields : (c : ClassFile) → AllByRecursion P (class_needs c) → AllByRecursion (λ (m : Member). AllByRecursion P (member_needs m)) c.fields
  class_fields c h = each_member c.fields (all_front P (members_need c.fields) (parts_of (head_constants c)) (behind_methods c h))

  -- ---- Fields and methods

  module _ (m : Member) (h : AllByRecursion P (member_needs m)) where
    pub annotations_all : AllByRecursion P (annotations_need m.notes)
    annotations_all = all_front P (annotations_need m.notes) (parts_of (member_constants m)) h

    -- the name, the descriptor, and what the attributes name
    pub constants_all : AllByRecursion P (member_constants m)
    constants_all = all_wanted (member_constants m) (all_back P (annotations_need m.notes) (parts_of (member_constants m)) h)

    pub value_all : AllByRecursion P (value_constants m.value)
    value_all = all_front P (value_constants m.value) (code_constants m.body ++ exceptions_constants m.throws) constants_all.1.1

    pub code_all : AllByRecursion P (code_constants m.body)
    code_all = all_front P (code_constants m.body) (exceptions_constants m.throws) (all_back P (value_constants m.value) (code_constants m.body ++ exceptions_constants m.throws) constants_all.1.1)

    pub exceptions_all : AllByRecursion P (exceptions_constants m.throws)
    exceptions_all = all_back P (code_constants m.body) (exceptions_constants m.throws) (all_back P (value_constants m.value) (code_constants m.body ++ exceptions_constants m.throws) constants_all.1.1)

  -- ---- Annotations

  pub each_table : (tables : List (List Note)) → AllByRecursion P (all_tables_need tables) → AllByRecursion (λ (table : List Note). AllByRecursion P (table_needs table)) tables
  each_table [] h = tt
  each_table (table ∷ tables) h = (all_back P (all_tables_need tables) (table_needs table) h, each_table tables (all_front P (all_tables_need tables) (table_needs table) h))

  -- the name of a table, and what its annotations name
  pub table_named : (note : Note) (notes : List Note) → AllByRecursion P (table_needs (note ∷ notes)) → P (constants.Utf8 (table_name note))
  table_named note notes h = (all_back P (content_needs note.parameter (note ∷ notes)) (constants.Utf8 (table_name note) ∷ []) h).0

  pub table_content : (note : Note) (notes : List Note) → AllByRecursion P (table_needs (note ∷ notes)) → AllByRecursion P (content_needs note.parameter (note ∷ notes))
  table_content note notes h = all_front P (content_needs note.parameter (note ∷ notes)) (constants.Utf8 (table_name note) ∷ []) h

  -- ---- Bodies

  short_tested : (value : Const) (test : Bool) → P value → AllByRecursion P (if test then value ∷ [] else [])
  short_tested value true h = (h, tt)
  short_tested value false h = tt

  short_one : (i : Insn) → AllByRecursion P (constants_in i) → AllByRecursion P (short_constant i)
  short_one (insn.Load op value) h = short_tested value (op == ldc) h.0
  short_one _ h = tt

  short_all : (insns : List Insn) → AllByRecursion P (all_constants insns) → AllByRecursion P (short_constants insns)
  short_all [] h = tt
  short_all (i ∷ insns) h =
      all_append P (short_constant i) (short_constants insns) (short_one i (all_front P (constants_in i) (all_constants insns) h)) (short_all insns (all_back P (constants_in i) (all_constants insns) h))

  -- the constants of ldc are among those of the body
  pub body_short : (body : Body) → AllByRecursion P (body_constants body) → AllByRecursion P (short_constants body.insns)
  body_short body h = short_all body.insns (all_front P (all_constants body.insns) (other_constants body) h)
