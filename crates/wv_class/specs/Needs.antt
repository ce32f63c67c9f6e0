-- The constants that a written class names, with those behind them, the last first (JVM Specification 4).
use Rattle.std.specs.Prelude.{ℕ, List, [], ◌∷◌, ◌++◌, map, Option, Some, None, codes}
use Rattle.wv_base.specs.declared.class_file.Body.{Body}
use Rattle.wv_base.specs.declared.class_file.Member.{Member}
use Rattle.wv_base.specs.declared.class_file.ClassFile.{ClassFile}
use Rattle.wv_base.specs.declared.constant.Const.{Const}
use Rattle.wv_base.specs.declared.constant.Const.TheVariants as constants
use Rattle.wv_base.specs.declared.note.Note.{Note}
use Rattle.wv_pool.specs.Adding.{needs}
use Rattle.wv_code.specs.BodyConstants.{body_constants}
use Rattle.wv_attr.specs.Writing.{notes_need, parameters_need}
use Rattle.wv_class.specs.Tables.{tables_of, table_name}

-- constants with those behind them
abbrev pub parts_of : List Const → List Const
parts_of [] = []
parts_of (c ∷ cs) = parts_of cs ++ needs c

-- ---- Attributes

abbrev pub value_constants : Option Const → List Const
value_constants None = []
value_constants (Some value) = constants.Utf8 (codes "ConstantValue") ∷ value ∷ []

abbrev pub code_constants : Option Body → List Const
code_constants None = []
code_constants (Some body) = constants.Utf8 (codes "Code") ∷ body_constants body

abbrev pub exceptions_constants : List (List ℕ) → List Const
exceptions_constants [] = []
exceptions_constants (name ∷ names) = constants.Utf8 (codes "Exceptions") ∷ map (λ n. constants.Class n) (name ∷ names)

-- a table of annotations; how many lists one of parameters has makes no difference to its constants
abbrev pub content_needs : Option ℕ → List Note → List Const
content_needs None notes = notes_need notes
content_needs (Some place) notes = parameters_need 255 notes

abbrev pub table_needs : List Note → List Const
table_needs [] = []
table_needs (note ∷ notes) = content_needs note.parameter (note ∷ notes) ++ needs (constants.Utf8 (table_name note))

abbrev pub all_tables_need : List (List Note) → List Const
all_tables_need [] = []
all_tables_need (table ∷ tables) = all_tables_need tables ++ table_needs table

abbrev pub annotations_need : List Note → List Const
annotations_need notes = all_tables_need (tables_of notes)

-- ---- Fields, methods and classes

abbrev pub member_constants : Member → List Const
member_constants m = constants.Utf8 m.name ∷ constants.Utf8 m.descriptor ∷ (value_constants m.value ++ (code_constants m.body ++ exceptions_constants m.throws))

abbrev pub member_needs : Member → List Const
member_needs m = annotations_need m.notes ++ parts_of (member_constants m)

abbrev pub members_need : List Member → List Const
members_need [] = []
members_need (m ∷ ms) = members_need ms ++ member_needs m

abbrev pub head_constants : ClassFile → List Const
head_constants c = constants.Class c.name ∷ constants.Class c.superclass ∷ map (λ n. constants.Class n) c.interfaces

abbrev pub class_needs : ClassFile → List Const
class_needs c = annotations_need c.notes ++ (members_need c.methods ++ (members_need c.fields ++ parts_of (head_constants c)))
