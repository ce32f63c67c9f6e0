-- How a list of annotations is divided into tables (JVM Specification 4.7.16 to 4.7.19): annotations that stand one behind
-- the other and can stand in one table do.
use Rattle.std.specs.Prelude.{ℕ, ◌&&◌, Bool, true, false, nat_le, not, if◌then◌else◌, List, [], ◌∷◌, Option, Some, None, codes}
use Rattle.wv_base.specs.declared.note.Note.{Note}

-- a parameter's annotation follows one of the same parameter or of one before it (4.7.18)
abbrev pub parameters_follow : Option ℕ → Option ℕ → Bool
parameters_follow None None = true
parameters_follow (Some place) (Some next) = nat_le place next
parameters_follow _ _ = false

-- both are visible, or neither is
abbrev pub same : Bool → Bool → Bool
same true visible = visible
same false visible = not visible

-- the second may stand behind the first in one table: both are visible or not, and of parameters or not
abbrev pub follows : Note → Note → Bool
follows one next = same one.visible next.visible && parameters_follow one.parameter next.parameter

-- the annotation in front of the first table, or in a table of its own
abbrev pub with_tables : Note → List (List Note) → List (List Note)
with_tables note [] = (note ∷ []) ∷ []
with_tables note ([] ∷ others) = (note ∷ []) ∷ others
with_tables note ((next ∷ table) ∷ others) = if follows note next then (note ∷ next ∷ table) ∷ others else (note ∷ []) ∷ (next ∷ table) ∷ others

abbrev pub tables_of : List Note → List (List Note)
tables_of [] = []
tables_of (note ∷ notes) = with_tables note (tables_of notes)

-- the attribute in which an annotation stands
abbrev pub parameter_table : Bool → Option ℕ → List ℕ
parameter_table true None = codes "RuntimeVisibleAnnotations"
parameter_table false None = codes "RuntimeInvisibleAnnotations"
parameter_table true (Some place) = codes "RuntimeVisibleParameterAnnotations"
parameter_table false (Some place) = codes "RuntimeInvisibleParameterAnnotations"

abbrev pub table_name : Note → List ℕ
table_name note = parameter_table note.visible note.parameter
