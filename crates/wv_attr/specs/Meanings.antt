-- The annotations that parts with numbers of a pool are (JVM Specification 4.7.16 and 4.7.16.1).
use Rattle.std.specs.Prelude.{◌≡◌, ℕ, ◌+◌, List, [], ◌∷◌, ◌++◌, length, Bool, Option, Some, None, Result, Ok, Err, codes}
use Rattle.std.specs.List.{AllByRecursion}
use Rattle.wv_base.specs.declared.class_file.PoolEntry.{PoolEntry}
use Rattle.wv_base.specs.declared.fault.ClassFault.{ClassFault}
use Rattle.wv_base.specs.declared.fault.ClassFault.TheVariants as faults
use Rattle.wv_base.specs.declared.constant.Const.{Const}
use Rattle.wv_base.specs.declared.note.Annotation.{Annotation, roll-Annotation}
use Rattle.wv_base.specs.declared.note.NamedElement.{NamedElement, roll-NamedElement}
use Rattle.wv_base.specs.declared.note.Element.{Element}
use Rattle.wv_base.specs.declared.note.Element.TheVariants as elements
use Rattle.wv_base.specs.declared.note.Note.{Note}
use Rattle.wv_pool.specs.References.{text_of}
use Rattle.wv_pool.specs.Constants.{constant_of}
use Rattle.wv_attr.specs.Layout.{lists, IsTable, IsLayoutFault, IsParameterTable, ParametersBreak}
use Rattle.wv_attr.specs.References.{IsSound, FirstBreaks}
use Rattle.wv_attr.specs.declared.mark.Mark.{Mark}
use Rattle.wv_attr.specs.declared.mark.Mark.TheVariants as marks

-- the descriptor of a class
abbrev pub class_descriptor : List ℕ → List ℕ
class_descriptor name = codes "L" ++ (name ++ codes ";")

-- The parts begin with this value, with these values, with this annotation, with this element, or with these elements, and
-- the others are those behind it.
mutual
  pub data IsValue (pool : List PoolEntry) : Element → List Mark → List Mark → Type 0 where
    constant : (tag n : ℕ) (value : Const) (rest : List Mark) → constant_of pool n ≡ Some value → IsValue pool (elements.Constant tag value) (marks.Constant tag n ∷ rest) rest
    enumerator : (d n : ℕ) (descriptor name : List ℕ) (rest : List Mark) → text_of pool d ≡ Some descriptor → text_of pool n ≡ Some name → IsValue pool (elements.Enum descriptor name) (marks.Enum d n ∷ rest) rest
    class : (d : ℕ) (descriptor : List ℕ) (rest : List Mark) → text_of pool d ≡ Some descriptor → IsValue pool (elements.Class descriptor) (marks.Class d ∷ rest) rest
    nested : (a : Annotation) (ms rest : List Mark) → IsAnnotation pool a ms rest → IsValue pool (elements.Annotation a) (marks.Nested ∷ ms) rest
    array : (es : List Element) (ms rest : List Mark) → AreValues pool es ms rest → IsValue pool (elements.Array es) (marks.Array (length es) ∷ ms) rest

  pub data AreValues (pool : List PoolEntry) : List Element → List Mark → List Mark → Type 0 where
    no_values : (rest : List Mark) → AreValues pool [] rest rest
    one_value : (e : Element) (es : List Element) (ms next rest : List Mark) → IsValue pool e ms next → AreValues pool es next rest → AreValues pool (e ∷ es) ms rest

  pub data IsAnnotation (pool : List PoolEntry) : Annotation → List Mark → List Mark → Type 0 where
    annotation : (type : ℕ) (name : List ℕ) (ps : List NamedElement) (ms rest : List Mark) → text_of pool type ≡ Some (class_descriptor name) → ArePairs pool ps ms rest
        → IsAnnotation pool (roll-Annotation (record { class = name; elements = ps })) (marks.Annotation type (length ps) ∷ ms) rest

  pub data IsPair (pool : List PoolEntry) : NamedElement → List Mark → List Mark → Type 0 where
    pair : (n : ℕ) (name : List ℕ) (value : Element) (ms rest : List Mark) → text_of pool n ≡ Some name → IsValue pool value ms rest
        → IsPair pool (roll-NamedElement (record { name = name; value = value })) (marks.Name n ∷ ms) rest

  pub data ArePairs (pool : List PoolEntry) : List NamedElement → List Mark → List Mark → Type 0 where
    no_pairs : (rest : List Mark) → ArePairs pool [] rest rest
    one_pair : (p : NamedElement) (ps : List NamedElement) (ms next rest : List Mark) → IsPair pool p ms next → ArePairs pool ps next rest → ArePairs pool (p ∷ ps) ms rest

-- annotations of one list, in a visible table or not, of a parameter or none
pub data AreNotes (pool : List PoolEntry) (visible : Bool) (parameter : Option ℕ) : List Note → List Mark → List Mark → Type 0 where
  no_notes : (rest : List Mark) → AreNotes pool visible parameter [] rest rest
  one_note : (a : Annotation) (notes : List Note) (ms next rest : List Mark) → IsAnnotation pool a ms next → AreNotes pool visible parameter notes next rest
      → AreNotes pool visible parameter (record { visible = visible; parameter = parameter; annotation = a } ∷ notes) ms rest

-- the annotations of a class or of a member: one list and no more
pub record IsNoteList (pool : List PoolEntry) (visible : Bool) (notes : List Note) (parts : List Mark) : Type 0 where
  pub list : List Mark
  pub starts : parts ≡ marks.List (length notes) ∷ list
  pub are : AreNotes pool visible None notes list []

-- the annotations of the parameters from this place on: one list for each (4.7.18)
pub data AreListed (pool : List PoolEntry) (visible : Bool) : ℕ → List Note → List Mark → Type 0 where
  no_lists : (place : ℕ) → AreListed pool visible place [] []
  one_list : (place : ℕ) (notes others : List Note) (ms next : List Mark) → AreNotes pool visible (Some place) notes ms next → AreListed pool visible (place + 1) others next
      → AreListed pool visible place (notes ++ others) (marks.List (length notes) ∷ ms)

-- the bytes are the annotations of a class or of a member, and their numbers name these
pub record AreRead (pool : List PoolEntry) (visible : Bool) (bytes : List ℕ) (notes : List Note) : Type 0 where
  pub parts : List Mark
  pub table : IsTable (lists 1) bytes parts
  pub sound : AllByRecursion (IsSound pool) parts
  pub notes_are : IsNoteList pool visible notes parts

-- the bytes are such annotations, in which a number first breaks what it must meet at the place
pub record IsReferenceFault (pool : List PoolEntry) (bytes : List ℕ) (at : ℕ) : Type 0 where
  pub parts : List Mark
  pub table : IsTable (lists 1) bytes parts
  pub breaks : FirstBreaks pool parts at

-- the cause of a fault; one of the layout comes before every other
abbrev pub NotesBreak : List PoolEntry → List ℕ → ClassFault → Type 0
NotesBreak pool bytes faults.Memory = Unit {0}
NotesBreak pool bytes (faults.Layout at) = IsLayoutFault (lists 1) bytes 0 at
NotesBreak pool bytes (faults.Reference at) = IsReferenceFault pool bytes at

-- these annotations, unless memory ran out
abbrev pub GivesNotes : Result (List Note) ClassFault → List Note → Type 0
GivesNotes (Ok found) notes = found ≡ notes
GivesNotes (Err faults.Memory) notes = Unit {0}
GivesNotes (Err (faults.Layout at)) notes = ⊥
GivesNotes (Err (faults.Reference at)) notes = ⊥

-- the bytes are the annotations of a method's parameters, and their numbers name these
pub record AreParametersRead (pool : List PoolEntry) (visible : Bool) (bytes : List ℕ) (notes : List Note) : Type 0 where
  pub parts : List Mark
  pub table : IsParameterTable bytes parts
  pub sound : AllByRecursion (IsSound pool) parts
  pub notes_are : AreListed pool visible 0 notes parts

-- the bytes are such annotations, in which a number first breaks what it must meet at the place; one byte, the count of
-- lists, stands before the parts
pub record IsParameterReferenceFault (pool : List PoolEntry) (bytes : List ℕ) (at : ℕ) : Type 0 where
  pub parts : List Mark
  pub place : ℕ
  pub table : IsParameterTable bytes parts
  pub breaks : FirstBreaks pool parts place
  pub later : at ≡ place + 1

-- the cause of a fault in a table of parameters; one of the layout comes before every other
abbrev pub ParameterNotesBreak : List PoolEntry → List ℕ → ClassFault → Type 0
ParameterNotesBreak pool bytes faults.Memory = Unit {0}
ParameterNotesBreak pool bytes (faults.Layout at) = ParametersBreak bytes 0 (faults.Layout at)
ParameterNotesBreak pool bytes (faults.Reference at) = IsParameterReferenceFault pool bytes at
