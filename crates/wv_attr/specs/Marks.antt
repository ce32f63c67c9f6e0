-- The parts of a table of annotations, and their bytes (JVM Specification 4.7.16 and 4.7.16.1).
use Rattle.std.specs.Prelude.{ℕ, ◌/◌, ◌%◌, ◌^◌, ◌<◌, Bool, ◌||◌, ◌==◌, IsTrue, List, [], ◌∷◌, ◌++◌}
use Rattle.std.specs.List.{flat_map}
use Rattle.wv_attr.specs.declared.mark.Mark.{Mark}
use Rattle.wv_attr.specs.declared.mark.Mark.TheVariants as marks

-- a number in two bytes, the most significant first
abbrev pub two_bytes : ℕ → List ℕ
two_bytes n = n / 256 ∷ n % 256 ∷ []

-- the tags of constants: B C D F I J S Z s
abbrev pub is_constant_tag : ℕ → Bool
is_constant_tag tag = tag == 66 || tag == 67 || tag == 68 || tag == 70 || tag == 73 || tag == 74 || tag == 83 || tag == 90 || tag == 115

-- a part: numbers, and before those of an element's value its tag, which is e for an enum, c for a class, @ for an
-- annotation and [ for an array
abbrev pub mark_bytes : Mark → List ℕ
mark_bytes (marks.List count) = two_bytes count
mark_bytes (marks.Annotation class count) = two_bytes class ++ two_bytes count
mark_bytes (marks.Name name) = two_bytes name
mark_bytes (marks.Constant tag value) = tag ∷ two_bytes value
mark_bytes (marks.Enum descriptor name) = 101 ∷ (two_bytes descriptor ++ two_bytes name)
mark_bytes (marks.Class descriptor) = 99 ∷ two_bytes descriptor
mark_bytes marks.Nested = 64 ∷ []
mark_bytes (marks.Array count) = 91 ∷ two_bytes count

abbrev pub table_bytes : List Mark → List ℕ
table_bytes parts = flat_map mark_bytes parts

-- a part whose numbers have room in two bytes, and whose tag is one of a constant
abbrev pub IsMark : Mark → Type 0
IsMark (marks.List count) = count < 2 ^ 16
IsMark (marks.Annotation class count) = (class < 2 ^ 16) × (count < 2 ^ 16)
IsMark (marks.Name name) = name < 2 ^ 16
IsMark (marks.Constant tag value) = IsTrue (is_constant_tag tag) × (value < 2 ^ 16)
IsMark (marks.Enum descriptor name) = (descriptor < 2 ^ 16) × (name < 2 ^ 16)
IsMark (marks.Class descriptor) = descriptor < 2 ^ 16
IsMark marks.Nested = Unit {0}
IsMark (marks.Array count) = count < 2 ^ 16
