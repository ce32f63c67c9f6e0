-- Reading a descriptor from the front. That this is the reading of `descriptor_of` and of no other
-- units, the laws of `one_descriptor` say.
use Rattle.std.specs.Prelude.{◌≡◌, ℕ, ◌++◌, ◌+◌, ◌&&◌, ◌==◌, nat_lt, nat_le, if◌then◌else◌, List, [], ◌∷◌, length, take, drop, Option, Some, None}
use Rattle.std.specs.Option.{option_map}
use Rattle.std.specs.List.{flat_map, prefix_len, position_or_len, AllByRecursion}
use Rattle.wv_base.specs.declared.grammar.TheConstants.{BRACKET, SEMICOLON}
use Rattle.wv_base.specs.declared.descriptor.TheConstants.{CLASS, CLOSE}
use Rattle.wv_base.specs.declared.descriptor.Primitive.{Primitive}
use Rattle.wv_base.specs.declared.descriptor.Primitive.TheVariants.{Boolean, Byte, Char, Short, Int, Long, Float, Double}
use Rattle.wv_base.specs.declared.descriptor.ElementType.{ElementType}
use Rattle.wv_base.specs.declared.descriptor.ElementType.TheVariants as elements
use Rattle.wv_base.specs.declared.descriptor.FieldType.{FieldType}
use Rattle.wv_base.specs.Names.{is_class_name}
use Rattle.wv_base.specs.Descriptor.{descriptor_of, IsFieldType}

-- the primitive type of a letter
abbrev pub primitive_of : ℕ → Option Primitive
primitive_of letter =
    if letter == 90 then Some Boolean
    else if letter == 66 then Some Byte
    else if letter == 67 then Some Char
    else if letter == 83 then Some Short
    else if letter == 73 then Some Int
    else if letter == 74 then Some Long
    else if letter == 70 then Some Float
    else if letter == 68 then Some Double
    else None

-- behind an L: the class name up to the first semicolon, and the units behind that
unfoldable pub class_at : List ℕ → Option (List ℕ × List ℕ)
class_at units =
    let end = position_or_len (λ unit. unit == SEMICOLON) units in
    if nat_lt end (length units) && is_class_name (take end units)
    then Some (take end units, drop (end + 1) units) else None

-- the type at the front, which is no array, and the units behind it
unfoldable pub element_at : List ℕ → Option (ElementType × List ℕ)
element_at [] = None
element_at (first ∷ rest) =
    if first == CLASS then option_map (λ found. (elements.Class found.0, found.1)) (class_at rest)
    else option_map (λ primitive. (elements.Primitive primitive, rest)) (primitive_of first)

-- the type at the front and the units behind it
unfoldable pub field_at : List ℕ → Option (FieldType × List ℕ)
field_at units =
    let dimensions = prefix_len (λ unit. unit == BRACKET) units in
    if nat_le dimensions 255
    then option_map (λ found. (record { element = found.0; dimensions = dimensions }, found.1)) (element_at (drop dimensions units))
    else None

-- the parameters' types at the front, and the units behind the parenthesis that ends them
pub record IsParametersFront (units : List ℕ) (fields : List FieldType) (rest : List ℕ) : Type 0 where
  pub each : AllByRecursion IsFieldType fields
  pub spelled : units ≡ flat_map descriptor_of fields ++ CLOSE ∷ rest
