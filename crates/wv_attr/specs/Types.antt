-- The types that the texts of a pool say (JVM Specification 4.3.2).
use Rattle.std.specs.Prelude.{◌≡◌, ℕ, zero, suc, ◌==◌, if◌then◌else◌, List, [], ◌∷◌, slice_get, Option, Some, None, IfSome}
use Rattle.wv_base.specs.declared.class_file.PoolEntry.{PoolEntry}
use Rattle.wv_base.specs.declared.class_file.PoolEntry.TheVariants as entries
use Rattle.wv_base.specs.declared.descriptor.ElementType.{ElementType}
use Rattle.wv_base.specs.declared.descriptor.ElementType.TheVariants as elements
use Rattle.wv_base.specs.declared.descriptor.FieldType.{FieldType}
use Rattle.wv_desc.specs.TypeOf.{IsFieldTypeOf}

-- the type whose descriptor a text is, if it is one
pub record IsTextType (text : List ℕ) (type : Option FieldType) : Type 0 where
  pub found : IfSome type (IsFieldTypeOf text)
  pub only : (field : FieldType) → IsFieldTypeOf text field → type ≡ Some field

abbrev pub IsEntryType : PoolEntry → Option FieldType → Type 0
IsEntryType (entries.Utf8 text) type = IsTextType text type
IsEntryType entry type = type ≡ None

-- the type of each entry, by its place
abbrev pub AreTypes : List PoolEntry → List (Option FieldType) → Type 0
AreTypes [] [] = Unit {0}
AreTypes [] (_ ∷ _) = ⊥
AreTypes (_ ∷ _) [] = ⊥
AreTypes (entry ∷ pool) (type ∷ types) = IsEntryType entry type × AreTypes pool types

abbrev pub type_in : Option (Option FieldType) → Option FieldType
type_in (Some type) = type
type_in None = None

abbrev pub slot_of : List (Option FieldType) → ℕ → Option (Option FieldType)
slot_of types zero = None
slot_of types (suc place) = slice_get types place

-- what the types have at a number
abbrev pub type_of : List (Option FieldType) → ℕ → Option FieldType
type_of types number = type_in (slot_of types number)

abbrev pub class_element : ElementType → Option (List ℕ)
class_element (elements.Class name) = Some name
class_element (elements.Primitive primitive) = None

-- the class that a type is
abbrev pub class_in : Option FieldType → Option (List ℕ)
class_in (Some field) = if field.dimensions == 0 then class_element field.element else None
class_in None = None
