-- Descriptors of fields and methods (JVM Specification 4.3).
use Rattle.std.specs.Prelude.{◌≡◌, ℕ, ◌≤◌, ◌<◌, ◌==◌, IsTrue, if◌then◌else◌, List, ◌++◌, Option, Some, None, IfSome, codes, replicate, ◌⊎◌}
use Rattle.std.specs.List.{flat_map, AllByRecursion, sum_by}
use Rattle.wv_base.specs.declared.grammar.TheConstants.{BRACKET}
use Rattle.wv_base.specs.declared.descriptor.Primitive.{Primitive}
use Rattle.wv_base.specs.declared.descriptor.Primitive.TheVariants.{Boolean, Byte, Char, Short, Int, Long, Float, Double}
use Rattle.wv_base.specs.declared.descriptor.ElementType.{ElementType}
use Rattle.wv_base.specs.declared.descriptor.ElementType.TheVariants as elements
use Rattle.wv_base.specs.declared.descriptor.FieldType.{FieldType}
use Rattle.wv_base.specs.declared.descriptor.MethodType.{MethodType}
use Rattle.wv_base.specs.Names.{is_class_name}

-- the letter of a primitive type (table 4.3-A)
abbrev pub letters : Primitive → List ℕ
letters Boolean = codes "Z"
letters Byte = codes "B"
letters Char = codes "C"
letters Short = codes "S"
letters Int = codes "I"
letters Long = codes "J"
letters Float = codes "F"
letters Double = codes "D"

-- the descriptor of a type that is no array: a letter, or a class's name between L and ;
abbrev pub element_descriptor : ElementType → List ℕ
element_descriptor (elements.Primitive primitive) = letters primitive
element_descriptor (elements.Class name) = codes "L" ++ (name ++ codes ";")

-- the descriptor of a type (4.3.2): one [ for each dimension before that of the element
abbrev pub descriptor_of : FieldType → List ℕ
descriptor_of field = replicate field.dimensions BRACKET ++ element_descriptor field.element

-- a class is named by a class name
abbrev pub IsElementType : ElementType → Type 0
IsElementType (elements.Primitive primitive) = Unit {0}
IsElementType (elements.Class name) = IsTrue (is_class_name name)

-- a type that has a descriptor: an array has at most 255 dimensions (4.3.2)
abbrev pub IsFieldType : FieldType → Type 0
IsFieldType field = (field.dimensions ≤ 255) × IsElementType field.element

-- the units are a field descriptor
abbrev pub IsFieldDescriptor : List ℕ → Type 0
IsFieldDescriptor units = (field : FieldType) × IsFieldType field × (units ≡ descriptor_of field)

-- the name in a Class constant (4.4.1): a class's name, or an array's descriptor
abbrev pub IsClassConstant : List ℕ → Type 0
IsClassConstant units =
    IsTrue (is_class_name units)
    ⊎ ((field : FieldType) × IsFieldType field × (0 < field.dimensions) × (units ≡ descriptor_of field))

-- the descriptor of a result: V where there is none
abbrev pub result_descriptor : Option FieldType → List ℕ
result_descriptor None = codes "V"
result_descriptor (Some field) = descriptor_of field

-- the descriptor of a method (4.3.3): its parameters' in parentheses, and its result's
abbrev pub method_descriptor_of : MethodType → List ℕ
method_descriptor_of method =
    codes "(" ++ (flat_map descriptor_of method.parameters ++ (codes ")" ++ result_descriptor method.result))

-- a result that has a descriptor
abbrev pub IsResult : Option FieldType → Type 0
IsResult result = IfSome result IsFieldType

-- a method's type that has a descriptor
abbrev pub IsMethodType : MethodType → Type 0
IsMethodType method = AllByRecursion IsFieldType method.parameters × IsResult method.result

-- the units are a method descriptor
abbrev pub IsMethodDescriptor : List ℕ → Type 0
IsMethodDescriptor units = (method : MethodType) × IsMethodType method × (units ≡ method_descriptor_of method)

-- how many words a value takes (4.3.3): two where it is a long or a double, else one
abbrev pub element_words : ElementType → ℕ
element_words (elements.Primitive Long) = 2
element_words (elements.Primitive Double) = 2
element_words _ = 1

-- the same of a type: an array takes one
abbrev pub field_words : FieldType → ℕ
field_words field = if field.dimensions == 0 then element_words field.element else 1

-- how many words the arguments take, without `this`
abbrev pub parameter_words : MethodType → ℕ
parameter_words method = sum_by field_words method.parameters

-- the units are a method descriptor, whose arguments take so many words
abbrev pub HasWords : List ℕ → ℕ → Type 0
HasWords units words =
    (method : MethodType) × IsMethodType method × (units ≡ method_descriptor_of method) × (words ≡ parameter_words method)
