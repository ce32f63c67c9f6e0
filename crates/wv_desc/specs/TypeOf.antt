-- The type that a descriptor says (JVM Specification 4.3).
use Rattle.std.specs.Prelude.{◌≡◌, ℕ, List, Option}
use Rattle.wv_base.specs.declared.descriptor.FieldType.{FieldType}
use Rattle.wv_base.specs.declared.descriptor.MethodType.{MethodType}
use Rattle.wv_base.specs.Descriptor.{descriptor_of, result_descriptor, method_descriptor_of, IsFieldType, IsResult, IsMethodType}

-- the units are the descriptor of this type (4.3.2)
abbrev pub IsFieldTypeOf : List ℕ → FieldType → Type 0
IsFieldTypeOf units field = IsFieldType field × (units ≡ descriptor_of field)

-- the units are the descriptor of this result, or V where there is none (4.3.3)
abbrev pub HasResult : List ℕ → Option FieldType → Type 0
HasResult units result = IsResult result × (units ≡ result_descriptor result)

-- the units are the descriptor of this type of a method (4.3.3)
abbrev pub IsMethodTypeOf : List ℕ → MethodType → Type 0
IsMethodTypeOf units method = IsMethodType method × (units ≡ method_descriptor_of method)
