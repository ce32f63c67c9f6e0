-- Which attributes are known, by their names and places (JVM Specification 4.7).
use Rattle.std.specs.Prelude.{ℕ, Bool, true, false, List, Option, Some, None, codes, bytes_eq, if◌then◌else◌}
use Rattle.wv_base.specs.declared.class_file.PoolEntry.{PoolEntry}
use Rattle.wv_pool.specs.References.{text_of}
use Rattle.wv_class.specs.declared.raw_class.Place.{Place}
use Rattle.wv_class.specs.declared.raw_class.Place.TheVariants as places
use Rattle.wv_class.specs.declared.raw_class.Kind.{Kind}
use Rattle.wv_class.specs.declared.raw_class.Kind.TheVariants as kinds
use Rattle.wv_class.specs.declared.raw_class.Content.{Content}
use Rattle.wv_class.specs.declared.raw_class.Content.TheVariants as contents

-- the two tables of annotations, on classes, fields and methods (4.7.16 and 4.7.17)
abbrev pub annotations_kind : List ℕ → Kind
annotations_kind name =
    if bytes_eq name (codes "RuntimeVisibleAnnotations") then kinds.Annotations true
    else if bytes_eq name (codes "RuntimeInvisibleAnnotations") then kinds.Annotations false
    else kinds.Other

-- and those of parameters, on methods (4.7.18 and 4.7.19)
abbrev pub parameters_kind : List ℕ → Kind
parameters_kind name =
    if bytes_eq name (codes "RuntimeVisibleParameterAnnotations") then kinds.ParameterAnnotations true
    else if bytes_eq name (codes "RuntimeInvisibleParameterAnnotations") then kinds.ParameterAnnotations false
    else annotations_kind name

-- what a name is at its place: ConstantValue on a field (4.7.2), Code and Exceptions on a method (4.7.3 and 4.7.5)
abbrev pub named_kind : Place → List ℕ → Kind
named_kind places.Class name = annotations_kind name
named_kind places.Field name = if bytes_eq name (codes "ConstantValue") then kinds.ConstantValue else annotations_kind name
named_kind places.Method name =
    if bytes_eq name (codes "Code") then kinds.Code
    else if bytes_eq name (codes "Exceptions") then kinds.Exceptions
    else parameters_kind name

abbrev pub text_kind : Place → Option (List ℕ) → Kind
text_kind place None = kinds.Other
text_kind place (Some name) = named_kind place name

-- what the attribute is whose name has this number, which needn't be that of a text
unfoldable pub kind_at : List PoolEntry → Place → ℕ → Kind
kind_at pool place number = text_kind place (text_of pool number)

-- the kind of which a content is
abbrev pub kind_of : Content → Kind
kind_of (contents.Code raw) = kinds.Code
kind_of (contents.ConstantValue number) = kinds.ConstantValue
kind_of (contents.Exceptions numbers) = kinds.Exceptions
kind_of (contents.Annotations visible parts) = kinds.Annotations visible
kind_of (contents.ParameterAnnotations visible parts) = kinds.ParameterAnnotations visible
kind_of (contents.Other bytes) = kinds.Other
