-- What the machines see of classes, and the method that a reference names (JVM Specification 5.4.3.3).
use Rattle.std.specs.Prelude.{ℕ, ◌==◌, ◌&&◌, Bool, not, List, bytes_eq, Option, slice_get, option_and_then, option_map}
use Rattle.std.specs.Int.Bits.{bit_and}
use Rattle.std.specs.List.{position}
use Rattle.std.specs.Option.{is_some}
use Rattle.wv_base.specs.declared.class_file.Member.{Member}
use Rattle.wv_model.specs.Platform.{is_platform_interface}

-- a method without its code
pub record MethodShape : Type 0 where
  pub flags : ℕ
  pub name : List ℕ
  pub descriptor : List ℕ

-- a class without the code of its methods; a class of the form is below `java/lang/Object` and has no field
pub record ClassShape : Type 0 where
  pub name : List ℕ
  pub methods : List MethodShape

abbrev pub method_shape : Member → MethodShape
method_shape method =
    record { flags = method.flags.0; name = method.name; descriptor = method.descriptor }

-- the first item that passes, with its number from 0
abbrev pub numbered : {X : Type 0} → (X → Bool) → List X → Option (ℕ × X)
numbered test items =
    option_and_then (λ number. option_map (λ item. (number, item)) (slice_get items number)) (position test items)

-- the class with this name
abbrev pub class_named : List ClassShape → List ℕ → Option (ℕ × ClassShape)
class_named classes name = numbered (λ class. bytes_eq class.name name) classes

-- the method with this name and descriptor that the class declares
abbrev pub method_named : ClassShape → List ℕ → List ℕ → Option (ℕ × MethodShape)
method_named class name descriptor =
    numbered (λ method. bytes_eq method.name name && bytes_eq method.descriptor descriptor) class.methods

-- whether the name is that of an interface: no class of the form is one, so it is one of the platform's
abbrev pub names_interface : List ClassShape → List ℕ → Bool
names_interface classes name = not (is_some (class_named classes name)) && is_platform_interface name

-- whether a method is static (table 4.6-A)
abbrev pub is_static : MethodShape → Bool
is_static method = bit_and method.flags 0x0008 == 0x0008
