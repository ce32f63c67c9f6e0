-- The lengths that an attribute's content can have (JVM Specification 4.7).
use Rattle.std.specs.Prelude.{◌≡◌, ℕ, ◌%◌, ◌<◌, ◌≤◌, ◌⊎◌}
use Rattle.wv_room.specs.Elements.{ElementsFill}
use Rattle.wv_class.specs.declared.raw_class.Kind.{Kind}
use Rattle.wv_class.specs.declared.raw_class.Kind.TheVariants as kinds

-- one list of annotations can have so many bytes
abbrev pub IsListLength : ℕ → Type 0
IsListLength n = ElementsFill 0 0 0 1 n

-- a number of the class of each that is thrown, with their count
pub record IsThrownLength (n : ℕ) : Type 0 where
  pub even : n % 2 ≡ 0
  pub least : 2 ≤ n
  pub most : n ≤ 131072

abbrev pub AllowsLength : Kind → ℕ → Type 0
AllowsLength kinds.Code n = 12 ≤ n
AllowsLength kinds.ConstantValue n = n ≡ 2
AllowsLength kinds.Exceptions n = IsThrownLength n
AllowsLength (kinds.Annotations visible) n = IsListLength n
-- a count of one byte, and lists, of which each has two bytes, six, ten or more
AllowsLength (kinds.ParameterAnnotations visible) n = (n % 2 ≡ 1) ⊎ (11 ≤ n)
AllowsLength kinds.Other n = Unit {0}
