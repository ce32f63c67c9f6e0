-- The grammar of names in class files (JVM Specification 4.2).
use Rattle.std.specs.Prelude.{ℕ, Bool, not, ◌&&◌, ◌||◌, ◌==◌, List, length, codes, bytes_eq, nat_lt}
use Rattle.std.specs.List.{list_all, slice_split}
use Rattle.wv_base.specs.declared.grammar.TheConstants.{DOT, SLASH, SEMICOLON, BRACKET, LESS, GREATER}

-- a unit that stands in unqualified names: any but  . ; [ /
abbrev pub is_name_unit : ℕ → Bool
is_name_unit unit = not (unit == DOT || unit == SEMICOLON || unit == BRACKET || unit == SLASH)

-- an unqualified name, as a field's (4.2.2): at least one unit, and only such
abbrev pub is_unqualified : List ℕ → Bool
is_unqualified name = nat_lt 0 (length name) && list_all is_name_unit name

-- a class's name in internal form (4.2.1): unqualified names with slashes between them
abbrev pub is_class_name : List ℕ → Bool
is_class_name name = list_all is_unqualified (slice_split (λ unit. unit == SLASH) name)

-- one of  < >
abbrev pub is_angle : ℕ → Bool
is_angle unit = unit == LESS || unit == GREATER

-- a method's name (4.2.2): besides without < and >, but for the two special ones
abbrev pub is_method_name : List ℕ → Bool
is_method_name name =
    bytes_eq name (codes "<init>") || bytes_eq name (codes "<clinit>")
    || (is_unqualified name && list_all (λ unit. not (is_angle unit)) name)
