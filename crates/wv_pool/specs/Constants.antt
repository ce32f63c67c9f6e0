-- The constant that a number of a pool names (JVM Specification 4.4), with names in place of numbers.
use Rattle.std.specs.Prelude.{ℕ, true, false, List, Option, Some, None}
use Rattle.std.specs.Option.{option_map, option_and_then}
use Rattle.wv_base.specs.declared.class_file.PoolEntry.{PoolEntry}
use Rattle.wv_base.specs.declared.class_file.PoolEntry.TheVariants as entries
use Rattle.wv_base.specs.declared.constant.Const.{Const}
use Rattle.wv_base.specs.declared.constant.Const.TheVariants as constants
use Rattle.wv_base.specs.declared.constant.MemberReference.{MemberReference}
use Rattle.wv_pool.specs.References.{entry_of, text_of, class_of, pair_of}

-- the name of the class with the number
abbrev pub class_name : List PoolEntry → ℕ → Option (List ℕ)
class_name pool number = option_and_then (text_of pool) (class_of pool number)

-- two texts, where both are there
abbrev pub both : Option (List ℕ) → Option (List ℕ) → Option (List ℕ × List ℕ)
both (Some a) (Some b) = Some (a, b)
both _ _ = None

abbrev pub pair_texts : List PoolEntry → Option (ℕ × ℕ) → Option (List ℕ × List ℕ)
pair_texts pool (Some pair) = both (text_of pool pair.0) (text_of pool pair.1)
pair_texts pool None = None

-- the name and the descriptor of the NameAndType with the number
abbrev pub named_pair : List PoolEntry → ℕ → Option (List ℕ × List ℕ)
named_pair pool number = pair_texts pool (pair_of pool number)

abbrev pub member_of : Option (List ℕ) → Option (List ℕ × List ℕ) → Option MemberReference
member_of (Some owner) (Some pair) = Some (record { owner = owner; name = pair.0; descriptor = pair.1 })
member_of _ _ = None

-- the member that a class's number and a NameAndType's number name
abbrev pub member : List PoolEntry → ℕ → ℕ → Option MemberReference
member pool class pair = member_of (class_name pool class) (named_pair pool pair)

-- a handle of the member that an entry names
abbrev pub handle : List PoolEntry → ℕ → Option PoolEntry → Option Const
handle pool kind (Some (entries.Field class pair)) = option_map (λ m. constants.MethodHandle kind m false) (member pool class pair)
handle pool kind (Some (entries.Method class pair)) = option_map (λ m. constants.MethodHandle kind m false) (member pool class pair)
handle pool kind (Some (entries.InterfaceMethod class pair)) = option_map (λ m. constants.MethodHandle kind m true) (member pool class pair)
handle pool kind _ = None

-- the constant of an entry
abbrev pub constant_in : List PoolEntry → PoolEntry → Option Const
constant_in pool (entries.Utf8 name) = Some (constants.Utf8 name)
constant_in pool (entries.Integer value) = Some (constants.Integer value)
constant_in pool (entries.Float bits) = Some (constants.Float bits)
constant_in pool (entries.Long value) = Some (constants.Long value)
constant_in pool (entries.Double bits) = Some (constants.Double bits)
constant_in pool (entries.Class name) = option_map (λ n. constants.Class n) (text_of pool name)
constant_in pool (entries.String text) = option_map (λ n. constants.String n) (text_of pool text)
constant_in pool (entries.Field class pair) = option_map (λ m. constants.Field m) (member pool class pair)
constant_in pool (entries.Method class pair) = option_map (λ m. constants.Method m false) (member pool class pair)
constant_in pool (entries.InterfaceMethod class pair) = option_map (λ m. constants.Method m true) (member pool class pair)
constant_in pool (entries.NameAndType name descriptor) = option_map (λ p. constants.NameAndType p.0 p.1) (both (text_of pool name) (text_of pool descriptor))
constant_in pool (entries.MethodHandle kind reference) = handle pool kind (entry_of pool reference)
constant_in pool (entries.MethodType descriptor) = option_map (λ n. constants.MethodType n) (text_of pool descriptor)
constant_in pool (entries.InvokeDynamic bootstrap pair) = option_map (λ p. constants.InvokeDynamic bootstrap p.0 p.1) (named_pair pool pair)
constant_in pool entries.Unusable = None

-- the constant with the number
abbrev pub constant_of : List PoolEntry → ℕ → Option Const
constant_of pool number = option_and_then (constant_in pool) (entry_of pool number)
