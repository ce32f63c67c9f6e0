-- The number of a constant, found by the numbers of its parts.
use Rattle.std.specs.Prelude.{◌≡◌, ℕ, ◌≤◌, Bool, true, false, nat_le, if◌then◌else◌, List, length, Option, Some, None, IsSomeAnd, ◌⊎◌}
use Rattle.std.specs.Option.{option_map, option_and_then}
use Rattle.wv_base.specs.declared.class_file.PoolEntry.{PoolEntry}
use Rattle.wv_base.specs.declared.constant.Const.{Const}
use Rattle.wv_base.specs.declared.constant.Const.TheVariants as constants
use Rattle.wv_base.specs.declared.constant.MemberReference.{MemberReference}
use Rattle.wv_pool.specs.declared.key.Key.{Key}
use Rattle.wv_pool.specs.declared.key.Key.TheVariants as keys
use Rattle.wv_pool.specs.Constants.{constant_of}

abbrev pub two : (ℕ → ℕ → Key) → Option ℕ → Option ℕ → Option Key
two make (Some a) (Some b) = Some (make a b)
two make _ _ = None

module _ (number : Key → Option ℕ) where
  abbrev pub text_number : List ℕ → Option ℕ
  text_number name = number (keys.Utf8 name)

  abbrev pub class_number : List ℕ → Option ℕ
  class_number name = option_and_then number (option_map (λ n. keys.Class n) (text_number name))

  abbrev pub pair_number : List ℕ → List ℕ → Option ℕ
  pair_number name descriptor = option_and_then number (two (λ a b. keys.NameAndType a b) (text_number name) (text_number descriptor))

  -- a member's key, made of its class's number and its NameAndType's
  abbrev pub member_key : (ℕ → ℕ → Key) → MemberReference → Option Key
  member_key make m = two make (class_number m.owner) (pair_number m.name m.descriptor)

  abbrev pub method_key : Bool → MemberReference → Option Key
  method_key true m = member_key (λ a b. keys.InterfaceMethod a b) m
  method_key false m = member_key (λ a b. keys.Method a b) m

  -- the key of what a handle names: kinds up to 4 are of fields (JVM Specification 4.4.8)
  abbrev pub handled_key : ℕ → MemberReference → Bool → Option Key
  handled_key kind m true = if nat_le kind 4 then None else method_key true m
  handled_key kind m false = if nat_le kind 4 then member_key (λ a b. keys.Field a b) m else method_key false m

  -- the key of a constant, where each of its parts has a number
  abbrev pub find_key : Const → Option Key
  find_key (constants.Utf8 name) = Some (keys.Utf8 name)
  find_key (constants.Integer value) = Some (keys.Integer value)
  find_key (constants.Float bits) = Some (keys.Float bits)
  find_key (constants.Long value) = Some (keys.Long value)
  find_key (constants.Double bits) = Some (keys.Double bits)
  find_key (constants.Class name) = option_map (λ n. keys.Class n) (text_number name)
  find_key (constants.String text) = option_map (λ n. keys.String n) (text_number text)
  find_key (constants.Field m) = member_key (λ a b. keys.Field a b) m
  find_key (constants.Method m interface) = method_key interface m
  find_key (constants.NameAndType name descriptor) = two (λ a b. keys.NameAndType a b) (text_number name) (text_number descriptor)
  find_key (constants.MethodHandle kind m interface) = option_map (λ n. keys.MethodHandle kind n) (option_and_then number (handled_key kind m interface))
  find_key (constants.MethodType descriptor) = option_map (λ n. keys.MethodType n) (text_number descriptor)
  find_key (constants.InvokeDynamic bootstrap name descriptor) = option_map (λ n. keys.InvokeDynamic bootstrap n) (pair_number name descriptor)

  -- the same of the constants that are no texts
  abbrev pub other_key : Const → Option Key
  other_key (constants.Utf8 name) = None
  other_key c = find_key c

  -- the number of a constant
  abbrev pub number_for : Const → Option ℕ
  number_for c = option_and_then number (find_key c)

-- the numbers in a key
abbrev pub Mentions : Key → ℕ → Type 0
Mentions (keys.Class n) m = n ≡ m
Mentions (keys.String n) m = n ≡ m
Mentions (keys.Field a b) m = (a ≡ m) ⊎ (b ≡ m)
Mentions (keys.Method a b) m = (a ≡ m) ⊎ (b ≡ m)
Mentions (keys.InterfaceMethod a b) m = (a ≡ m) ⊎ (b ≡ m)
Mentions (keys.NameAndType a b) m = (a ≡ m) ⊎ (b ≡ m)
Mentions (keys.MethodHandle kind n) m = n ≡ m
Mentions (keys.MethodType n) m = n ≡ m
Mentions (keys.InvokeDynamic bootstrap n) m = n ≡ m
Mentions key m = ⊥

-- the numbers of a pool
abbrev pub IsIn : List PoolEntry → ℕ → Type 0
IsIn pool n = n ≤ length pool

-- An index of a pool, of which these numbers were entered: it has for each constant that one of them names
-- the least that does.
pub record Enters (pool : List PoolEntry) (entered : ℕ → Type 0) (number : Key → Option ℕ) : Type 0 where
  pub named : (c : Const) (n : ℕ) → number_for number c ≡ Some n → (constant_of pool n ≡ Some c) × entered n
  pub least : (c : Const) (n : ℕ) → entered n → constant_of pool n ≡ Some c → IsSomeAnd (number_for number c) (λ first. first ≤ n)
  pub mentioned : (k : Key) (n m : ℕ) → number k ≡ Some n → Mentions k m → entered m

-- the least number of the pool that names the constant
pub record IsLeast (pool : List PoolEntry) (c : Const) (n : ℕ) : Type 0 where
  pub names : constant_of pool n ≡ Some c
  pub least : (m : ℕ) → constant_of pool m ≡ Some c → n ≤ m

abbrev pub Named : List PoolEntry → Const → Type 0
Named pool c = (n : ℕ) × (constant_of pool n ≡ Some c)
