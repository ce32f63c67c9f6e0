-- What the numbers of a pool's entries must name (JVM Specification 4.4), and which is the first that doesn't.
use Rattle.std.specs.Prelude.{◌≡◌, ◌≢◌, ℕ, zero, suc, ◌+◌, ◌≤◌, List, ◌∷◌, ◌++◌, length, slice_get, Option, Some, None, IfSome, IsSomeAnd, IsTrue, codes, ◌⊎◌}
use Rattle.std.specs.List.{flat_map, AllByRecursion}
use Rattle.wv_base.specs.declared.class_file.PoolEntry.{PoolEntry}
use Rattle.wv_base.specs.declared.class_file.PoolEntry.TheVariants as entries
use Rattle.wv_base.specs.Names.{is_unqualified, is_method_name}
use Rattle.wv_base.specs.Descriptor.{IsFieldDescriptor, IsMethodDescriptor, IsClassConstant}
use Rattle.wv_pool.specs.Entries.{entry_bytes, IsLayout}

-- the entry with the number; none has number 0
abbrev pub entry_of : List PoolEntry → ℕ → Option PoolEntry
entry_of pool zero = None
entry_of pool (suc place) = slice_get pool place

abbrev pub text_in : Option PoolEntry → Option (List ℕ)
text_in (Some (entries.Utf8 name)) = Some name
text_in _ = None

abbrev pub text_of : List PoolEntry → ℕ → Option (List ℕ)
text_of pool number = text_in (entry_of pool number)

abbrev pub class_in : Option PoolEntry → Option ℕ
class_in (Some (entries.Class name)) = Some name
class_in _ = None

-- the number of the name of the class with the number
abbrev pub class_of : List PoolEntry → ℕ → Option ℕ
class_of pool number = class_in (entry_of pool number)

abbrev pub pair_in : Option PoolEntry → Option (ℕ × ℕ)
pair_in (Some (entries.NameAndType name descriptor)) = Some (name, descriptor)
pair_in _ = None

-- the numbers of the name and of the descriptor of the NameAndType with the number
abbrev pub pair_of : List PoolEntry → ℕ → Option (ℕ × ℕ)
pair_of pool number = pair_in (entry_of pool number)

abbrev pub IsClass : List PoolEntry → ℕ → Type 0
IsClass pool number = IsSomeAnd (class_of pool number) (λ _. Unit {0})

-- the number names a text with this grammar
abbrev pub IsText : List PoolEntry → ℕ → (List ℕ → Type 0) → Type 0
IsText pool number P = IsSomeAnd (text_of pool number) P

-- a field's name and descriptor: the descriptor is no method's
abbrev pub IsFieldPair : List PoolEntry → ℕ → Type 0
IsFieldPair pool number = IsSomeAnd (pair_of pool number) (λ pair. IsText pool pair.1 IsMethodDescriptor → ⊥)

-- < and > stand in no method's name but the two special ones
abbrev pub HasAngle : List ℕ → Type 0
HasAngle name = IsTrue (is_unqualified name) × (IsTrue (is_method_name name) → ⊥)

-- a method's name and descriptor: the descriptor is no field's
abbrev pub IsMethodPair : List PoolEntry → ℕ → Type 0
IsMethodPair pool number = IsSomeAnd (pair_of pool number) (λ pair.
    (IsText pool pair.1 IsFieldDescriptor → ⊥) × (IsText pool pair.0 HasAngle → ⊥))

abbrev pub IsInit : List ℕ → Type 0
IsInit name = name ≡ codes "<init>"

abbrev pub IsSpecial : List ℕ → Type 0
IsSpecial name = IsInit name ⊎ (name ≡ codes "<clinit>")

-- the name behind the NameAndType, where there is one
abbrev pub pair_name : List PoolEntry → Option (ℕ × ℕ) → Option (List ℕ)
pair_name pool None = None
pair_name pool (Some pair) = text_of pool pair.0

-- what a handle of a kind may name (4.4.8), by the entry that its number names
abbrev pub KindFits : List PoolEntry → ℕ → Option PoolEntry → Type 0
KindFits pool kind (Some (entries.Field class pair)) = kind ≤ 4
KindFits pool kind (Some (entries.Method class pair)) = let name = pair_name pool (pair_of pool pair) in
    (5 ≤ kind) × (kind ≤ 8) × (kind ≡ 8 → IfSome name IsInit) × (kind ≢ 8 → IfSome name (λ n. IsSpecial n → ⊥))
KindFits pool kind (Some (entries.InterfaceMethod class pair)) = let name = pair_name pool (pair_of pool pair) in
    (6 ≤ kind) × (kind ≢ 8) × IfSome name (λ n. IsSpecial n → ⊥)
KindFits pool kind _ = Unit {0}

abbrev pub IsMember : Option PoolEntry → Type 0
IsMember (Some (entries.Field class pair)) = Unit {0}
IsMember (Some (entries.Method class pair)) = Unit {0}
IsMember (Some (entries.InterfaceMethod class pair)) = Unit {0}
IsMember _ = ⊥

-- what the first field behind the tag must meet
abbrev pub FirstHolds : List PoolEntry → PoolEntry → Type 0
FirstHolds pool (entries.Class name) = IsText pool name IsClassConstant
FirstHolds pool (entries.String text) = IsText pool text (λ _. Unit {0})
FirstHolds pool (entries.Field class pair) = IsClass pool class
FirstHolds pool (entries.Method class pair) = IsClass pool class
FirstHolds pool (entries.InterfaceMethod class pair) = IsClass pool class
FirstHolds pool (entries.NameAndType name descriptor) = IsText pool name (λ n. IsTrue (is_unqualified n))
FirstHolds pool (entries.MethodHandle kind reference) = (1 ≤ kind) × (kind ≤ 9) × KindFits pool kind (entry_of pool reference)
FirstHolds pool (entries.MethodType descriptor) = IsText pool descriptor IsMethodDescriptor
FirstHolds pool _ = Unit {0}

-- and the second
abbrev pub SecondHolds : List PoolEntry → PoolEntry → Type 0
SecondHolds pool (entries.Field class pair) = IsFieldPair pool pair
SecondHolds pool (entries.Method class pair) = IsMethodPair pool pair
SecondHolds pool (entries.InterfaceMethod class pair) = IsMethodPair pool pair
SecondHolds pool (entries.NameAndType name descriptor) = IsText pool descriptor (λ d. IsFieldDescriptor d ⊎ IsMethodDescriptor d)
SecondHolds pool (entries.MethodHandle kind reference) = IsMember (entry_of pool reference)
SecondHolds pool (entries.InvokeDynamic bootstrap pair) = IsMethodPair pool pair
SecondHolds pool _ = Unit {0}

-- where the second field stands: behind a kind, which is one byte, or a number
abbrev pub second_place : PoolEntry → ℕ
second_place (entries.MethodHandle kind reference) = 2
second_place _ = 3

abbrev pub IsSound : List PoolEntry → PoolEntry → Type 0
IsSound pool entry = FirstHolds pool entry × SecondHolds pool entry

-- the first field of the entry that breaks what it must meet
abbrev pub BreaksAt : List PoolEntry → PoolEntry → ℕ → Type 0
BreaksAt pool entry place = ((place ≡ 1) × (FirstHolds pool entry → ⊥))
    ⊎ ((place ≡ second_place entry) × FirstHolds pool entry × (SecondHolds pool entry → ⊥))

-- a pool in which each number names what its place needs
abbrev pub IsPool : List PoolEntry → Type 0
IsPool pool = IsLayout pool × AllByRecursion (IsSound pool) pool

-- the first entry that breaks what its fields must meet, and the place of the field behind the count
pub record FirstBreaks (pool : List PoolEntry) (at : ℕ) : Type 0 where
  pub before : List PoolEntry
  pub entry : PoolEntry
  pub after : List PoolEntry
  pub field : ℕ
  pub parts : pool ≡ before ++ entry ∷ after
  pub sound : AllByRecursion (IsSound pool) before
  pub breaks : BreaksAt pool entry field
  pub place : at ≡ 2 + length (flat_map entry_bytes before) + field
