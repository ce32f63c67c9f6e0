-- Where the bytes first break the layout of a table of annotations.
use Rattle.std.specs.Prelude.{◌≡◌, ℕ, ◌+◌, ◌^◌, ◌<◌, ◌≤◌, List, [], ◌∷◌, length, take, Result, Ok, Err, ◌⊎◌}
use Rattle.wv_base.specs.declared.fault.ClassFault.{ClassFault}
use Rattle.wv_base.specs.declared.fault.ClassFault.TheVariants as faults
use Rattle.wv_room.specs.declared.element_count.ElementKind.TheVariants as kinds
use Rattle.wv_attr.specs.declared.mark.Mark.{Mark}
use Rattle.wv_attr.specs.declared.group.Group.{Group}
use Rattle.wv_attr.specs.Marks.{table_bytes}
use Rattle.wv_attr.specs.Groups.{group, Follows}

-- lists of annotations, so many: that of a class or a member is one (JVM Specification 4.7.16), and a method has one
-- for each parameter (4.7.18)
abbrev pub lists : ℕ → List Group
lists count = group kinds.Parameter 1 count ∷ []

-- the bytes of an attribute, whose length has four bytes (4.7), are those of parts with this layout
pub record IsTable (gs : List Group) (bytes : List ℕ) (parts : List Mark) : Type 0 where
  pub small : length bytes < 2 ^ 32
  pub follows : Follows (length bytes) gs parts
  pub spelled : bytes ≡ table_bytes parts

-- So many of the bytes, behind which as many are missing, begin such an attribute of this size: some parts begin with them,
-- of which no value that begins within them is too deep.
pub record Begins (gs : List Group) (bytes : List ℕ) (missing front : ℕ) : Type 0 where
  pub parts : List Mark
  pub small : length bytes + missing < 2 ^ 32
  pub follows : Follows front gs parts
  pub long : length (table_bytes parts) ≡ length bytes + missing
  pub agrees : take front (table_bytes parts) ≡ take front bytes

-- The bytes have no such layout, and this is where it shows: each shorter front begins one, and none begins with one byte
-- more, or the bytes end here.
pub record IsLayoutFault (gs : List Group) (bytes : List ℕ) (missing at : ℕ) : Type 0 where
  pub within : at ≤ length bytes
  pub no_table : missing ≡ 0 → (parts : List Mark) → IsTable gs bytes parts → ⊥
  pub begins : (k : ℕ) → 0 < k → k ≤ at → Begins gs bytes missing k
  pub none : at < length bytes → Begins gs bytes missing (at + 1) → ⊥

-- these parts, unless memory ran out
abbrev pub GivesParts : Result (List Mark) ClassFault → List Mark → Type 0
GivesParts (Ok found) parts = found ≡ parts
GivesParts (Err faults.Memory) parts = Unit {0}
GivesParts (Err (faults.Layout at)) parts = ⊥
GivesParts (Err (faults.Reference at)) parts = ⊥

-- the cause of a fault
abbrev pub LayoutBreaks : List Group → List ℕ → ℕ → ClassFault → Type 0
LayoutBreaks gs bytes missing faults.Memory = Unit {0}
LayoutBreaks gs bytes missing (faults.Layout at) = IsLayoutFault gs bytes missing at
LayoutBreaks gs bytes missing (faults.Reference at) = ⊥

-- the bytes of an attribute are a count of lists and the lists (4.7.18)
pub record IsParameterTable (bytes : List ℕ) (parts : List Mark) : Type 0 where
  pub count : ℕ
  pub rest : List ℕ
  pub small : length bytes < 2 ^ 32
  pub starts : bytes ≡ count ∷ rest
  pub table : IsTable (lists count) rest parts

-- behind the count: it begins lists, and here it shows that the bytes are no such lists
pub record BreaksBehind (bytes : List ℕ) (missing at : ℕ) : Type 0 where
  pub count : ℕ
  pub rest : List ℕ
  pub place : ℕ
  pub starts : bytes ≡ count ∷ rest
  pub later : at ≡ place + 1
  pub begins : Begins (lists count) rest missing 0
  pub fault : IsLayoutFault (lists count) rest missing place

-- at the count: so many lists can't fill the bytes behind it, or there is none
pub record BreaksFirst (bytes : List ℕ) (missing at : ℕ) : Type 0 where
  pub first : at ≡ 0
  pub none : length bytes + missing < 2 ^ 32 → (count : ℕ) (rest : List ℕ) → bytes ≡ count ∷ rest → Begins (lists count) rest missing 0 → ⊥

-- the cause of a fault in a table of parameters
abbrev pub ParametersBreak : List ℕ → ℕ → ClassFault → Type 0
ParametersBreak bytes missing faults.Memory = Unit {0}
ParametersBreak bytes missing (faults.Layout at) = BreaksFirst bytes missing at ⊎ BreaksBehind bytes missing at
ParametersBreak bytes missing (faults.Reference at) = ⊥
