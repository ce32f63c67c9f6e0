-- The bytes of a class file, whatever its numbers name (JVM Specification 4.1), and where bytes first break that layout.
-- Values of annotations nest at most 255 deep (our own limit). That limit is asked of values that begin within the first
-- so many bytes, the first number of each relation: of all in a whole file, and in bytes that only begin one of those that
-- are there.
use Rattle.std.specs.Prelude.{◌≡◌, ℕ, ◌+◌, ◌-◌, ◌*◌, ◌^◌, ◌<◌, ◌≤◌, List, [], ◌∷◌, ◌++◌, length, take, Result, Ok, Err}
use Rattle.std.specs.List.{flat_map, AllByRecursion}
use Rattle.wv_base.specs.declared.class_file.PoolEntry.{PoolEntry}
use Rattle.wv_base.specs.declared.fault.ClassFault.{ClassFault}
use Rattle.wv_base.specs.declared.fault.ClassFault.TheVariants as faults
use Rattle.wv_pool.specs.Entries.{number_bytes, pool_bytes}
use Rattle.wv_pool.specs.Entries.{IsLayout as IsPoolLayout}
use Rattle.wv_code.specs.Content.{named_bytes}
use Rattle.wv_code.specs.Content.{IsContent as IsCode}
use Rattle.wv_attr.specs.declared.group.Group.{Group}
use Rattle.wv_attr.specs.declared.mark.Mark.{Mark}
use Rattle.wv_attr.specs.Marks.{table_bytes}
use Rattle.wv_attr.specs.Groups.{Follows}
use Rattle.wv_attr.specs.Layout.{lists}
use Rattle.wv_class.specs.declared.raw_class.Place.{Place}
use Rattle.wv_class.specs.declared.raw_class.Place.TheVariants as places
use Rattle.wv_class.specs.declared.raw_class.Content.{Content}
use Rattle.wv_class.specs.declared.raw_class.Content.TheVariants as contents
use Rattle.wv_class.specs.declared.raw_class.RawAttribute.{RawAttribute}
use Rattle.wv_class.specs.declared.raw_class.RawMember.{RawMember}
use Rattle.wv_class.specs.declared.raw_class.RawRest.{RawRest}
use Rattle.wv_class.specs.declared.raw_class.RawClass.{RawClass}
use Rattle.wv_class.specs.Kinds.{kind_at, kind_of}

-- ---- Attributes (4.7)

-- numbers of two bytes with their count
abbrev pub numbers_bytes : List ℕ → List ℕ
numbers_bytes numbers = number_bytes (length numbers) ++ flat_map number_bytes numbers

abbrev pub AreNumbers : List ℕ → Type 0
AreNumbers numbers = (length numbers < 2 ^ 16) × AllByRecursion (λ n. n < 2 ^ 16) numbers

-- the bytes are these parts of annotations
pub record SpellsParts (near : ℕ) (gs : List Group) (parts : List Mark) (bytes : List ℕ) : Type 0 where
  pub follows : Follows near gs parts
  pub spelled : bytes ≡ table_bytes parts

-- a count of lists, in one byte, and the lists (4.7.18)
abbrev pub SpellsLists : ℕ → List Mark → List ℕ → Type 0
SpellsLists near parts [] = ⊥
SpellsLists near parts (count ∷ bytes) = (count < 256) × SpellsParts (near - 1) (lists count) parts bytes

-- the bytes are this content of an attribute (4.7.2, 4.7.3, 4.7.5 and 4.7.16 to 4.7.19)
abbrev pub SpellsContent : ℕ → List PoolEntry → Content → List ℕ → Type 0
SpellsContent near pool (contents.Code raw) bytes = IsCode pool raw bytes
SpellsContent near pool (contents.ConstantValue number) bytes = (number < 2 ^ 16) × (bytes ≡ number_bytes number)
SpellsContent near pool (contents.Exceptions numbers) bytes = AreNumbers numbers × (bytes ≡ numbers_bytes numbers)
SpellsContent near pool (contents.Annotations visible parts) bytes = SpellsParts near (lists 1) parts bytes
SpellsContent near pool (contents.ParameterAnnotations visible parts) bytes = SpellsLists near parts bytes
SpellsContent near pool (contents.Other content) bytes = AllByRecursion (λ b. b < 256) content × (bytes ≡ content)

-- the bytes are this attribute: its name's number, its content's length and its content
pub record SpellsAttribute (pool : List PoolEntry) (place : Place) (near : ℕ) (a : RawAttribute) (bytes : List ℕ) : Type 0 where
  pub content : List ℕ
  pub short : length content < 2 ^ 32
  pub name : a.name < 2 ^ 16
  pub known : kind_at pool place a.name ≡ kind_of a.content
  pub content_is : SpellsContent (near - 6) pool a.content content
  pub spelled : bytes ≡ named_bytes a.name content

-- ---- Tables

-- the bytes are these items, one behind the other
pub data SpellsAll {X : Type 0} (S : ℕ → X → List ℕ → Type 0) : ℕ → List X → List ℕ → Type 0 where
  none : {near : ℕ} → SpellsAll S near [] []
  next : {near : ℕ} {x : X} {xs : List X} {front back : List ℕ} → S near x front → SpellsAll S (near - length front) xs back → SpellsAll S near (x ∷ xs) (front ++ back)

-- the bytes are these items with their count
pub record SpellsTable {X : Type 0} (S : ℕ → X → List ℕ → Type 0) (near : ℕ) (xs : List X) (bytes : List ℕ) : Type 0 where
  pub few : length xs < 2 ^ 16
  pub items : List ℕ
  pub all : SpellsAll S (near - 2) xs items
  pub spelled : bytes ≡ number_bytes (length xs) ++ items

abbrev pub SpellsAttributes : List PoolEntry → Place → ℕ → List RawAttribute → List ℕ → Type 0
SpellsAttributes pool place = SpellsTable (SpellsAttribute pool place)

-- ---- Fields, methods and classes

-- the bytes are this field or method (4.5 and 4.6)
pub record SpellsMember (pool : List PoolEntry) (place : Place) (near : ℕ) (m : RawMember) (bytes : List ℕ) : Type 0 where
  pub flags : m.flags < 2 ^ 16
  pub name : m.name < 2 ^ 16
  pub descriptor : m.descriptor < 2 ^ 16
  pub table : List ℕ
  pub attributes : SpellsAttributes pool place (near - 6) m.attributes table
  pub spelled : bytes ≡ number_bytes m.flags ++ (number_bytes m.name ++ (number_bytes m.descriptor ++ table))

abbrev pub SpellsMembers : List PoolEntry → Place → ℕ → List RawMember → List ℕ → Type 0
SpellsMembers pool place = SpellsTable (SpellsMember pool place)

-- the bytes are what stands behind the pool (4.1)
pub record SpellsRest (pool : List PoolEntry) (near : ℕ) (c : RawRest) (bytes : List ℕ) : Type 0 where
  pub flags : c.flags < 2 ^ 16
  pub class : c.class < 2 ^ 16
  pub superclass : c.superclass < 2 ^ 16
  pub interfaces : AreNumbers c.interfaces
  pub fields_are : List ℕ
  pub fields : SpellsMembers pool places.Field (near - (8 + 2 * length c.interfaces)) c.fields fields_are
  pub methods_are : List ℕ
  pub methods : SpellsMembers pool places.Method (near - (8 + 2 * length c.interfaces) - length fields_are) c.methods methods_are
  pub table : List ℕ
  pub attributes : SpellsAttributes pool places.Class (near - (8 + 2 * length c.interfaces) - length fields_are - length methods_are) c.attributes table
  pub spelled : bytes ≡ number_bytes c.flags ++ (number_bytes c.class ++ (number_bytes c.superclass
      ++ (numbers_bytes c.interfaces ++ (fields_are ++ (methods_are ++ table)))))

-- CA FE BA BE
abbrev pub magic : List ℕ
magic = 0xCA ∷ 0xFE ∷ 0xBA ∷ 0xBE ∷ []

-- the magic number and the version
abbrev pub head_bytes : RawClass → List ℕ
head_bytes c = magic ++ (number_bytes c.version.minor ++ number_bytes c.version.major)

-- the bytes are this class file: the magic number, its version, its pool and what stands behind it
pub record SpellsClass (near : ℕ) (c : RawClass) (bytes : List ℕ) : Type 0 where
  pub minor : c.version.minor < 2 ^ 16
  pub major : c.version.major < 2 ^ 16
  pub pool : IsPoolLayout c.pool
  pub rest : List ℕ
  pub rest_is : SpellsRest c.pool (near - 8 - length (pool_bytes c.pool)) c.rest rest
  pub spelled : bytes ≡ head_bytes c ++ (pool_bytes c.pool ++ rest)

-- a whole class file
abbrev pub IsClass : RawClass → List ℕ → Type 0
IsClass c bytes = SpellsClass (length bytes) c bytes

-- ---- Faults

-- some item begins with these bytes
pub record Begins {X : Type 0} (S : ℕ → X → List ℕ → Type 0) (front : List ℕ) : Type 0 where
  pub value : X
  pub more : List ℕ
  pub spelled : S (length front) value (front ++ more)

-- The bytes are no class file, and this is where it shows: some class file begins with those before the place, and none with
-- one byte more, or the bytes end there.
pub record IsLayoutFault (bytes : List ℕ) (at : ℕ) : Type 0 where
  pub within : at ≤ length bytes
  pub begun : Begins SpellsClass (take at bytes)
  pub none : at < length bytes → Begins SpellsClass (take (at + 1) bytes) → ⊥
  pub no_class : (c : RawClass) → IsClass c bytes → ⊥

-- the answer is this class file, unless memory ran out
abbrev pub GivesRaw : Result (RawClass × ℕ) ClassFault → RawClass → Type 0
GivesRaw (Ok found) c = found.0 ≡ c
GivesRaw (Err e) c = e ≡ faults.Memory

-- the cause of a fault
abbrev pub LayoutBreaks : List ℕ → ClassFault → Type 0
LayoutBreaks bytes (faults.Layout at) = IsLayoutFault bytes at
LayoutBreaks bytes (faults.Reference at) = ⊥
LayoutBreaks bytes faults.Memory = Unit {0}
