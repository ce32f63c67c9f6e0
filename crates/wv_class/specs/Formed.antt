-- Classes that a class file can have, apart from the limits of the format (JVM Specification 4).
use Rattle.std.specs.Prelude.{◌≡◌, ℕ, ◌+◌, ◌^◌, ◌<◌, ◌≤◌, Bool, true, false, if◌then◌else◌, IsTrue, codes, List, [], ◌∷◌, length, slice_get, Option, Some, None}
use Rattle.std.specs.List.{AllByRecursion}
use Rattle.wv_base.specs.Names.{is_unqualified, is_method_name, is_class_name}
use Rattle.wv_base.specs.Descriptor.{IsFieldDescriptor, IsMethodDescriptor, HasWords}
use Rattle.wv_base.specs.declared.class_file.PoolEntry.{PoolEntry}
use Rattle.wv_base.specs.declared.class_file.Attribute.{Attribute}
use Rattle.wv_base.specs.declared.class_file.Body.{Body}
use Rattle.wv_base.specs.declared.class_file.Member.{Member}
use Rattle.wv_base.specs.declared.class_file.ClassFile.{ClassFile}
use Rattle.wv_base.specs.declared.constant.Const.{Const}
use Rattle.wv_base.specs.declared.note.Note.{Note}
use Rattle.wv_pool.specs.References.{IsPool}
use Rattle.wv_pool.specs.Allowed.{IsShort, IsClassText, IsAllowed}
use Rattle.wv_code.specs.FormedBody.{IsFormedBody}
use Rattle.wv_attr.specs.Writing.{AreWritable, AreWritableOf}
use Rattle.wv_class.specs.declared.raw_class.Place.{Place}
use Rattle.wv_class.specs.declared.raw_class.Place.TheVariants as places
use Rattle.wv_class.specs.declared.raw_class.Kind.TheVariants as kinds
use Rattle.wv_class.specs.Kinds.{kind_at}
use Rattle.wv_class.specs.Flags.{is_static, is_native, is_abstract, is_bodiless}
use Rattle.wv_class.specs.Breaks.{FitsField}
use Rattle.wv_class.specs.Tables.{tables_of}

-- ---- Attributes

-- an attribute that is kept: its name's number is one of the pool, or 0, and isn't known at its place
abbrev pub IsFormedKept : List PoolEntry → Place → Attribute → Type 0
IsFormedKept pool place a = (a.name ≤ length pool) × (kind_at pool place a.name ≡ kinds.Other) × (length a.content < 2 ^ 32)

abbrev pub AreFormedKept : List PoolEntry → Place → List Attribute → Type 0
AreFormedKept pool place kept = AllByRecursion (IsFormedKept pool place) kept

-- a table of annotations: parameters are those of methods, and a table has room for 255 lists
abbrev pub IsFormedTableOf : Place → Option ℕ → List Note → Type 0
IsFormedTableOf place None notes = AreWritable notes
IsFormedTableOf places.Method (Some parameter) notes = AreWritableOf 255 notes
IsFormedTableOf place (Some parameter) notes = ⊥

abbrev pub IsFormedTable : Place → List Note → Type 0
IsFormedTable place [] = Unit {0}
IsFormedTable place (note ∷ notes) = IsFormedTableOf place note.parameter (note ∷ notes)

abbrev pub AreFormedNotes : Place → List Note → Type 0
AreFormedNotes place notes = AllByRecursion (IsFormedTable place) (tables_of notes)

-- ---- Fields and methods

-- no two members have the same name and descriptor (4.5 and 4.6)
abbrev pub AreDistinct : List Member → Type 0
AreDistinct members = (j k : ℕ) (one other : Member) → j < k → slice_get members j ≡ Some one → slice_get members k ≡ Some other
    → one.name ≡ other.name → one.descriptor ≡ other.descriptor → ⊥

-- the value of a field with the descriptor
abbrev pub IsFormedValue : List ℕ → Option Const → Type 0
IsFormedValue descriptor None = Unit {0}
IsFormedValue descriptor (Some value) = FitsField descriptor value × IsAllowed value

pub record IsFormedField (pool : List PoolEntry) (m : Member) : Type 0 where
  pub name : IsTrue (is_unqualified m.name) × IsShort m.name
  pub descriptor : IsFieldDescriptor m.descriptor × IsShort m.descriptor
  pub no_body : m.body ≡ None
  pub value : IsFormedValue m.descriptor m.value
  pub no_throws : m.throws ≡ []
  pub notes : AreFormedNotes places.Field m.notes
  pub kept : AreFormedKept pool places.Field m.kept

-- a body exactly where the method is neither native nor abstract (4.7.3)
abbrev pub HasFormedBody : List PoolEntry → Bool → Option Body → Type 0
HasFormedBody pool bodiless None = bodiless ≡ true
HasFormedBody pool bodiless (Some body) = (bodiless ≡ false) × IsFormedBody pool body

-- a class initializer is static, without parameters and result, and has code
abbrev pub IsFormedInitializer : Member → Type 0
IsFormedInitializer m = m.name ≡ codes "<clinit>" → IsTrue (is_static m.flags.0) × (m.descriptor ≡ codes "()V") × (is_native m.flags.0 ≡ false) × (is_abstract m.flags.0 ≡ false)

-- the parameters, with `this`, take at most 255 words (4.3.3)
abbrev pub IsFormedWidth : Member → Type 0
IsFormedWidth m = (words : ℕ) → HasWords m.descriptor words → words + (if is_static m.flags.0 then 0 else 1) ≤ 255

pub record IsFormedMethod (pool : List PoolEntry) (m : Member) : Type 0 where
  pub name : IsTrue (is_method_name m.name) × IsShort m.name
  pub descriptor : IsMethodDescriptor m.descriptor × IsShort m.descriptor
  pub narrow : IsFormedWidth m
  pub initializer : IsFormedInitializer m
  pub body : HasFormedBody pool (is_bodiless m.flags.0) m.body
  pub no_value : m.value ≡ None
  pub throws : AllByRecursion IsClassText m.throws
  pub notes : AreFormedNotes places.Method m.notes
  pub kept : AreFormedKept pool places.Method m.kept

-- ---- Classes

-- the name of a class, which no array is
abbrev pub IsFormedClassName : List ℕ → Type 0
IsFormedClassName name = IsTrue (is_class_name name) × IsShort name

pub record IsFormedClass (c : ClassFile) : Type 0 where
  pub pool : IsPool c.pool
  pub name : IsFormedClassName c.name
  pub superclass : IsFormedClassName c.superclass
  pub interfaces : AllByRecursion IsFormedClassName c.interfaces
  pub fields : AllByRecursion (IsFormedField c.pool) c.fields
  pub distinct_fields : AreDistinct c.fields
  pub methods : AllByRecursion (IsFormedMethod c.pool) c.methods
  pub distinct_methods : AreDistinct c.methods
  pub notes : AreFormedNotes places.Class c.notes
  pub kept : AreFormedKept c.pool places.Class c.kept
