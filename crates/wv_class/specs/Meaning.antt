-- The class that a class file means (JVM Specification 4): names in place of pool numbers, bodies with indices in place of
-- offsets, and annotations of all tables in one list.
use Rattle.std.specs.Prelude.{◌≡◌, ℕ, List, [], ◌∷◌, ◌++◌, Option, Some, None, Result, Ok, Err}
use Rattle.std.specs.List.{AllZip, flat_map}
use Rattle.wv_base.specs.declared.class_file.PoolEntry.{PoolEntry}
use Rattle.wv_base.specs.declared.class_file.Attribute.{Attribute}
use Rattle.wv_base.specs.declared.class_file.Body.{Body}
use Rattle.wv_base.specs.declared.class_file.Member.{Member}
use Rattle.wv_base.specs.declared.class_file.ClassFile.{ClassFile}
use Rattle.wv_base.specs.declared.constant.Const.{Const}
use Rattle.wv_base.specs.declared.fault.ClassFault.{ClassFault}
use Rattle.wv_base.specs.declared.fault.ClassFault.TheVariants as faults
use Rattle.wv_base.specs.declared.frame.Frame.{Frame}
use Rattle.wv_base.specs.declared.note.Note.{Note}
use Rattle.wv_pool.specs.References.{text_of}
use Rattle.wv_pool.specs.Constants.{class_name, constant_of}
use Rattle.wv_code.specs.declared.raw_body.RawBody.{RawBody}
use Rattle.wv_code.specs.Body.{IsBodyOf, kept_name}
use Rattle.wv_attr.specs.Meanings.{IsNoteList, AreListed}
use Rattle.wv_class.specs.declared.raw_class.Content.{Content}
use Rattle.wv_class.specs.declared.raw_class.Content.TheVariants as contents
use Rattle.wv_class.specs.declared.raw_class.RawAttribute.{RawAttribute}
use Rattle.wv_class.specs.declared.raw_class.RawMember.{RawMember}
use Rattle.wv_class.specs.declared.raw_class.RawClass.{RawClass}
use Rattle.wv_class.specs.Layout.{IsClass, IsLayoutFault}
use Rattle.wv_class.specs.Breaks.{StartsWith, FirstBreak, IsSound}

-- ---- Attributes

-- the bodies, the values and the declared exceptions among attributes, and those that are kept
abbrev pub content_codes : Content → List RawBody
content_codes (contents.Code raw) = raw ∷ []
content_codes _ = []

abbrev pub content_values : Content → List ℕ
content_values (contents.ConstantValue number) = number ∷ []
content_values _ = []

abbrev pub content_exceptions : Content → List ℕ
content_exceptions (contents.Exceptions numbers) = numbers
content_exceptions _ = []

abbrev pub content_kept : ℕ → Content → List Attribute
content_kept name (contents.Other bytes) = record { name = name; content = bytes } ∷ []
content_kept name _ = []

-- the number of a name that is behind the pool's last is kept as 0, which names nothing either
abbrev pub kept_in : List PoolEntry → RawAttribute → List Attribute
kept_in pool a = content_kept (kept_name pool a.name) a.content

abbrev pub codes_in : List RawAttribute → List RawBody
codes_in all = flat_map (λ (a : RawAttribute). content_codes a.content) all

abbrev pub values_in : List RawAttribute → List ℕ
values_in all = flat_map (λ (a : RawAttribute). content_values a.content) all

abbrev pub exceptions_in : List RawAttribute → List ℕ
exceptions_in all = flat_map (λ (a : RawAttribute). content_exceptions a.content) all

-- the annotations of an attribute
abbrev pub IsNotesOf : List PoolEntry → Content → List Note → Type 0
IsNotesOf pool (contents.Annotations visible parts) notes = IsNoteList pool visible notes parts
IsNotesOf pool (contents.ParameterAnnotations visible parts) notes = AreListed pool visible 0 notes parts
IsNotesOf pool _ notes = notes ≡ []

-- and of attributes, those of the first before those of the others
pub data AreNotesOf (pool : List PoolEntry) : List RawAttribute → List Note → Type 0 where
  none : AreNotesOf pool [] []
  next : {a : RawAttribute} {all : List RawAttribute} (notes others : List Note) → IsNotesOf pool a.content notes → AreNotesOf pool all others → AreNotesOf pool (a ∷ all) (notes ++ others)

-- ---- Fields and methods

-- the body in the one Code, which is read with the method's start frame
abbrev pub IsBodyIn : List PoolEntry → ℕ → RawMember → List RawBody → Option Body → Type 0
IsBodyIn pool class m [] None = Unit {0}
IsBodyIn pool class m (raw ∷ []) (Some body) = (frame : Frame) × StartsWith pool class m frame × IsBodyOf pool frame raw body
IsBodyIn pool class m _ _ = ⊥

abbrev pub IsValueIn : List PoolEntry → List ℕ → Option Const → Type 0
IsValueIn pool [] None = Unit {0}
IsValueIn pool (number ∷ []) (Some value) = constant_of pool number ≡ Some value
IsValueIn pool _ _ = ⊥

abbrev pub AreClasses : List PoolEntry → List ℕ → List (List ℕ) → Type 0
AreClasses pool numbers names = AllZip (λ number name. class_name pool number ≡ Some name) numbers names

-- the member that these mean in the class with this number
pub record IsMemberOf (pool : List PoolEntry) (class : ℕ) (raw : RawMember) (m : Member) : Type 0 where
  pub flags : m.flags.0 ≡ raw.flags
  pub name : text_of pool raw.name ≡ Some m.name
  pub descriptor : text_of pool raw.descriptor ≡ Some m.descriptor
  pub body : IsBodyIn pool class raw (codes_in raw.attributes) m.body
  pub value : IsValueIn pool (values_in raw.attributes) m.value
  pub throws : AreClasses pool (exceptions_in raw.attributes) m.throws
  pub notes : AreNotesOf pool raw.attributes m.notes
  pub kept : m.kept ≡ flat_map (kept_in pool) raw.attributes

abbrev pub AreMembersOf : List PoolEntry → ℕ → List RawMember → List Member → Type 0
AreMembersOf pool class raws members = AllZip (IsMemberOf pool class) raws members

-- ---- Classes

-- the class that these mean
pub record IsClassOf (raw : RawClass) (c : ClassFile) : Type 0 where
  pub version : c.version ≡ raw.version
  pub flags : c.flags.0 ≡ raw.rest.flags
  pub name : class_name raw.pool raw.rest.class ≡ Some c.name
  pub superclass : class_name raw.pool raw.rest.superclass ≡ Some c.superclass
  pub interfaces : AreClasses raw.pool raw.rest.interfaces c.interfaces
  pub fields : AreMembersOf raw.pool raw.rest.class raw.rest.fields c.fields
  pub methods : AreMembersOf raw.pool raw.rest.class raw.rest.methods c.methods
  pub notes : AreNotesOf raw.pool raw.rest.attributes c.notes
  pub pool : c.pool ≡ raw.pool
  pub kept : c.kept ≡ flat_map (kept_in raw.pool) raw.rest.attributes

-- the bytes are a class file in which each item meets what it must, and mean this class
pub record Spells (bytes : List ℕ) (c : ClassFile) : Type 0 where
  pub raw : RawClass
  pub layout : IsClass raw bytes
  pub sound : IsSound raw
  pub means : IsClassOf raw c

-- the answer is this class, unless memory ran out
abbrev pub GivesClass : Result ClassFile ClassFault → ClassFile → Type 0
GivesClass (Ok found) c = found ≡ c
GivesClass (Err e) c = e ≡ faults.Memory

-- the bytes are a class file that breaks what it must meet first at the place
pub record IsReferenceFault (bytes : List ℕ) (at : ℕ) : Type 0 where
  pub raw : RawClass
  pub layout : IsClass raw bytes
  pub breaks : FirstBreak raw at

-- the cause of a fault: one of the layout comes before every other
abbrev pub ClassBreaks : List ℕ → ClassFault → Type 0
ClassBreaks bytes (faults.Layout at) = IsLayoutFault bytes at
ClassBreaks bytes (faults.Reference at) = IsReferenceFault bytes at
ClassBreaks bytes faults.Memory = Unit {0}
