-- What is written of a class, as it is read again (JVM Specification 4.5 to 4.7).
use Rattle.std.specs.Prelude.{◌≡◌, ℕ, ◌+◌, List, [], length, Option, Some, if◌then◌else◌}
use Rattle.std.specs.List.{AllByRecursion, flat_map, sum_by}
use Rattle.wv_base.specs.declared.class_file.PoolEntry.{PoolEntry}
use Rattle.wv_base.specs.declared.class_file.Attribute.{Attribute}
use Rattle.wv_base.specs.declared.class_file.Body.{Body}
use Rattle.wv_base.specs.declared.class_file.Member.{Member}
use Rattle.wv_base.specs.declared.note.Note.{Note}
use Rattle.wv_pool.specs.References.{text_of}
use Rattle.wv_class.specs.declared.raw_class.Place.{Place}
use Rattle.wv_class.specs.declared.raw_class.RawAttribute.{RawAttribute}
use Rattle.wv_class.specs.declared.raw_class.RawMember.{RawMember}
use Rattle.wv_class.specs.Breaks.{AttributesBreak, PartsBreak, is_code}
use Rattle.wv_class.specs.Layout.{SpellsAll, SpellsAttribute, SpellsMember}
use Rattle.wv_class.specs.Limits.{member_attributes, one_if}
use Rattle.wv_class.specs.Meaning.{AreClasses, AreNotesOf, IsBodyIn, IsMemberOf, IsValueIn, codes_in, exceptions_in, kept_in, values_in}
use Rattle.wv_class.specs.Same.{IsSameBodyIn, IsSameMember}
use Rattle.wv_class.specs.Tables.{tables_of}

-- the attributes are spelled by the bytes, however near their end is
abbrev pub AreSpelled : List PoolEntry → Place → List RawAttribute → List ℕ → Type 0
AreSpelled pool place all bytes = (near : ℕ) → SpellsAll (SpellsAttribute pool place) near all bytes

-- the attributes of annotations and those that are kept
pub record AreOthers (pool : List PoolEntry) (place : Place) (notes : List Note) (kept : List Attribute) (bytes : List ℕ) : Type 0 where
  pub all : List RawAttribute
  pub count : length all ≡ length (tables_of notes) + length kept
  pub spelled : AreSpelled pool place all bytes
  pub sound : AllByRecursion (λ (a : RawAttribute). (at : ℕ) → PartsBreak pool a.content at → ⊥) all
  pub no_codes : codes_in all ≡ []
  pub no_values : values_in all ≡ []
  pub no_exceptions : exceptions_in all ≡ []
  pub notes_are : AreNotesOf pool all notes
  pub kept_are : kept ≡ flat_map (kept_in pool) all

-- the numbers and the flags of a field or a method
pub record IsHeadOf (pool : List PoolEntry) (m : Member) (raw : RawMember) : Type 0 where
  pub flags : raw.flags ≡ m.flags.0
  pub name : text_of pool raw.name ≡ Some m.name
  pub descriptor : text_of pool raw.descriptor ≡ Some m.descriptor

-- how many of the attributes are Code
abbrev pub count_codes : List RawAttribute → ℕ
count_codes all = sum_by (λ (a : RawAttribute). if is_code a.content then 1 else 0) all

-- the attributes of a field or a method of the class with this number
pub record AreAttributes (pool : List PoolEntry) (place : Place) (class : ℕ) (m : Member) (bytes : List ℕ) : Type 0 where
  pub all : List RawAttribute
  pub count : length all ≡ member_attributes m
  pub spelled : AreSpelled pool place all bytes
  pub sound : (raw : RawMember) (at : ℕ) → IsHeadOf pool m raw → AttributesBreak pool class raw all 8 at → ⊥
  pub body : Option Body
  pub same : IsSameBodyIn pool m.body body
  pub body_is : (raw : RawMember) → IsHeadOf pool m raw → IsBodyIn pool class raw (codes_in all) body
  pub codes : count_codes all ≡ one_if m.body
  pub value : IsValueIn pool (values_in all) m.value
  pub throws : AreClasses pool (exceptions_in all) m.throws
  pub notes : AreNotesOf pool all m.notes
  pub kept : m.kept ≡ flat_map (kept_in pool) all

-- a field or a method of the class with this number, with ldc_w in place of some ldc
pub record IsAgainMember (pool : List PoolEntry) (place : Place) (class : ℕ) (m : Member) (bytes : List ℕ) : Type 0 where
  pub raw : RawMember
  pub head : IsHeadOf pool m raw
  pub spelled : (near : ℕ) → SpellsMember pool place near raw bytes
  pub sound : (at : ℕ) → AttributesBreak pool class raw raw.attributes 8 at → ⊥
  pub codes : count_codes raw.attributes ≡ one_if m.body
  pub other : Member
  pub same : IsSameMember pool m other
  pub means : IsMemberOf pool class raw other
