-- The items of a class file that break what they must meet (JVM Specification 4), by their places in it.
use Rattle.std.specs.Prelude.{◌≡◌, ℕ, ◌+◌, ◌*◌, ◌<◌, ◌≤◌, Bool, true, false, if◌then◌else◌, IsTrue, codes, List, [], ◌∷◌, length, take, slice_get, Option, Some, ◌⊎◌}
use Rattle.std.specs.List.{sum_by}
use Rattle.wv_base.specs.Names.{is_unqualified, is_method_name, is_class_name}
use Rattle.wv_base.specs.Descriptor.{IsFieldDescriptor, IsMethodDescriptor, HasWords}
use Rattle.wv_base.specs.declared.class_file.PoolEntry.{PoolEntry}
use Rattle.wv_base.specs.declared.constant.Const.{Const}
use Rattle.wv_base.specs.declared.constant.Const.TheVariants as constants
use Rattle.wv_base.specs.declared.frame.Frame.{Frame}
use Rattle.wv_base.specs.declared.descriptor.MethodType.{MethodType}
use Rattle.wv_desc.specs.TypeOf.{IsMethodTypeOf}
use Rattle.wv_pool.specs.Entries.{pool_bytes}
use Rattle.wv_pool.specs.References.{text_of, IsText}
use Rattle.wv_pool.specs.References.{FirstBreaks as FirstPoolBreak}
use Rattle.wv_pool.specs.Constants.{class_name, constant_of}
use Rattle.wv_code.specs.declared.raw_body.RawBody.{RawBody}
use Rattle.wv_code.specs.Breaks.{NamesClass, attribute_place}
use Rattle.wv_code.specs.Breaks.{FirstBreak as FirstCodeBreak}
use Rattle.wv_code.specs.Least.{IsLeastOf, Broken, Behind, InItems}
use Rattle.wv_attr.specs.declared.mark.Mark.{Mark}
use Rattle.wv_attr.specs.Marks.{table_bytes}
use Rattle.wv_attr.specs.References.{FirstBreaks as FirstPartBreak}
use Rattle.wv_class.specs.declared.raw_class.Content.{Content}
use Rattle.wv_class.specs.declared.raw_class.Content.TheVariants as contents
use Rattle.wv_class.specs.declared.raw_class.RawAttribute.{RawAttribute}
use Rattle.wv_class.specs.declared.raw_class.RawMember.{RawMember}
use Rattle.wv_class.specs.declared.raw_class.RawRest.{RawRest}
use Rattle.wv_class.specs.declared.raw_class.RawClass.{RawClass}
use Rattle.wv_class.specs.Flags.{is_static, is_native, is_abstract, is_bodiless}
use Rattle.wv_class.specs.StartFrame.{start_frame}

-- ---- Sizes

-- how many bytes a content takes
abbrev pub content_len : Content → ℕ
content_len (contents.Code raw) = attribute_place raw (length raw.attributes)
content_len (contents.ConstantValue number) = 2
content_len (contents.Exceptions numbers) = 2 + 2 * length numbers
content_len (contents.Annotations visible parts) = length (table_bytes parts)
content_len (contents.ParameterAnnotations visible parts) = 1 + length (table_bytes parts)
content_len (contents.Other content) = length content

abbrev pub attribute_len : RawAttribute → ℕ
attribute_len a = 6 + content_len a.content

abbrev pub member_len : RawMember → ℕ
member_len m = 8 + sum_by attribute_len m.attributes

-- the places of a list's items, the first of which stands at the base: how far each is from there says `len`
abbrev pub InList : {X : Type 0} → (X → ℕ) → ℕ → List X → (ℕ → X → ℕ → Type 0) → ℕ → Type 0
InList len base xs P = InItems xs (λ k x. Behind (base + sum_by len (take k xs)) (P k x))

-- the places of numbers
abbrev pub InNumbers : ℕ → List ℕ → (ℕ → Type 0) → ℕ → Type 0
InNumbers base numbers Asked = InList (λ _. 2) base numbers (λ k number. Broken (Asked number) 0)

-- ---- Attributes

-- the class names this, which no array is (4.1)
abbrev pub NamesPlainClass : List PoolEntry → ℕ → Type 0
NamesPlainClass pool number = (name : List ℕ) × (class_name pool number ≡ Some name) × IsTrue (is_class_name name)

-- the constant can be the value of a field with the descriptor (4.7.2, table 4.7.2-A)
pub data FitsField : List ℕ → Const → Type 0 where
  boolean : {value : _} → FitsField (codes "Z") (constants.Integer value)
  byte : {value : _} → FitsField (codes "B") (constants.Integer value)
  char : {value : _} → FitsField (codes "C") (constants.Integer value)
  short : {value : _} → FitsField (codes "S") (constants.Integer value)
  int : {value : _} → FitsField (codes "I") (constants.Integer value)
  float : {bits : ℕ} → FitsField (codes "F") (constants.Float bits)
  long : {value : _} → FitsField (codes "J") (constants.Long value)
  double : {bits : ℕ} → FitsField (codes "D") (constants.Double bits)
  string : {text : List ℕ} → FitsField (codes "Ljava/lang/String;") (constants.String text)

-- the number names the value of a field
pub record IsValueOf (pool : List PoolEntry) (m : RawMember) (number : ℕ) : Type 0 where
  pub descriptor : List ℕ
  pub descriptor_is : text_of pool m.descriptor ≡ Some descriptor
  pub value : Const
  pub value_is : constant_of pool number ≡ Some value
  pub fits : FitsField descriptor value

-- the frame with which the method of the class with this number starts
pub record StartsWith (pool : List PoolEntry) (class : ℕ) (m : RawMember) (frame : Frame) : Type 0 where
  pub owner : List ℕ
  pub owner_is : class_name pool class ≡ Some owner
  pub name : List ℕ
  pub name_is : text_of pool m.name ≡ Some name
  pub descriptor : List ℕ
  pub descriptor_is : text_of pool m.descriptor ≡ Some descriptor
  pub type : MethodType
  pub type_is : IsMethodTypeOf descriptor type
  pub frame_is : frame ≡ start_frame (is_static m.flags) owner name type

-- the places of a table of annotations
abbrev pub PartsBreak : List PoolEntry → Content → ℕ → Type 0
PartsBreak pool (contents.Annotations visible parts) at = FirstPartBreak pool parts at
PartsBreak pool (contents.ParameterAnnotations visible parts) at = Behind 1 (FirstPartBreak pool parts) at
PartsBreak pool _ at = ⊥

-- the places of the content of an attribute of a member of the class with this number
abbrev pub ContentBreaks : List PoolEntry → ℕ → RawMember → Content → ℕ → Type 0
ContentBreaks pool class m (contents.Code raw) at = (frame : Frame) × StartsWith pool class m frame × FirstCodeBreak pool frame raw at
ContentBreaks pool class m (contents.ConstantValue number) at = Broken (IsValueOf pool m number) 0 at
ContentBreaks pool class m (contents.Exceptions numbers) at = InNumbers 2 numbers (NamesClass pool) at
ContentBreaks pool class m content at = PartsBreak pool content at

abbrev pub is_value : Content → Bool
is_value (contents.ConstantValue number) = true
is_value _ = false

abbrev pub is_code : Content → Bool
is_code (contents.Code raw) = true
is_code _ = false

-- one of the attributes is such
abbrev pub Has : (Content → Bool) → List RawAttribute → Type 0
Has test all = (k : ℕ) × (a : RawAttribute) × (slice_get all k ≡ Some a) × IsTrue (test a.content)

-- the places of an attribute, behind those before it: a second ConstantValue breaks it as a whole (4.7.2)
abbrev pub AttributeBreaks : List PoolEntry → ℕ → RawMember → List RawAttribute → RawAttribute → ℕ → Type 0
AttributeBreaks pool class m before a at = ((at ≡ 0) × IsTrue (is_value a.content) × Has is_value before) ⊎ Behind 6 (ContentBreaks pool class m a.content) at

abbrev pub AttributesBreak : List PoolEntry → ℕ → RawMember → List RawAttribute → ℕ → ℕ → Type 0
AttributesBreak pool class m all base = InList attribute_len base all (λ k a. AttributeBreaks pool class m (take k all) a)

-- ---- Fields and methods

-- the texts that name a member
pub record IsNamed (pool : List PoolEntry) (m : RawMember) (name descriptor : List ℕ) : Type 0 where
  pub name_is : text_of pool m.name ≡ Some name
  pub descriptor_is : text_of pool m.descriptor ≡ Some descriptor

-- one of those before has the same name and descriptor (4.5 and 4.6)
pub record IsAgain (pool : List PoolEntry) (before : List RawMember) (m : RawMember) : Type 0 where
  pub place : ℕ
  pub first : RawMember
  pub first_is : slice_get before place ≡ Some first
  pub name : List ℕ
  pub descriptor : List ℕ
  pub same : IsNamed pool first name descriptor × IsNamed pool m name descriptor

-- the places of a field
pub data FieldBreaks (pool : List PoolEntry) (class : ℕ) (before : List RawMember) (m : RawMember) : ℕ → Type 0 where
  again : IsAgain pool before m → FieldBreaks pool class before m 0
  name : (IsText pool m.name (λ text. IsTrue (is_unqualified text)) → ⊥) → FieldBreaks pool class before m 2
  descriptor : (IsText pool m.descriptor IsFieldDescriptor → ⊥) → FieldBreaks pool class before m 4
  attributes : {at : ℕ} → AttributesBreak pool class m m.attributes 8 at → FieldBreaks pool class before m at

-- a class initializer is static, without parameters and result, and has code (2.9; our own for every version)
abbrev pub IsInitializer : List PoolEntry → RawMember → Type 0
IsInitializer pool m =
    text_of pool m.name ≡ Some (codes "<clinit>")
    → IsTrue (is_static m.flags) × (text_of pool m.descriptor ≡ Some (codes "()V")) × (is_native m.flags ≡ false) × (is_abstract m.flags ≡ false)

-- exactly one Code, and none in a native or abstract method (4.7.3)
abbrev pub HasItsCode : RawMember → Type 0
HasItsCode m = sum_by (λ (a : RawAttribute). if is_code a.content then 1 else 0) m.attributes ≡ (if is_bodiless m.flags then 0 else 1)

-- the parameters, with `this`, take at most 255 words (4.3.3)
abbrev pub IsNarrow : List PoolEntry → RawMember → Type 0
IsNarrow pool m = (words : ℕ) → IsText pool m.descriptor (λ text. HasWords text words) → words + (if is_static m.flags then 0 else 1) ≤ 255

-- the places of a method
pub data MethodBreaks (pool : List PoolEntry) (class : ℕ) (before : List RawMember) (m : RawMember) : ℕ → Type 0 where
  again : IsAgain pool before m → MethodBreaks pool class before m 0
  initializer : (IsInitializer pool m → ⊥) → MethodBreaks pool class before m 0
  code : (HasItsCode m → ⊥) → MethodBreaks pool class before m 0
  wide : (IsNarrow pool m → ⊥) → MethodBreaks pool class before m 0
  name : (IsText pool m.name (λ text. IsTrue (is_method_name text)) → ⊥) → MethodBreaks pool class before m 2
  descriptor : (IsText pool m.descriptor IsMethodDescriptor → ⊥) → MethodBreaks pool class before m 4
  attributes : {at : ℕ} → AttributesBreak pool class m m.attributes 8 at → MethodBreaks pool class before m at

-- ---- The class

-- where the fields, the methods and the attributes begin, behind their counts, from the flags of the class on
abbrev pub fields_place : RawRest → ℕ
fields_place c = 10 + 2 * length c.interfaces

abbrev pub methods_place : RawRest → ℕ
methods_place c = fields_place c + sum_by member_len c.fields + 2

abbrev pub attributes_place : RawRest → ℕ
attributes_place c = methods_place c + sum_by member_len c.methods + 2

-- the places of what stands behind the pool, from the flags of the class on
pub data RestBreaks (pool : List PoolEntry) (c : RawRest) : ℕ → Type 0 where
  class : (NamesPlainClass pool c.class → ⊥) → RestBreaks pool c 2
  superclass : (NamesPlainClass pool c.superclass → ⊥) → RestBreaks pool c 4
  interface : {at : ℕ} → InNumbers 8 c.interfaces (NamesPlainClass pool) at → RestBreaks pool c at
  field : {at : ℕ} → InList member_len (fields_place c) c.fields (λ k m. FieldBreaks pool c.class (take k c.fields) m) at → RestBreaks pool c at
  method : {at : ℕ} → InList member_len (methods_place c) c.methods (λ k m. MethodBreaks pool c.class (take k c.methods) m) at → RestBreaks pool c at
  attribute : {at : ℕ} → InList attribute_len (attributes_place c) c.attributes (λ k a. Behind 6 (PartsBreak pool a.content)) at → RestBreaks pool c at

-- the places of a class file: the magic number and the version, eight bytes, stand before the pool
pub data Breaks (c : RawClass) : ℕ → Type 0 where
  pool : {at : ℕ} → FirstPoolBreak c.pool at → Breaks c (8 + at)
  rest : {at : ℕ} → RestBreaks c.pool c.rest at → Breaks c (8 + length (pool_bytes c.pool) + at)

-- the first item that breaks what it must meet
abbrev pub FirstBreak : RawClass → ℕ → Type 0
FirstBreak c at = IsLeastOf (Breaks c) (Some at)

-- each item meets what it must
abbrev pub IsSound : RawClass → Type 0
IsSound c = (at : ℕ) → Breaks c at → ⊥
