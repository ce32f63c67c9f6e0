-- What is known of attributes and of members that were read, and in which each item meets what it must (JVM Specification
-- 4.5 to 4.7).
use Rattle.std.specs.Prelude.{◌≡◌, ℕ, ◌≤◌, List, [], ◌∷◌, length, Option, Some, None}
use Rattle.std.specs.List.{AllByRecursion}
use Rattle.wv_base.specs.declared.class_file.PoolEntry.{PoolEntry}
use Rattle.wv_base.specs.declared.class_file.Body.{Body}
use Rattle.wv_base.specs.declared.constant.Const.{Const}
use Rattle.wv_base.specs.declared.frame.Frame.{Frame}
use Rattle.wv_pool.specs.References.{text_of}
use Rattle.wv_pool.specs.Constants.{constant_of}
use Rattle.wv_code.specs.declared.raw_body.RawBody.{RawBody}
use Rattle.wv_code.specs.Content.{IsContent}
use Rattle.wv_code.specs.Breaks.{NamesClass}
use Rattle.wv_code.specs.Breaks.{IsSound as IsSoundCode}
use Rattle.wv_code.specs.Body.{IsBodyOf, IsStart}
use Rattle.wv_attr.specs.declared.mark.Mark.{Mark}
use Rattle.wv_attr.specs.Groups.{Follows}
use Rattle.wv_attr.specs.Layout.{lists}
use Rattle.wv_attr.specs.References.{IsSound}
use Rattle.wv_class.specs.declared.raw_class.Content.{Content}
use Rattle.wv_class.specs.declared.raw_class.Content.TheVariants as contents
use Rattle.wv_class.specs.declared.raw_class.RawAttribute.{RawAttribute}
use Rattle.wv_class.specs.declared.raw_class.RawMember.{RawMember}
use Rattle.wv_class.specs.Breaks.{StartsWith}
use Rattle.wv_class.specs.Meaning.{codes_in, values_in, exceptions_in}

-- ---- Annotations

-- one list of annotations, and a list for each parameter, whose numbers name what they must
abbrev pub IsReadList : List PoolEntry → List Mark → Type 0
IsReadList pool parts = ((near : ℕ) × Follows near (lists 1) parts) × AllByRecursion (IsSound pool) parts

abbrev pub AreReadLists : List PoolEntry → List Mark → Type 0
AreReadLists pool parts = ((near : ℕ) × (count : ℕ) × (count ≤ 255) × Follows near (lists count) parts) × AllByRecursion (IsSound pool) parts

abbrev pub HasReadNotes : List PoolEntry → Content → Type 0
HasReadNotes pool (contents.Annotations visible parts) = IsReadList pool parts
HasReadNotes pool (contents.ParameterAnnotations visible parts) = AreReadLists pool parts
HasReadNotes pool _ = Unit {0}

abbrev pub HaveReadNotes : List PoolEntry → List RawAttribute → Type 0
HaveReadNotes pool all = AllByRecursion (λ (a : RawAttribute). HasReadNotes pool a.content) all

-- ---- Code

-- the code, if there is some, has a start frame, which has no offsets, and each of its items meets what it must
abbrev pub IsReadCode : List PoolEntry → Option Frame → Option RawBody → Type 0
IsReadCode pool first None = Unit {0}
IsReadCode pool None (Some raw) = ⊥
IsReadCode pool (Some first) (Some raw) = ((bytes : List ℕ) × IsContent pool raw bytes) × IsSoundCode pool first raw × IsStart first

-- the body that it means
abbrev pub IsBodyOfCode : List PoolEntry → Option Frame → Option RawBody → Option Body → Type 0
IsBodyOfCode pool first None body = body ≡ None
IsBodyOfCode pool (Some first) (Some raw) (Some body) = IsBodyOf pool first raw body
IsBodyOfCode pool _ (Some raw) _ = ⊥

abbrev pub in_list : {X : Type 0} → Option X → List X
in_list None = []
in_list (Some x) = x ∷ []

-- ---- Members

abbrev pub NamesText : List PoolEntry → ℕ → Type 0
NamesText pool number = (text : List ℕ) × (text_of pool number ≡ Some text)

abbrev pub NamesConstant : List PoolEntry → ℕ → Type 0
NamesConstant pool number = (value : Const) × (constant_of pool number ≡ Some value)

-- the code of a method of the class with this number, which has a start frame
pub record HasReadCode (pool : List PoolEntry) (class : ℕ) (m : RawMember) (raw : RawBody) : Type 0 where
  pub content : (bytes : List ℕ) × IsContent pool raw bytes
  pub sound : (frame : Frame) → StartsWith pool class m frame → IsSoundCode pool frame raw
  pub starts : ((frame : Frame) → StartsWith pool class m frame → ⊥) → ⊥

-- a field or a method of the class with this number
pub record IsRead (pool : List PoolEntry) (class : ℕ) (m : RawMember) : Type 0 where
  pub name : NamesText pool m.name
  pub descriptor : NamesText pool m.descriptor
  pub one_code : length (codes_in m.attributes) ≤ 1
  pub codes : AllByRecursion (HasReadCode pool class m) (codes_in m.attributes)
  pub one_value : length (values_in m.attributes) ≤ 1
  pub values : AllByRecursion (NamesConstant pool) (values_in m.attributes)
  pub throws : AllByRecursion (NamesClass pool) (exceptions_in m.attributes)
  pub notes : HaveReadNotes pool m.attributes
