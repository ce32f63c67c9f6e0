-- How the parts of a class are written behind its pool (JVM Specification 4.1 and 4.5 to 4.7).
use Rattle.std.specs.Prelude.{◌≡◌, ℕ, ◌^◌, ◌<◌, Bool, List, [], ◌∷◌, ◌++◌, length, map, Option, Some, None, codes}
use Rattle.std.specs.List.{flat_map, AllByRecursion}
use Rattle.wv_base.specs.declared.class_file.PoolEntry.{PoolEntry}
use Rattle.wv_base.specs.declared.class_file.Attribute.{Attribute}
use Rattle.wv_base.specs.declared.class_file.Body.{Body}
use Rattle.wv_base.specs.declared.class_file.Member.{Member}
use Rattle.wv_base.specs.declared.class_file.ClassFile.{ClassFile}
use Rattle.wv_base.specs.declared.constant.Const.{Const}
use Rattle.wv_base.specs.declared.constant.Const.TheVariants as constants
use Rattle.wv_base.specs.declared.frame.Frame.{Frame}
use Rattle.wv_base.specs.declared.note.Note.{Note}
use Rattle.wv_pool.specs.Entries.{number_bytes}
use Rattle.wv_pool.specs.References.{text_of}
use Rattle.wv_pool.specs.Constants.{class_name, constant_of}
use Rattle.wv_pool.specs.Numbers.{Named}
use Rattle.wv_code.specs.Content.{named_bytes}
use Rattle.wv_code.specs.FormedBody.{IsFormedBody}
use Rattle.wv_code.specs.WritingBody.{HasRoom, HasBytes, written_bytes, WritesBody}
use Rattle.wv_attr.specs.Meanings.{AreRead, AreParametersRead}
use Rattle.wv_attr.specs.Writing.{AreWritable, AreWritableOf, as_members, as_parameters}
use Rattle.wv_class.specs.Tables.{tables_of, table_name}
use Rattle.wv_class.specs.Needs.{member_needs}
use Rattle.wv_class.specs.Limits.{member_attributes, class_attributes, HasLong}

-- bytes that are written so come behind the old ones
pub record Appends (Writes : List ℕ → Type 0) (old new : List ℕ) : Type 0 where
  pub bytes : List ℕ
  pub written : Writes bytes
  pub longer : new ≡ old ++ bytes

-- the bytes are those of the items, one behind the other
abbrev pub WritesEach : {X : Type 0} → (X → List ℕ → Type 0) → List X → List ℕ → Type 0
WritesEach Writes [] bytes = bytes ≡ []
WritesEach Writes (x ∷ xs) bytes = (front : List ℕ) × (back : List ℕ) × Writes x front × WritesEach Writes xs back × (bytes ≡ front ++ back)

-- ---- Numbers

abbrev pub WritesText : List PoolEntry → List ℕ → List ℕ → Type 0
WritesText pool text bytes = (n : ℕ) × (n < 2 ^ 16) × (text_of pool n ≡ Some text) × (bytes ≡ number_bytes n)

abbrev pub WritesClassName : List PoolEntry → List ℕ → List ℕ → Type 0
WritesClassName pool name bytes = (n : ℕ) × (n < 2 ^ 16) × (class_name pool n ≡ Some name) × (bytes ≡ number_bytes n)

abbrev pub WritesConstant : List PoolEntry → Const → List ℕ → Type 0
WritesConstant pool c bytes = (n : ℕ) × (n < 2 ^ 16) × (constant_of pool n ≡ Some c) × (bytes ≡ number_bytes n)

abbrev pub class_constants : List (List ℕ) → List Const
class_constants names = map (λ n. constants.Class n) names

-- classes with their count
pub record WritesClasses (pool : List PoolEntry) (names : List (List ℕ)) (bytes : List ℕ) : Type 0 where
  pub few : length names < 2 ^ 16
  pub numbers : List ℕ
  pub each : WritesEach (WritesClassName pool) names numbers
  pub spelled : bytes ≡ number_bytes (length names) ++ numbers

-- ---- Attributes

-- an attribute with this name and a content that is written so
pub record WritesNamed (pool : List PoolEntry) (name : List ℕ) (Writes : List ℕ → Type 0) (bytes : List ℕ) : Type 0 where
  pub number : ℕ
  pub small : number < 2 ^ 16
  pub named : text_of pool number ≡ Some name
  pub content : List ℕ
  pub short : length content < 2 ^ 32
  pub written : Writes content
  pub spelled : bytes ≡ named_bytes number content

abbrev pub WritesValue : List PoolEntry → Option Const → List ℕ → Type 0
WritesValue pool None bytes = bytes ≡ []
WritesValue pool (Some value) bytes = WritesNamed pool (codes "ConstantValue") (WritesConstant pool value) bytes

-- the same content means the body with each start frame
abbrev pub WritesCode : List PoolEntry → Option Body → List ℕ → Type 0
WritesCode pool None bytes = bytes ≡ []
WritesCode pool (Some body) bytes = WritesNamed pool (codes "Code") (λ content. (first : Frame) → WritesBody pool first body content) bytes

abbrev pub WritesExceptions : List PoolEntry → List (List ℕ) → List ℕ → Type 0
WritesExceptions pool [] bytes = bytes ≡ []
WritesExceptions pool (name ∷ names) bytes = WritesNamed pool (codes "Exceptions") (WritesClasses pool (name ∷ names)) bytes

-- a table of annotations, which is visible or not, and of parameters or not, as its first one is
abbrev pub WritesNotes : List PoolEntry → Bool → Option ℕ → List Note → List ℕ → Type 0
WritesNotes pool visible None notes content = AreRead pool visible content (as_members visible notes)
WritesNotes pool visible (Some place) notes content =
    AreParametersRead pool visible content (as_parameters visible notes) × ((count : ℕ) × (rest : List ℕ) × (count < 256) × (content ≡ count ∷ rest))

abbrev pub WritesTable : List PoolEntry → List Note → List ℕ → Type 0
WritesTable pool [] bytes = ⊥
WritesTable pool (note ∷ notes) bytes = WritesNamed pool (table_name note) (WritesNotes pool note.visible note.parameter (note ∷ notes)) bytes

-- an attribute has bytes, and its name a number of two
abbrev pub IsNumbered : Attribute → Type 0
IsNumbered a = (a.name < 2 ^ 16) × HasBytes a

abbrev pub WritesTables : List PoolEntry → List Note → List ℕ → Type 0
WritesTables pool notes bytes = WritesEach (WritesTable pool) (tables_of notes) bytes

-- the annotations, and behind them the attributes that are kept
pub record WritesOthers (pool : List PoolEntry) (notes : List Note) (kept : List Attribute) (bytes : List ℕ) : Type 0 where
  pub tables : List ℕ
  pub tables_are : WritesTables pool notes tables
  pub kept_are : AllByRecursion IsNumbered kept
  pub spelled : bytes ≡ tables ++ flat_map written_bytes kept

-- ---- Fields, methods and the class

pub record WritesMember (pool : List PoolEntry) (m : Member) (bytes : List ℕ) : Type 0 where
  pub flags : m.flags.0 < 2 ^ 16
  pub few : member_attributes m < 2 ^ 16
  pub name : List ℕ
  pub name_is : WritesText pool m.name name
  pub descriptor : List ℕ
  pub descriptor_is : WritesText pool m.descriptor descriptor
  pub value : List ℕ
  pub value_is : WritesValue pool m.value value
  pub code : List ℕ
  pub code_is : WritesCode pool m.body code
  pub exceptions : List ℕ
  pub exceptions_are : WritesExceptions pool m.throws exceptions
  pub others : List ℕ
  pub others_are : WritesOthers pool m.notes m.kept others
  pub spelled : bytes ≡ number_bytes m.flags.0 ++ (name ++ (descriptor ++ (number_bytes (member_attributes m) ++ (value ++ (code ++ (exceptions ++ others))))))

-- members with their count
pub record WritesMembers (pool : List PoolEntry) (members : List Member) (bytes : List ℕ) : Type 0 where
  pub few : length members < 2 ^ 16
  pub items : List ℕ
  pub each : WritesEach (WritesMember pool) members items
  pub spelled : bytes ≡ number_bytes (length members) ++ items

pub record WritesParts (pool : List PoolEntry) (c : ClassFile) (bytes : List ℕ) : Type 0 where
  pub flags : c.flags.0 < 2 ^ 16
  pub few : class_attributes c < 2 ^ 16
  pub name : List ℕ
  pub name_is : WritesClassName pool c.name name
  pub superclass : List ℕ
  pub superclass_is : WritesClassName pool c.superclass superclass
  pub interfaces : List ℕ
  pub interfaces_are : WritesClasses pool c.interfaces interfaces
  pub fields : List ℕ
  pub fields_are : WritesMembers pool c.fields fields
  pub methods : List ℕ
  pub methods_are : WritesMembers pool c.methods methods
  pub others : List ℕ
  pub others_are : WritesOthers pool c.notes c.kept others
  pub spelled : bytes ≡ number_bytes c.flags.0 ++ (name ++ (superclass ++ (interfaces ++ (fields ++ (methods ++ (number_bytes (class_attributes c) ++ others))))))

-- ---- What can be written

-- a table of annotations, wherever it stands
abbrev pub IsWritableOf : Option ℕ → List Note → Type 0
IsWritableOf None notes = AreWritable notes
IsWritableOf (Some place) notes = AreWritableOf 255 notes

abbrev pub IsWritableTable : List Note → Type 0
IsWritableTable [] = ⊥
IsWritableTable (note ∷ notes) = IsWritableOf note.parameter (note ∷ notes)

abbrev pub AreWritableTables : List Note → Type 0
AreWritableTables notes = AllByRecursion IsWritableTable (tables_of notes)

abbrev pub IsWritableBody : List PoolEntry → Option Body → Type 0
IsWritableBody pool None = Unit {0}
IsWritableBody pool (Some body) = IsFormedBody pool body

-- a member whose constants the pool has
pub record IsWritableMember (pool : List PoolEntry) (m : Member) : Type 0 where
  pub body : IsWritableBody pool m.body
  pub notes : AreWritableTables m.notes
  pub kept : AllByRecursion HasRoom m.kept
  pub few : HasLong m → ⊥
  pub named : AllByRecursion (Named pool) (member_needs m)
