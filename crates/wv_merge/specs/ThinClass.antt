-- Thin classes: what a class of the game and a mixin are in the form that is built (JVM Specification 4, Mixin 0.8.5; the
-- form is our own).
use Rattle.std.specs.Prelude.{◌≡◌, ◌≢◌, ℕ, ℤ, ◌≤◌, List, [], ◌∷◌, ◌++◌, length, codes, None}
use Rattle.std.specs.List.{AllByRecursion}
use Rattle.wv_base.specs.declared.class_file.ClassFile.{ClassFile}
use Rattle.wv_base.specs.declared.class_file.Member.{Member}
use Rattle.wv_base.specs.declared.constant.Const.TheVariants.{Integer}
use Rattle.wv_base.specs.declared.note.Annotation.{out-Annotation}
use Rattle.wv_base.specs.declared.note.Element.TheVariants as elements
use Rattle.wv_base.specs.declared.note.NamedElement.{NamedElement, out-NamedElement}
use Rattle.wv_base.specs.declared.note.Note.{Note}
use Rattle.wv_class.specs.Meaning.{Spells}
use Rattle.wv_model.specs.MemberTable.{HasOneMethod}
use Rattle.wv_model.specs.PlainCode.{Role, Game, Mixin}
use Rattle.wv_model.specs.PlainMethod.{IsMethodCalling, IsPlainDescriptor}

abbrev pub BeginsWith : List ℕ → List ℕ → Type 0
BeginsWith front name = (rest : List ℕ) × (name ≡ front ++ rest)

-- ---- Annotations

-- the class of an annotation
abbrev pub note_class : Note → List ℕ
note_class note = (out-Annotation note.annotation).class

-- an annotation that says nothing to a weaver: it is neither of Mixin's packages nor of MixinExtras'
pub record IsOtherNote (note : Note) : Type 0 where
  pub not_mixin : BeginsWith (codes "org/spongepowered/asm/") (note_class note) → ⊥
  pub not_extras : BeginsWith (codes "com/llamalad7/mixinextras/") (note_class note) → ⊥

-- the annotation `@Overwrite`, without elements, of a method
pub record IsOverwriteNote (note : Note) : Type 0 where
  pub no_parameter : note.parameter ≡ None
  pub of_class : note_class note ≡ codes "org/spongepowered/asm/mixin/Overwrite"
  pub no_elements : (out-Annotation note.annotation).elements ≡ []

-- the element `value`, which is the one class of this descriptor
pub record IsTargetElement (descriptor : List ℕ) (element : NamedElement) : Type 0 where
  pub name : (out-NamedElement element).name ≡ codes "value"
  pub value : (out-NamedElement element).value ≡ elements.Array (elements.Class descriptor ∷ [])

-- the element `priority`, which is an int, of the kind `I`
pub record IsPriority (element : NamedElement) : Type 0 where
  pub name : (out-NamedElement element).name ≡ codes "priority"
  pub number : ℤ
  pub value : (out-NamedElement element).value ≡ elements.Constant 0x49 (Integer number)

-- the elements of `@Mixin`: the target, and perhaps a priority
pub data AreMixinElements (descriptor : List ℕ) : List NamedElement → Type 0 where
  alone : {target : NamedElement} → IsTargetElement descriptor target → AreMixinElements descriptor (target ∷ [])
  before : {target priority : NamedElement} → IsTargetElement descriptor target → IsPriority priority → AreMixinElements descriptor (target ∷ priority ∷ [])
  behind : {target priority : NamedElement} → IsTargetElement descriptor target → IsPriority priority → AreMixinElements descriptor (priority ∷ target ∷ [])

-- the annotation `@Mixin` on the class of this descriptor
pub record IsMixinNoteOn (descriptor : List ℕ) (note : Note) : Type 0 where
  pub no_parameter : note.parameter ≡ None
  pub of_class : note_class note ≡ codes "org/spongepowered/asm/mixin/Mixin"
  pub elements : AreMixinElements descriptor (out-Annotation note.annotation).elements

-- one of the annotations is such, and all others are other ones
pub record HasOneNote (IsSuch : Note → Type 0) (notes : List Note) : Type 0 where
  pub before : List Note
  pub note : Note
  pub after : List Note
  pub parts : notes ≡ before ++ note ∷ after
  pub is_such : IsSuch note
  pub others : AllByRecursion IsOtherNote before × AllByRecursion IsOtherNote after

-- the annotations of a class, and of a method, whether they are visible or not
abbrev pub AreClassNotes : Role → List Note → Type 0
AreClassNotes Game notes = AllByRecursion IsOtherNote notes
AreClassNotes Mixin notes = (descriptor : List ℕ) × HasOneNote (IsMixinNoteOn descriptor) notes

abbrev pub AreMethodNotes : Role → List Note → Type 0
AreMethodNotes Game notes = AllByRecursion IsOtherNote notes
AreMethodNotes Mixin notes = HasOneNote IsOverwriteNote notes

-- the class is a mixin on the class of this name
abbrev pub Targets : ClassFile → List ℕ → Type 0
Targets class target = HasOneNote (IsMixinNoteOn (codes "L" ++ (target ++ codes ";"))) class.notes

-- ---- Classes

-- a name that no array's class has (JVM Specification 4.4.1)
abbrev pub IsNoArray : List ℕ → Type 0
IsNoArray name = BeginsWith (codes "[") name → ⊥

-- a plain method, which calls methods of any class that is no array, has no value and declares no exceptions
pub record IsThinMethod (role : Role) (method : Member) : Type 0 where
  pub plain : IsMethodCalling (IsPlainDescriptor role) IsNoArray method
  pub no_value : method.value ≡ None
  pub no_throws : method.throws ≡ []
  pub notes : AreMethodNotes role method.notes

-- a name that a mixin may have: in its code it means the target's, so it is none of the two classes of the platform that
-- plain code refers to
pub record IsOwnName (name : List ℕ) : Type 0 where
  pub not_system : name ≢ codes "java/lang/System"
  pub not_stream : name ≢ codes "java/io/PrintStream"

-- what only a mixin is asked for: one method, and such a name
abbrev pub MeetsRole : Role → ClassFile → Type 0
MeetsRole Game class = Unit {0}
MeetsRole Mixin class = HasOneMethod class.methods × IsOwnName class.name

-- public and super (table 4.1-B)
abbrev pub class_flags : ℕ
class_flags = 0x0021

-- a class of any name and version, below `java/lang/Object`, that has nothing but thin methods, annotations and attributes
-- which are kept
pub record IsThinForm (role : Role) (class : ClassFile) : Type 0 where
  pub flags : class.flags.0 ≡ class_flags
  pub super_class : class.superclass ≡ codes "java/lang/Object"
  pub no_interfaces : class.interfaces ≡ []
  pub no_fields : class.fields ≡ []
  pub methods : AllByRecursion (IsThinMethod role) class.methods
  pub notes : AreClassNotes role class.notes
  pub of_role : MeetsRole role class

-- how many bytes a thin class has at most
unfoldable pub most_bytes : ℕ
most_bytes = 4096

-- a class that these bytes spell is thin
abbrev pub IsThin : Role → List ℕ → ClassFile → Type 0
IsThin role bytes class = (length bytes ≤ most_bytes) × IsThinForm role class

-- the bytes are those of this thin class of the role
abbrev pub IsThinClass : Role → List ℕ → ClassFile → Type 0
IsThinClass role bytes class = Spells bytes class × IsThin role bytes class

-- the class is a thin one of the role that was read of some bytes
abbrev pub IsReadThin : Role → ClassFile → Type 0
IsReadThin role class = (bytes : List ℕ) × IsThinClass role bytes class
