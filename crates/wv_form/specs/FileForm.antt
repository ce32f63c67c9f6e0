-- Class files of a folder that are thin, and what they say of others (Mixin 0.8.5; the form is our own).
use Rattle.std.specs.Prelude.{◌≡◌, ◌⊎◌, ℕ, List, Contains, Some}
use Rattle.wv_base.specs.declared.class_file.ClassFile.{ClassFile}
use Rattle.wv_base.specs.Folder.{File, content_of}
use Rattle.wv_classes.specs.declared.class_read.ClassRead.TheVariants.{Class}
use Rattle.wv_classes.specs.declared.folder_class.FolderClass.{FolderClass}
use Rattle.wv_classes.specs.Refusal.{IsTextOf}
use Rattle.wv_merge.specs.ThinClass.{IsThin, Targets}
use Rattle.wv_model.specs.PlainCode.{Role, Game}
use Rattle.wv_form.specs.NamedClasses.{named_classes}

-- the class file spells this class, which is thin in the role
pub record IsThinFile (folder : List File) (role : Role) (file : FolderClass) : Type 0 where
  pub content : List ℕ
  pub there : content_of file.path folder ≡ Some content
  pub class : ClassFile
  pub read : file.read ≡ Class class
  pub thin : IsThin role content class

-- the class file spells no class
abbrev pub SpellsNone : FolderClass → Type 0
SpellsNone file = (class : ClassFile) → file.read ≡ Class class → ⊥

-- a mixin's target may have this class file: its class is thin, or it spells none, which a later rule tells
abbrev pub IsCandidate : List File → FolderClass → Type 0
IsCandidate folder file = IsThinFile folder Game file ⊎ SpellsNone file

-- the class has one `@Mixin`, whose target has this name
abbrev pub HasTarget : ClassFile → List ℕ → Type 0
HasTarget class name = (target : List ℕ) × Targets class target × IsTextOf target name

-- the class file of a mixin has the other class file's class as its target
abbrev pub TargetsFile : FolderClass → FolderClass → Type 0
TargetsFile mixin file = (class : ClassFile) × (mixin.read ≡ Class class) × HasTarget class file.name

-- two mixins have one target
abbrev pub ShareTarget : FolderClass → FolderClass → Type 0
ShareTarget mixin other =
    (class : ClassFile) × (mixin.read ≡ Class class)
    × ((second : ClassFile) × (other.read ≡ Class second)
    × ((name : List ℕ) × HasTarget class name × HasTarget second name))

-- the class file names the other's class
abbrev pub NamesFile : FolderClass → FolderClass → Type 0
NamesFile file other =
    (class : ClassFile) × (file.read ≡ Class class)
    × ((name : List ℕ) × Contains (named_classes class) name × IsTextOf name other.name)
