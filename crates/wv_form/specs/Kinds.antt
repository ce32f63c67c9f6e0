-- What is known of class files: what each is in the form (our own).
use Rattle.std.specs.Prelude.{◌≡◌, ◌++◌, ℕ, List, map, codes, Option, MatchOption}
use Rattle.std.specs.List.{AllByRecursion}
use Rattle.wv_base.specs.declared.class_file.ClassFile.{ClassFile}
use Rattle.wv_base.specs.Folder.{File}
use Rattle.wv_classes.specs.declared.class_read.ClassRead.TheVariants.{Class}
use Rattle.wv_classes.specs.declared.folder_class.FolderClass.{FolderClass}
use Rattle.wv_classes.specs.Refusal.{IsTextOf}
use Rattle.wv_merge.specs.ThinClass.{IsThin}
use Rattle.wv_model.specs.PlainCode as model
use Rattle.wv_form.specs.declared.kinds.FileKind.{FileKind}
use Rattle.wv_form.specs.declared.kinds.FileKind.TheVariants as kinds
use Rattle.wv_form.specs.declared.kinds.KnownFile.{KnownFile}
use Rattle.wv_form.specs.FileForm.{IsThinFile, HasTarget}

-- the text is the name of the class of this descriptor
abbrev pub IsTargetText : List ℕ → List ℕ → Type 0
IsTargetText descriptor text = (name : List ℕ) × (descriptor ≡ codes "L" ++ (name ++ codes ";")) × IsTextOf name text

-- the name of the target of the one `@Mixin` of a class, where it is a text
abbrev pub IsTargetOf : ClassFile → Option (List ℕ) → Type 0
IsTargetOf class target = MatchOption target ((text : List ℕ) → HasTarget class text → ⊥) (HasTarget class)

-- what a class is that these bytes spell
abbrev pub IsClassKind : List ℕ → ClassFile → FileKind → Type 0
IsClassKind bytes class kinds.NoClass = ⊥
IsClassKind bytes class (kinds.Thin same) = (same.now ≡ class) × IsThin model.Game bytes class
IsClassKind bytes class (kinds.Mixin same target) =
    (same.now ≡ class) × IsThin model.Mixin bytes class × IsTargetOf class target
IsClassKind bytes class kinds.Other = (IsThin model.Game bytes class → ⊥) × (IsThin model.Mixin bytes class → ⊥)

-- the class file spells this class, which is thin in the role
abbrev pub IsThinAs : List File → model.Role → FolderClass → ClassFile → Type 0
IsThinAs folder role file class = (file.read ≡ Class class) × IsThinFile folder role file

-- what a class file is
abbrev pub IsKindOf : List File → FolderClass → FileKind → Type 0
IsKindOf folder file kinds.NoClass = (class : ClassFile) → file.read ≡ Class class → ⊥
IsKindOf folder file (kinds.Thin class) = IsThinAs folder model.Game file class.now
IsKindOf folder file (kinds.Mixin class target) =
    IsThinAs folder model.Mixin file class.now × IsTargetOf class.now target
IsKindOf folder file kinds.Other = ((class : ClassFile) × (file.read ≡ Class class))
    × (IsThinFile folder model.Game file → ⊥) × (IsThinFile folder model.Mixin file → ⊥)

abbrev pub IsKnown : List File → KnownFile → Type 0
IsKnown folder known = IsKindOf folder known.file.now known.kind

-- the class files, and what each is
pub record AreKnown (folder : List File) (classes : List FolderClass) (known : List KnownFile) : Type 0 where
  pub files : map (λ one. one.file.now) known ≡ classes
  pub each : AllByRecursion (IsKnown folder) known
