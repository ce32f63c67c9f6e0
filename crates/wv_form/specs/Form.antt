-- The form of class files that is built so far, and the first class file that isn't of it (our own).
use Rattle.std.specs.Prelude.{◌≡◌, ◌⊎◌, ℕ, List, Contains, codes}
use Rattle.std.specs.List.{AllByRecursion}
use Rattle.wv_base.specs.declared.broken.Broken.{Broken}
use Rattle.wv_base.specs.declared.class_file.ClassFile.{ClassFile}
use Rattle.wv_base.specs.declared.rule.Rule.TheVariants.{OutOfForm}
use Rattle.wv_base.specs.Folder.{File}
use Rattle.wv_classes.specs.declared.class_read.ClassRead.TheVariants.{Class}
use Rattle.wv_classes.specs.declared.folder_class.FolderClass.{FolderClass}
use Rattle.wv_model.specs.PlainCode.{Game, Mixin}
use Rattle.wv_resolve.specs.Refusal.{IsFirst, broken_at}
use Rattle.wv_form.specs.FileForm.{IsThinFile, IsCandidate, TargetsFile, ShareTarget, NamesFile}

-- ---- Of the form

-- the class file is thin in one of the roles, its name stands at no other path, and it names no other thin mixin; the
-- target of a thin mixin is a thin class or one that isn't spelled, and of no other thin mixin
pub record HasForm (folder : List File) (classes : List FolderClass) (file : FolderClass) : Type 0 where
  pub thin : IsThinFile folder Game file ⊎ IsThinFile folder Mixin file
  pub once : (other : FolderClass) → Contains classes other → other.name ≡ file.name → other.path ≡ file.path
  pub targets : IsThinFile folder Mixin file
      → (target : FolderClass) × Contains classes target × IsCandidate folder target × TargetsFile file target
  pub alone : IsThinFile folder Mixin file
      → (other : FolderClass) → Contains classes other → IsThinFile folder Mixin other → ShareTarget file other → other.path ≡ file.path
  pub names : (mixin : FolderClass) → Contains classes mixin → IsThinFile folder Mixin mixin → NamesFile file mixin → mixin.name ≡ file.name

-- a class file that spells a class has the form
abbrev pub IsOfForm : List File → List FolderClass → FolderClass → Type 0
IsOfForm folder classes file = (class : ClassFile) → file.read ≡ Class class → HasForm folder classes file

abbrev pub AreOfForm : List File → List FolderClass → Type 0
AreOfForm folder classes = AllByRecursion (IsOfForm folder classes) classes

-- ---- Not of the form

-- what a class file that spells a class lacks of the form
pub data LacksForm (folder : List File) (classes : List FolderClass) (file : FolderClass) : Type 0 where
  not_thin : (IsThinFile folder Game file → ⊥) → (IsThinFile folder Mixin file → ⊥) → LacksForm folder classes file
  twice : (other : FolderClass) → Contains classes other → other.name ≡ file.name → (other.path ≡ file.path → ⊥) → LacksForm folder classes file
  no_target : IsThinFile folder Mixin file
      → ((target : FolderClass) → Contains classes target → IsCandidate folder target → TargetsFile file target → ⊥) → LacksForm folder classes file
  shared : IsThinFile folder Mixin file → (other : FolderClass) → Contains classes other → IsThinFile folder Mixin other
      → ShareTarget file other → (other.path ≡ file.path → ⊥) → LacksForm folder classes file
  names_mixin : (mixin : FolderClass) → Contains classes mixin → IsThinFile folder Mixin mixin → NamesFile file mixin
      → (mixin.name ≡ file.name → ⊥) → LacksForm folder classes file

abbrev pub IsOutOfForm : List File → List FolderClass → FolderClass → Type 0
IsOutOfForm folder classes file = ((class : ClassFile) × (file.read ≡ Class class)) × LacksForm folder classes file

-- rule 9: the first class file that isn't of the form
abbrev pub out_of_form : List ℕ → Broken
out_of_form path = broken_at OutOfForm path (codes "-") (codes "-")

abbrev pub IsFirstOutOfForm : List File → List FolderClass → Broken → Type 0
IsFirstOutOfForm folder classes broken =
    (file : FolderClass)
    × IsFirst (IsOfForm folder classes) (λ other. IsOutOfForm folder classes other × (broken ≡ out_of_form other.path)) classes file
