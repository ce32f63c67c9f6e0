-- The classes of a folder (our own).
use Rattle.std.specs.Prelude.{◌≡◌, ℕ, List, All, Any, AllPairs}
use Rattle.wv_base.specs.declared.side.Side.{Side}
use Rattle.wv_base.specs.Folder.{File, IsPathBefore}
use Rattle.wv_class.specs.Meaning.{Spells}
use Rattle.wv_classes.specs.declared.class_read.ClassRead.TheVariants.{Class}
use Rattle.wv_classes.specs.declared.folder_class.FolderClass.{FolderClass}
use Rattle.wv_classes.specs.declared.loaded_class.LoadedClass.{LoadedClass}
use Rattle.wv_classes.specs.ClassPath.{IsClassFile}
use Rattle.wv_classes.specs.Refusal.{IsOfVersions, IsTextOf}

-- the class is of a version that is read, and has this name
pub record IsOwnClass (loaded : LoadedClass) : Type 0 where
  pub version : IsOfVersions loaded.class.version.major
  pub name : IsTextOf loaded.class.name loaded.name

-- the class file is read as this class, which breaks no rule
pub record IsLoadedAs (file : FolderClass) (loaded : LoadedClass) : Type 0 where
  pub path : loaded.path ≡ file.path
  pub name : loaded.name ≡ file.name
  pub read : file.read ≡ Class loaded.class
  pub own : IsOwnClass loaded

-- a class file of the folder spells this class, which breaks no rule
abbrev pub IsLoadedClass : List File → Side → LoadedClass → Type 0
IsLoadedClass folder side loaded =
    (content : List ℕ) × IsClassFile folder side loaded.path loaded.name content × Spells content loaded.class
    × IsOwnClass loaded

-- the classes of the folder, one for each class file, by the bytes of their paths
pub record AreLoadedClasses (folder : List File) (side : Side) (loaded : List LoadedClass) : Type 0 where
  pub ordered : AllPairs (λ class later. IsPathBefore class.path later.path) loaded
  pub each : All (IsLoadedClass folder side) loaded
  pub all : (path name content : List ℕ) → IsClassFile folder side path name content → Any (λ class. class.path ≡ path) loaded
