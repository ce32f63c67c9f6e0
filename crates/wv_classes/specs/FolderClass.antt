-- What the class files of a folder are (JVM Specification chapter 4; where they lie is our own).
use Rattle.std.specs.Prelude.{◌≡◌, ℕ, List, All, Any, AllPairs}
use Rattle.wv_base.specs.declared.side.Side.{Side}
use Rattle.wv_base.specs.Folder.{File, IsPathBefore}
use Rattle.wv_class.specs.Layout.{IsLayoutFault}
use Rattle.wv_class.specs.Meaning.{Spells, IsReferenceFault}
use Rattle.wv_classes.specs.declared.class_read.ClassRead.{ClassRead}
use Rattle.wv_classes.specs.declared.class_read.ClassRead.TheVariants.{Class, Layout, Reference}
use Rattle.wv_classes.specs.declared.folder_class.FolderClass.{FolderClass}
use Rattle.wv_classes.specs.ClassPath.{IsClassFile}

-- the bytes spell this class, or they are no class file and this is where it shows, or they are one in which this item is
-- the first that breaks what it must meet
abbrev pub IsReadOf : List ℕ → ClassRead → Type 0
IsReadOf bytes (Class class) = Spells bytes class
IsReadOf bytes (Layout at) = IsLayoutFault bytes at
IsReadOf bytes (Reference at) = IsReferenceFault bytes at

-- a class file of the folder, and what its bytes are
abbrev pub IsFolderClass : List File → Side → FolderClass → Type 0
IsFolderClass folder side class =
    (content : List ℕ) × IsClassFile folder side class.path class.name content × IsReadOf content class.read

-- the class files of the folder, each once, by the bytes of their paths
pub record AreFolderClasses (folder : List File) (side : Side) (classes : List FolderClass) : Type 0 where
  pub ordered : AllPairs (λ class later. IsPathBefore class.path later.path) classes
  pub each : All (IsFolderClass folder side) classes
  pub all : (path name content : List ℕ) → IsClassFile folder side path name content → Any (λ class. class.path ≡ path) classes
