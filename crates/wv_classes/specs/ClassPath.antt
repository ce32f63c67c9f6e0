-- The class files of a folder by their paths (our own).
use Rattle.std.specs.Prelude.{◌≡◌, ◌⊎◌, ℕ, List, ◌++◌, Some, IsTrue, codes}
use Rattle.wv_base.specs.declared.side.Side.{Side}
use Rattle.wv_base.specs.Folder.{File, content_of}
use Rattle.wv_model.specs.FolderRead.{is_read}
use Rattle.wv_resolve.specs.LoadedFolder.{IsLoadedFolder}

-- class files lie in `game/`, and in `mods/F/` where the mod in this folder is loaded on the side
abbrev pub IsClassRoot : List File → Side → List ℕ → Type 0
IsClassRoot folder side root =
    (root ≡ codes "game/")
    ⊎ ((name : List ℕ) × IsLoadedFolder folder side name × (root ≡ codes "mods/" ++ name ++ codes "/"))

-- the path is one of these folders and what follows it
abbrev pub LiesBehind : List File → Side → (path rest : List ℕ) → Type 0
LiesBehind folder side path rest = (root : List ℕ) × IsClassRoot folder side root × (path ≡ root ++ rest)

-- the path is that of a class file, and says this name: it is read, and the name is what follows the folder, without
-- `.class`
pub record IsClassPath (folder : List File) (side : Side) (path name : List ℕ) : Type 0 where
  pub lies : LiesBehind folder side path (name ++ codes ".class")
  pub read : IsTrue (is_read path)

-- the folder has a class file at this path, whose name is so, with this content
abbrev pub IsClassFile : List File → Side → (path name content : List ℕ) → Type 0
IsClassFile folder side path name content =
    IsClassPath folder side path name × (content_of path folder ≡ Some content)
