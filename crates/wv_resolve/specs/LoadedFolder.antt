-- The folders whose mods are loaded, whether or not the mods fit together (our own).
use Rattle.std.specs.Prelude.{◌≡◌, ℕ, List, All, AllPairs, Contains, Some, IsTrue}
use Rattle.wv_base.specs.declared.side.Side.{Side}
use Rattle.wv_base.specs.Folder.{File, IsPathBefore, content_of}
use Rattle.wv_mod.specs.declared.mod_info.ModInfo.{ModInfo}
use Rattle.wv_mod.specs.ModInfo.{IsMod}
use Rattle.wv_resolve.specs.Discovery.{IsModFolder, description_path}

-- the description of the mod in the folder of this name is there, breaks no rule, and says that its mod is loaded on the
-- side
pub record SaysLoaded (folder : List File) (side : Side) (name : List ℕ) : Type 0 where
  pub content : List ℕ
  pub there : content_of (description_path name) folder ≡ Some content
  pub info : ModInfo
  pub says : IsMod (description_path name) content side info
  pub loaded : IsTrue info.loaded

-- a mod has a folder of this name, and is loaded on the side
abbrev pub IsLoadedFolder : List File → Side → List ℕ → Type 0
IsLoadedFolder folder side name = IsModFolder folder name × SaysLoaded folder side name

-- the names of the folders of loaded mods, each once, by the bytes of the paths of their descriptions
pub record AreLoadedFolders (folder : List File) (side : Side) (names : List (List ℕ)) : Type 0 where
  pub ordered : AllPairs (λ name later. IsPathBefore (description_path name) (description_path later)) names
  pub each : All (IsLoadedFolder folder side) names
  pub all : (name : List ℕ) → IsLoadedFolder folder side name → Contains names name
