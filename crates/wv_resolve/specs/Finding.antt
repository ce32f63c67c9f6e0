-- What is found on the way to the mods of a folder: the names of their folders, their descriptions, and the first flaw
-- of these (our own).
use Rattle.std.specs.Prelude.{◌≡◌, ◌⊎◌, ℕ, ◌<◌, List, [], ◌∷◌, ◌++◌, map, All, Any, AllPairs, Contains, None, Some, MatchOption}
use Rattle.std.specs.Borrow.{Bor}
use Rattle.std.specs.List.{AllZip}
use Rattle.wv_base.specs.declared.broken.Broken.{Broken}
use Rattle.wv_base.specs.declared.side.Side.{Side}
use Rattle.wv_base.specs.Folder.{File, IsPathBefore, content_of}
use Rattle.wv_base.specs.Rule.{number_of}
use Rattle.wv_mod.specs.declared.fault.Flaw.{Flaw}
use Rattle.wv_mod.specs.declared.mod_info.ModInfo.{ModInfo}
use Rattle.wv_mod.specs.Flaw.{IsFlawOf, broken_of}
use Rattle.wv_mod.specs.ModInfo.{IsMod}
use Rattle.wv_resolve.specs.declared.discovery.Description.{Description}
use Rattle.wv_resolve.specs.declared.discovery.Reading.{Reading}
use Rattle.wv_resolve.specs.Discovery.{IsModFolder, NeedsDescription, HasDescription, description_path, missing}

-- ---- The folders of mods

-- the texts that are referred to
abbrev pub texts_at : List (Bor (List ℕ)) → List (List ℕ)
texts_at references = map (λ reference. reference.now) references

-- the last of the list
abbrev pub IsLast : {A : Type 0} → List A → A → Type 0
IsLast {A} list x = (front : List A) × (list ≡ front ++ x ∷ [])

-- the list with one behind it, unless that is the last already
abbrev pub AddsOnce : {A : Type 0} → (list : List A) → A → (more : List A) → Type 0
AddsOnce list x more = (IsLast list x × (more ≡ list)) ⊎ ((IsLast list x → ⊥) × (more ≡ list ++ x ∷ []))

-- the names of the folders of mods, each once, by the bytes of the paths of their descriptions
pub record AreModFolders (folder : List File) (names : List (List ℕ)) : Type 0 where
  pub ordered : AllPairs (λ name later. IsPathBefore (description_path name) (description_path later)) names
  pub each : All (IsModFolder folder) names
  pub all : (name : List ℕ) → IsModFolder folder name → Contains names name

-- ---- Descriptions

-- the folder has this description of the mod in the folder of this name
abbrev pub IsDescriptionIn : List File → List ℕ → Description → Type 0
IsDescriptionIn folder name description =
    (description.path ≡ description_path name) × (content_of description.path folder ≡ Some description.bytes.now)

-- the folder lacks a description of the mod in the folder of this name
abbrev pub LacksIn : List File → List ℕ → Broken → Type 0
LacksIn folder name broken =
    (content_of (description_path name) folder ≡ None) × (broken ≡ missing (description_path name))

-- the descriptions of the mods, each once, by the bytes of their paths
pub record AreDescriptions (folder : List File) (descriptions : List Description) : Type 0 where
  pub ordered : AllPairs (λ description later. IsPathBefore description.path later.path) descriptions
  pub each : All (λ description. HasDescription folder (description.path, description.bytes.now)) descriptions
  pub all : (path : List ℕ) → NeedsDescription folder path → Any (λ description. description.path ≡ path) descriptions

-- ---- What they say

-- the description says this of its mod
abbrev pub Describes : Side → Description → ModInfo → Type 0
Describes side description info = IsMod description.path description.bytes.now side info

-- one of the descriptions breaks a rule
abbrev pub IsFlawAmong : List Description → Broken → Type 0
IsFlawAmong descriptions broken =
    Any (λ description. (flaw : Flaw) × IsFlawOf description.bytes.now flaw × (broken ≡ broken_of description.path flaw)) descriptions

-- by the number of the rule, and of the same rule by the bytes of the path
abbrev pub IsBrokenBefore : Broken → Broken → Type 0
IsBrokenBefore broken other =
    (number_of broken.rule < number_of other.rule)
    ⊎ ((number_of broken.rule ≡ number_of other.rule) × IsPathBefore broken.place.file other.place.file)

-- the first of what the descriptions break
pub record IsFirstFlaw (descriptions : List Description) (broken : Broken) : Type 0 where
  pub here : IsFlawAmong descriptions broken
  pub first : (other : Broken) → IsFlawAmong descriptions other → IsBrokenBefore other broken → ⊥

-- what was read of the descriptions: the mod of each, as long as none breaks a rule, and else the first rule that they break
abbrev pub IsReadingOf : Side → List Description → Reading → Type 0
IsReadingOf side descriptions reading =
    MatchOption reading.first (AllZip (Describes side) descriptions reading.mods.items) (IsFirstFlaw descriptions)
