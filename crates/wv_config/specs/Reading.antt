-- What is read of the configurations that mods name, and the first rule that they break (Mixin 0.8.5; the rules are our
-- own).
use Rattle.std.specs.Prelude.{◌≡◌, ◌⊎◌, ℕ, if◌then◌else◌, List, [], ◌∷◌, ◌++◌, Option, Some, None, slice_get, codes}
use Rattle.std.specs.List.{AllByRecursion}
use Rattle.std.specs.Option.{option_map, option_and_then}
use Rattle.wv_base.specs.declared.broken.Broken.{Broken}
use Rattle.wv_base.specs.declared.rule.Rule.{Rule}
use Rattle.wv_base.specs.declared.rule.Rule.TheVariants.{ConfigMissing, ConfigBad, PluginNamed, RefmapBad}
use Rattle.wv_base.specs.declared.side.Side.{Side}
use Rattle.wv_base.specs.Folder.{File, content_of}
use Rattle.wv_model.specs.FolderRead.{is_read}
use Rattle.wv_mod.specs.FirstBroken.{IsKept, IsFirstOf}
use Rattle.wv_mod.specs.declared.mod_info.ModInfo.{ModInfo}
use Rattle.wv_config.specs.declared.config.Config.{Config}
use Rattle.wv_config.specs.declared.refmap.Refmap.{Refmap}
use Rattle.wv_config.specs.Config.{IsConfig, IsConfigBroken}
use Rattle.wv_config.specs.Fault.{broken_at}
use Rattle.wv_config.specs.Naming.{folder_of, StandsAt}
use Rattle.wv_config.specs.Refmap.{text_in, IsRefmap, IsRefmapBroken}

-- ---- What files say

-- the bytes of a configuration, which has to have a path that is read
abbrev pub config_content : List File → List ℕ → Option (List ℕ)
config_content files path = if is_read path then content_of path files else None

-- the bytes of a refmap that is listed, which are none where its path is left unread
abbrev pub refmap_content : List File → List ℕ → Option (List ℕ)
refmap_content files path = option_map (λ content. if is_read path then content else []) (content_of path files)

-- the file with this path is the configuration
abbrev pub IsConfigAt : List File → List ℕ → Config → Type 0
IsConfigAt files path config =
    (content : List ℕ) × (config_content files path ≡ Some content) × IsConfig content config

-- the bytes of the refmap that a configuration of the mod in this folder names, if it is listed
abbrev pub refmap_of : List File → List ℕ → Config → Option (List ℕ)
refmap_of files folder config = option_and_then (λ name. refmap_content files (folder ++ name)) config.refmap

-- the refmap of these bytes, and the empty one where there are none
abbrev pub IsRefmapOf : Option (List ℕ) → Refmap → Type 0
IsRefmapOf None refmap = (class reference : List ℕ) → text_in refmap class reference ≡ None
IsRefmapOf (Some content) refmap = IsRefmap content refmap

-- ---- What they break

-- the configuration isn't there, or the file with its path is none
abbrev pub IsConfigFlaw : List File → List ℕ → Broken → Type 0
IsConfigFlaw files path broken =
    ((config_content files path ≡ None) × (broken ≡ broken_at ConfigMissing path (codes "-")))
    ⊎ ((content : List ℕ) × (config_content files path ≡ Some content) × IsConfigBroken path content broken)

-- the refmap that the configuration names is listed and is no refmap
abbrev pub IsRefmapFlaw : List File → List ℕ → Config → Broken → Type 0
IsRefmapFlaw files folder config broken =
    (name content : List ℕ) × (config.refmap ≡ Some name) × (refmap_content files (folder ++ name) ≡ Some content)
    × IsRefmapBroken (folder ++ name) content broken

-- the first rule that a configuration of the mod in this folder breaks, or its refmap
abbrev pub IsFlaw : List File → (folder path : List ℕ) → Broken → Type 0
IsFlaw files folder path broken =
    IsConfigFlaw files path broken
    ⊎ ((config : Config) × IsConfigAt files path config × IsRefmapFlaw files folder config broken)

-- a configuration that the mods name, in the folder of the mod at whose entry it stands
pub record IsConfigIn (side : Side) (mods : List ModInfo) (folder path : List ℕ) : Type 0 where
  pub mod_place : ℕ
  pub place : ℕ
  pub stands : StandsAt side mods path mod_place place
  pub info : ModInfo
  pub mod_there : slice_get mods mod_place ≡ Some info
  pub in_folder : folder ≡ folder_of info.path

-- rules 20 to 23: a configuration, used or not, breaks this rule and none before it
pub record BreaksRule (files : List File) (side : Side) (mods : List ModInfo) (rule : Rule) (broken : Broken) : Type 0 where
  pub folder : List ℕ
  pub path : List ℕ
  pub named : IsConfigIn side mods folder path
  pub flaw : IsFlaw files folder path broken
  pub of : broken.rule ≡ rule

-- the rules on configurations, in their order
abbrev pub config_rules : List Rule
config_rules = ConfigMissing ∷ ConfigBad ∷ PluginNamed ∷ RefmapBad ∷ []

-- the first of these rules that the configurations break, at its first path
abbrev pub IsFirstConfigBroken : List File → Side → List ModInfo → Broken → Type 0
IsFirstConfigBroken files side mods broken = IsFirstOf (BreaksRule files side mods) config_rules broken

-- the configurations break none of these rules
abbrev pub AreConfigsKept : List File → Side → List ModInfo → Type 0
AreConfigsKept files side mods = AllByRecursion (λ rule. IsKept (BreaksRule files side mods rule)) config_rules
