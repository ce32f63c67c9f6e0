-- The mixin configurations of the loaded mods (Mixin 0.8.5; their order is our own).
use Rattle.std.specs.Prelude.{◌≡◌, ℕ, List, All, Any, AllPairs, Some, slice_get}
use Rattle.std.specs.List.{AllZip}
use Rattle.std.specs.declared.cmp.Ordering.{Ordering}
use Rattle.std.specs.declared.cmp.Ordering.TheVariants.{Less}
use Rattle.std.specs.Ordering.{nat_cmp, int_cmp, ordering_then}
use Rattle.wv_base.specs.declared.side.Side.{Side}
use Rattle.wv_base.specs.Folder.{File, IsPathBefore}
use Rattle.wv_mod.specs.declared.mod_info.ModInfo.{ModInfo}
use Rattle.wv_config.specs.declared.loaded.LoadedConfig.{LoadedConfig}
use Rattle.wv_config.specs.declared.loaded.Configs.{Configs}
use Rattle.wv_config.specs.Naming.{folder_of, IsNamed, IsNamedFor, IsUsedAt, IsOtherAt}
use Rattle.wv_config.specs.Refmap.{text_in}
use Rattle.wv_config.specs.Reading.{IsConfigAt, IsRefmapOf, refmap_of}

-- the configuration and its refmap are those of the files
pub record IsReadFrom (files : List File) (folder : List ℕ) (config : LoadedConfig) : Type 0 where
  pub says : IsConfigAt files config.path config.config
  pub refmap : IsRefmapOf (refmap_of files folder config.config) config.refmap

-- the same, in the folder of the mod at whose entry it stands
abbrev pub IsRead : List File → List ModInfo → LoadedConfig → Type 0
IsRead files mods config =
    (info : ModInfo) × (slice_get mods config.mod_place ≡ Some info) × IsReadFrom files (folder_of info.path) config

-- the order of used configurations: by priority, then by mod, then by place
abbrev pub used_order : LoadedConfig → LoadedConfig → Ordering
used_order config other =
    ordering_then (int_cmp config.config.priority other.config.priority)
    (ordering_then (nat_cmp config.mod_place other.mod_place) (nat_cmp config.place other.place))

-- the used configurations, each once, in their order
pub record AreUsed (files : List File) (side : Side) (mods : List ModInfo) (used : List LoadedConfig) : Type 0 where
  pub ordered : AllPairs (λ config later. used_order config later ≡ Less) used
  pub each : All (λ config. IsUsedAt side mods config.path config.mod_place config.place × IsRead files mods config) used
  pub all : (path : List ℕ) → IsNamedFor side mods path → Any (λ config. config.path ≡ path) used

-- the other configurations that are named, each once, by the bytes of their paths
pub record AreOthers (files : List File) (side : Side) (mods : List ModInfo) (others : List LoadedConfig) : Type 0 where
  pub ordered : AllPairs (λ config later. IsPathBefore config.path later.path) others
  pub each : All (λ config. IsOtherAt side mods config.path config.mod_place config.place × IsRead files mods config) others
  pub all : (path : List ℕ) → IsNamed mods path → (IsNamedFor side mods path → ⊥) → Any (λ config. config.path ≡ path) others

-- the configurations that the mods name
pub record AreConfigs (files : List File) (side : Side) (mods : List ModInfo) (configs : Configs) : Type 0 where
  pub used : AreUsed files side mods configs.used.items
  pub others : AreOthers files side mods configs.others.items

-- two configurations say the same
pub record IsSameAs (config other : LoadedConfig) : Type 0 where
  pub path : config.path ≡ other.path
  pub mod_place : config.mod_place ≡ other.mod_place
  pub place : config.place ≡ other.place
  pub says : config.config ≡ other.config
  pub refmap : (class reference : List ℕ) → text_in config.refmap class reference ≡ text_in other.refmap class reference

-- as many of each, and each says the same as the other at its place
pub record AreSame (configs other : Configs) : Type 0 where
  pub used : AllZip IsSameAs configs.used.items other.used.items
  pub others : AllZip IsSameAs configs.others.items other.others.items
