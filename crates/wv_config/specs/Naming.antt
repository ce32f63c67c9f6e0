-- The mixin configurations that mods name, and the entry at which each stands (fabric.mod.json, schema version 1; which
-- entry counts is our own).
use Rattle.std.specs.Prelude.{◌≡◌, ◌⊎◌, ℕ, ◌-◌, ◌<◌, if◌then◌else◌, List, [], ◌++◌, length, take, nat_eq, slice_get, Some, codes}
use Rattle.std.specs.List.{ends_with}
use Rattle.wv_base.specs.declared.side.Side.{Side}
use Rattle.wv_mod.specs.declared.environment.Environment.{Environment}
use Rattle.wv_mod.specs.declared.mixin.MixinConfig.{MixinConfig}
use Rattle.wv_mod.specs.declared.mod_info.ModInfo.{ModInfo}
use Rattle.wv_mod.specs.Environment.{IsFor}

-- the file name of a description
abbrev pub description_name : List ℕ
description_name = codes "fabric.mod.json"

-- where the files of a mod lie: what stands before the file name of its description
abbrev pub folder_of : List ℕ → List ℕ
folder_of path =
    if ends_with nat_eq path description_name then take (length path - length description_name) path else []

-- one entry stands before another: by mod, then by place
abbrev pub IsEarlier : (mod_place place other_mod other_place : ℕ) → Type 0
IsEarlier mod_place place other_mod other_place =
    (mod_place < other_mod) ⊎ ((mod_place ≡ other_mod) × (place < other_place))

-- the entry at this place of the mod at that place names the configuration with this path
pub record Names (Fits : Environment → Type 0) (mods : List ModInfo) (path : List ℕ) (mod_place place : ℕ) : Type 0 where
  pub info : ModInfo
  pub entry : MixinConfig
  pub mod_there : slice_get mods mod_place ≡ Some info
  pub entry_there : slice_get info.mixins place ≡ Some entry
  pub is_path : path ≡ folder_of info.path ++ entry.config
  pub fits : Fits entry.environment

-- any environment
abbrev pub Anywhere : Environment → Type 0
Anywhere environment = Unit {0}

-- some entry names the configuration with this path
abbrev pub IsNamed : List ModInfo → List ℕ → Type 0
IsNamed mods path = (mod_place place : ℕ) × Names Anywhere mods path mod_place place

-- some entry for the side names it
abbrev pub IsNamedFor : Side → List ModInfo → List ℕ → Type 0
IsNamedFor side mods path = (mod_place place : ℕ) × Names (IsFor side) mods path mod_place place

-- of the entries that name it and fit, this is the first
pub record IsFirstNaming (Fits : Environment → Type 0) (mods : List ModInfo) (path : List ℕ) (mod_place place : ℕ) : Type 0 where
  pub here : Names Fits mods path mod_place place
  pub first : (other_mod other_place : ℕ) → Names Fits mods path other_mod other_place
      → IsEarlier other_mod other_place mod_place place → ⊥

-- a used configuration stands at the first entry for the side that names it
abbrev pub IsUsedAt : Side → List ModInfo → List ℕ → (mod_place place : ℕ) → Type 0
IsUsedAt side mods path mod_place place = IsFirstNaming (IsFor side) mods path mod_place place

-- one that no entry for the side names stands at the first entry that names it
abbrev pub IsOtherAt : Side → List ModInfo → List ℕ → (mod_place place : ℕ) → Type 0
IsOtherAt side mods path mod_place place =
    IsFirstNaming Anywhere mods path mod_place place × (IsNamedFor side mods path → ⊥)

-- a configuration that is named stands at this entry
abbrev pub StandsAt : Side → List ModInfo → List ℕ → (mod_place place : ℕ) → Type 0
StandsAt side mods path mod_place place =
    IsUsedAt side mods path mod_place place ⊎ IsOtherAt side mods path mod_place place
