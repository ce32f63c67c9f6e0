-- The entries that are found on the way to the configurations that mods name (our own).
use Rattle.std.specs.Prelude.{◌≡◌, ◌≢◌, ◌⊎◌, ◌↔◌, ℕ, IsTrue, true, false, List, ◌++◌, map, All, Any, AllPairs, Contains, Some, Option, MatchOption, slice_get}
use Rattle.std.specs.Borrow.{Bor}
use Rattle.std.specs.BTreeMap.{get}
use Rattle.std.specs.Cmp.Lexicographic.{slice_cmp}
use Rattle.std.specs.Ordering.{nat_cmp}
use Rattle.wv_base.specs.declared.side.Side.{Side}
use Rattle.wv_base.specs.Folder.{IsPathBefore}
use Rattle.wv_mod.specs.declared.mixin.MixinConfig.{MixinConfig}
use Rattle.wv_mod.specs.declared.mod_info.ModInfo.{ModInfo}
use Rattle.wv_mod.specs.Environment.{IsFor}
use Rattle.wv_config.specs.declared.naming.Entry.{Entry}
use Rattle.wv_config.specs.declared.naming.Named.{Named}
use Rattle.wv_config.specs.Naming.{folder_of, IsEarlier, IsNamed, IsUsedAt, IsOtherAt}

-- ---- All entries

-- the entry is this one of the mod
pub record IsEntryOf (side : Side) (info : ModInfo) (mixin : MixinConfig) (entry : Entry) : Type 0 where
  pub folder : entry.folder.now ≡ folder_of info.path
  pub path : entry.path ≡ folder_of info.path ++ mixin.config
  pub used : IsTrue entry.is_used ↔ IsFor side mixin.environment

-- the mods have this entry at its places
pub record IsEntry (side : Side) (mods : List ModInfo) (entry : Entry) : Type 0 where
  pub info : ModInfo
  pub mixin : MixinConfig
  pub mod_there : slice_get mods entry.mod_place ≡ Some info
  pub entry_there : slice_get info.mixins entry.place ≡ Some mixin
  pub of : IsEntryOf side info mixin entry

-- the entry stands before the other
abbrev pub IsBefore : Entry → Entry → Type 0
IsBefore entry other = IsEarlier entry.mod_place entry.place other.mod_place other.place

-- these are the entries of the mods before these places, in their order
pub record AreEntriesTo (side : Side) (mods : List ModInfo) (mod_place place : ℕ) (entries : List Entry) : Type 0 where
  pub ordered : AllPairs IsBefore entries
  pub each : All (λ entry. IsEntry side mods entry × IsEarlier entry.mod_place entry.place mod_place place) entries
  pub all : (m p : ℕ) (info : ModInfo) (mixin : MixinConfig) → slice_get mods m ≡ Some info
      → slice_get info.mixins p ≡ Some mixin → IsEarlier m p mod_place place
      → Any (λ entry. (entry.mod_place ≡ m) × (entry.place ≡ p)) entries

-- ---- One entry for each path

-- an entry for the side goes before one for the other side, and else the earlier before the later
abbrev pub GoesBefore : Entry → Entry → Type 0
GoesBefore entry other =
    ((entry.is_used ≡ true) × (other.is_used ≡ false)) ⊎ ((entry.is_used ≡ other.is_used) × IsBefore entry other)

-- of these entries, this is the one at which the configuration with its path stands
pub record IsChosen (entries : List Entry) (entry : Entry) : Type 0 where
  pub here : Contains entries entry
  pub first : (other : Entry) → Contains entries other → other.path ≡ entry.path → GoesBefore other entry → ⊥

-- the entry that a table has under the path
abbrev pub entry_under : Named → List ℕ → Option (Bor Entry)
entry_under named path = get (slice_cmp nat_cmp) named.entries path

-- the table has the chosen entry of each path
abbrev pub Holds : List Entry → Named → Type 0
Holds entries named = (path : List ℕ) → MatchOption (entry_under named path)
    (All (λ entry. entry.path ≢ path) entries)
    (λ entry. (entry.now.path ≡ path) × IsChosen entries entry.now)

-- the entries that are referred to
abbrev pub entries_at : List (Bor Entry) → List Entry
entries_at references = map (λ reference. reference.now) references

-- the chosen entry of each path, by the bytes of the paths
pub record AreChosen (entries chosen : List Entry) : Type 0 where
  pub ordered : AllPairs (λ entry later. IsPathBefore entry.path later.path) chosen
  pub each : All (IsChosen entries) chosen
  pub all : All (λ entry. Any (λ one. one.path ≡ entry.path) chosen) entries

-- ---- What they name

-- the configuration with the entry's path stands there
abbrev pub Stands : Side → List ModInfo → Entry → Type 0
Stands side mods entry =
    ((entry.is_used ≡ true) × IsUsedAt side mods entry.path entry.mod_place entry.place)
    ⊎ ((entry.is_used ≡ false) × IsOtherAt side mods entry.path entry.mod_place entry.place)

-- the entries at which the configurations that the mods name stand, by the bytes of their paths
pub record AreNamed (side : Side) (mods : List ModInfo) (chosen : List Entry) : Type 0 where
  pub ordered : AllPairs (λ entry later. IsPathBefore entry.path later.path) chosen
  pub each : All (λ entry. IsEntry side mods entry × Stands side mods entry) chosen
  pub all : (path : List ℕ) → IsNamed mods path → Any (λ entry. entry.path ≡ path) chosen
