-- The mixins that are applied, and their order (Mixin 0.8.5; which of several namings counts is our own).
use Rattle.std.specs.Prelude.{◌≡◌, ◌≢◌, ◌↔◌, ◌⊎◌, ◌<◌, ◌<ℤ◌, ℕ, ℤ, List, ◌++◌, map, Some, bytes_eq, unwrap_or, length, get_or, Contains, AllPairs}
use Rattle.std.specs.List.{position}
use Rattle.std.specs.Ordering.{int_cmp, nat_cmp, ordering_then}
use Rattle.std.specs.declared.cmp.Ordering.{Ordering}
use Rattle.wv_base.specs.declared.side.Side.{Side}
use Rattle.wv_base.specs.declared.side.Side.TheVariants.{Client, Server}
use Rattle.wv_classes.specs.declared.loaded_class.LoadedClass.{LoadedClass}
use Rattle.wv_config.specs.declared.config.Config.{Config}
use Rattle.wv_config.specs.declared.loaded.LoadedConfig.{LoadedConfig}
use Rattle.wv_config.specs.Slashes.{class_of}
use Rattle.wv_front.specs.declared.order.AppliedMixin.{AppliedMixin}
use Rattle.wv_front.specs.Places.{loaded_name}
use Rattle.wv_front.specs.Marks.{stated_priority}

-- ---- Namings

-- the list has this element at the place
abbrev pub StandsAt : {A : Type 0} → List A → ℕ → A → Type 0
StandsAt list place x = (place < length list) × (get_or list place x ≡ x)

-- the entries that a configuration has for one side alone
abbrev pub side_entries : Side → Config → List (List ℕ)
side_entries Client config = config.client
side_entries Server config = config.server

-- the entries that apply on a side, those of both sides first
abbrev pub entries_on : Side → Config → List (List ℕ)
entries_on side config = config.mixins ++ side_entries side config

-- the priority of a mixin class that the configuration names: its own, or else that of the configuration
abbrev pub priority_of : Config → LoadedClass → ℤ
priority_of config class = unwrap_or (stated_priority class.class) config.mixin_priority

-- the entry of the configuration names this class, the first of its name, with this priority
pub record NamesClass (classes : List LoadedClass) (config : Config) (entry : List ℕ) (mixin : AppliedMixin) : Type 0 where
  pub of_name : mixin.name ≡ class_of config.«package» entry
  pub first : position (bytes_eq mixin.name) (map loaded_name classes) ≡ Some mixin.class_place
  pub class : LoadedClass
  pub of_class : StandsAt classes mixin.class_place class
  pub of_priority : mixin.priority ≡ priority_of config class

-- an entry of a used configuration names this class, under a key of its priority, configuration and entry
pub record IsNaming (configs : List LoadedConfig) (classes : List LoadedClass) (side : Side) (mixin : AppliedMixin) : Type 0 where
  pub loaded : LoadedConfig
  pub by_config : StandsAt configs mixin.config_place loaded
  pub entry : List ℕ
  pub by_entry : StandsAt (entries_on side loaded.config) mixin.entry_place entry
  pub names : NamesClass classes loaded.config entry mixin

-- ---- The order

-- the key is less: by priority, then by configuration, then by entry
abbrev pub IsBefore : AppliedMixin → AppliedMixin → Type 0
IsBefore mixin other = (mixin.priority <ℤ other.priority) ⊎ ((mixin.priority ≡ other.priority)
    × ((mixin.config_place < other.config_place) ⊎ ((mixin.config_place ≡ other.config_place)
    × (mixin.entry_place < other.entry_place))))

-- the same as a comparison
abbrev pub key_cmp : AppliedMixin → AppliedMixin → Ordering
key_cmp mixin other = ordering_then (ordering_then (int_cmp mixin.priority other.priority)
    (nat_cmp mixin.config_place other.config_place)) (nat_cmp mixin.entry_place other.entry_place)

-- a mixin is applied under the least key of the namings of its class
pub record IsApplied (configs : List LoadedConfig) (classes : List LoadedClass) (side : Side) (mixin : AppliedMixin) : Type 0 where
  pub named : IsNaming configs classes side mixin
  pub least : (other : AppliedMixin) → IsNaming configs classes side other → other.class_place ≡ mixin.class_place
      → IsBefore other mixin → ⊥

-- these are the mixins that are applied
abbrev pub AreApplied : List LoadedConfig → List LoadedClass → Side → List AppliedMixin → Type 0
AreApplied configs classes side mixins =
    (mixin : AppliedMixin) → Contains mixins mixin ↔ IsApplied configs classes side mixin

-- each is before those that follow
abbrev pub AreOrdered : List AppliedMixin → Type 0
AreOrdered mixins = AllPairs IsBefore mixins

-- exactly so many applied mixins have a smaller key
pub record HasSmaller (configs : List LoadedConfig) (classes : List LoadedClass) (side : Side) (mixin : AppliedMixin) (many : ℕ) : Type 0 where
  pub smaller : List AppliedMixin
  pub number : length smaller ≡ many
  pub distinct : AllPairs (λ one other. one ≢ other) smaller
  pub exact : (other : AppliedMixin) → Contains smaller other ↔ (IsApplied configs classes side other × IsBefore other mixin)
