-- What is known on the way: the places of classes by their names, and the first class that is missing (our own).
use Rattle.std.specs.Prelude.{◌≡◌, ℕ, List, map, bytes_eq, Contains, Option, MatchOption, codes}
use Rattle.std.specs.Borrow.{Bor}
use Rattle.std.specs.BTreeMap.{get}
use Rattle.std.specs.Cmp.Lexicographic.{slice_cmp}
use Rattle.std.specs.List.{AllByRecursion, position}
use Rattle.std.specs.Ordering.{nat_cmp}
use Rattle.wv_base.specs.declared.broken.Broken.{Broken}
use Rattle.wv_base.specs.declared.rule.Rule.TheVariants.{MixinMissing}
use Rattle.wv_config.specs.declared.config.Config.{Config}
use Rattle.wv_config.specs.declared.loaded.LoadedConfig.{LoadedConfig}
use Rattle.wv_config.specs.Slashes.{class_of}
use Rattle.wv_resolve.specs.Refusal.{IsFirst, broken_at}
use Rattle.wv_front.specs.declared.places.ClassPlaces.{ClassPlaces}
use Rattle.wv_front.specs.Listed.{class_names}

-- the table has the first place of each name
abbrev pub ArePlaces : List (List ℕ) → ClassPlaces → Type 0
ArePlaces names table = (name : List ℕ) → get (slice_cmp nat_cmp) table.places name ≡ position (bytes_eq name) names

-- what is referred to
abbrev pub values : {A : Type 0} → List (Bor A) → List A
values references = map (λ reference. reference.now) references

-- the classes of entries of the configuration
abbrev pub listed_by : Config → List (List ℕ) → List (List ℕ)
listed_by config entries = map (class_of config.«package») entries

-- of the listed ones, the first that isn't among the names
abbrev pub LacksFirst : List (List ℕ) → List (List ℕ) → Option (List ℕ) → Type 0
LacksFirst names listed first = MatchOption first (AllByRecursion (Contains names) listed)
    (IsFirst (Contains names) (λ name. Contains names name → ⊥) listed)

-- each configuration lists classes of these names alone
abbrev pub HaveListed : List (List ℕ) → List LoadedConfig → Type 0
HaveListed names configs = AllByRecursion (λ loaded. AllByRecursion (Contains names) (class_names loaded.config)) configs

-- the first configuration that lists another class
abbrev pub AreMissing : List (List ℕ) → List LoadedConfig → Broken → Type 0
AreMissing names configs broken = (loaded : LoadedConfig) × (name : List ℕ)
    × IsFirst (λ config. AllByRecursion (Contains names) (class_names config.config))
    (λ config. IsFirst (Contains names) (λ class. Contains names class → ⊥) (class_names config.config) name) configs loaded
    × (broken ≡ broken_at MixinMissing loaded.path (codes "-") name)
