-- What is read on the way to the configurations of mods, and the first rule that it breaks (our own).
use Rattle.std.specs.Prelude.{◌≡◌, ◌⊎◌, ◌<◌, Bool, true, false, List, All, Any, AllPairs, MatchOption}
use Rattle.wv_base.specs.declared.broken.Broken.{Broken}
use Rattle.wv_base.specs.Folder.{File, IsPathBefore}
use Rattle.wv_base.specs.Rule.{number_of}
use Rattle.wv_config.specs.declared.loaded.LoadedConfig.{LoadedConfig}
use Rattle.wv_config.specs.declared.loaded.Configs.{Configs}
use Rattle.wv_config.specs.declared.loading.Reading.{Reading}
use Rattle.wv_config.specs.declared.naming.Entry.{Entry}
use Rattle.wv_config.specs.Entries.{AreChosen}
use Rattle.wv_config.specs.Loading.{IsReadFrom}
use Rattle.wv_config.specs.Reading.{IsFlaw}

-- the configuration at the entry was read
pub record IsLoadedOf (files : List File) (entry : Entry) (config : LoadedConfig) : Type 0 where
  pub path : config.path ≡ entry.path
  pub mod_place : config.mod_place ≡ entry.mod_place
  pub place : config.place ≡ entry.place
  pub read : IsReadFrom files entry.folder.now config

-- the configurations at the entries of one kind were read, in their order
pub record AreLoadedOf (files : List File) (used : Bool) (entries : List Entry) (configs : List LoadedConfig) : Type 0 where
  pub ordered : AllPairs (λ config later. IsPathBefore config.path later.path) configs
  pub each : All (λ config. Any (λ entry. (entry.is_used ≡ used) × IsLoadedOf files entry config) entries) configs
  pub all : All (λ entry. entry.is_used ≡ used → Any (IsLoadedOf files entry) configs) entries

-- what the configuration at an entry breaks
abbrev pub IsFlawAt : List File → Entry → Broken → Type 0
IsFlawAt files entry broken = IsFlaw files entry.folder.now entry.path broken

-- one of the configurations breaks a rule
abbrev pub IsFlawAmong : List File → List Entry → Broken → Type 0
IsFlawAmong files entries broken = Any (λ entry. IsFlawAt files entry broken) entries

-- by the number of the rule, and of the same rule by the bytes of the path
abbrev pub IsBrokenBefore : Broken → Broken → Type 0
IsBrokenBefore broken other =
    (number_of broken.rule < number_of other.rule)
    ⊎ ((number_of broken.rule ≡ number_of other.rule) × IsPathBefore broken.place.file other.place.file)

-- the first of what the configurations break
pub record IsFirstFlaw (files : List File) (entries : List Entry) (broken : Broken) : Type 0 where
  pub here : IsFlawAmong files entries broken
  pub first : (other : Broken) → IsFlawAmong files entries other → IsBrokenBefore other broken → ⊥

-- the configurations at the entries were read, those that are used and the others
pub record AreRead (files : List File) (entries : List Entry) (used others : List LoadedConfig) : Type 0 where
  pub used_read : AreLoadedOf files true entries used
  pub others_read : AreLoadedOf files false entries others

-- what was read so far: the configurations, as long as none breaks a rule, and else the first rule that they break
abbrev pub IsReadingOf : List File → List Entry → Reading → Type 0
IsReadingOf files entries reading =
    MatchOption reading.first (AreRead files entries reading.used.items reading.others.items) (IsFirstFlaw files entries)

-- of these entries the configurations at the chosen ones were read
abbrev pub AreReadOf : List File → List Entry → Configs → Type 0
AreReadOf files entries configs =
    (chosen : List Entry) × AreChosen entries chosen × AreRead files chosen configs.used.items configs.others.items

-- the first of what the configurations at the chosen ones break
abbrev pub IsFirstFlawOf : List File → List Entry → Broken → Type 0
IsFirstFlawOf files entries broken = (chosen : List Entry) × AreChosen entries chosen × IsFirstFlaw files chosen broken
