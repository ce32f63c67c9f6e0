-- The classes that mixin configurations list, and the first of them that the folder lacks (Mixin 0.8.5; what is refused
-- is our own).
use Rattle.std.specs.Prelude.{◌≡◌, ℕ, List, ◌++◌, map, All, Contains, codes}
use Rattle.std.specs.List.{AllByRecursion}
use Rattle.wv_base.specs.declared.broken.Broken.{Broken}
use Rattle.wv_base.specs.declared.rule.Rule.TheVariants.{MixinMissing}
use Rattle.wv_classes.specs.declared.folder_class.FolderClass.{FolderClass}
use Rattle.wv_config.specs.declared.config.Config.{Config}
use Rattle.wv_config.specs.declared.loaded.Configs.{Configs}
use Rattle.wv_config.specs.declared.loaded.LoadedConfig.{LoadedConfig}
use Rattle.wv_config.specs.Slashes.{class_of}
use Rattle.wv_resolve.specs.Refusal.{IsFirst, broken_at}
use Rattle.wv_resolve.specs.Resolution.{IsOrderedBy}
use Rattle.wv_front.specs.Places.{folder_name}

-- all configurations, whether used or not
abbrev pub all_configs : Configs → List LoadedConfig
all_configs configs = configs.used.items ++ configs.others.items

abbrev pub path_of : LoadedConfig → List ℕ
path_of config = config.path

-- the classes that a configuration lists, in the order of its lists
abbrev pub class_names : Config → List (List ℕ)
class_names config = map (class_of config.«package») (config.mixins ++ config.client ++ config.server)

-- the folder has a class of this name
abbrev pub IsOfFolder : List FolderClass → List ℕ → Type 0
IsOfFolder classes name = Contains (map folder_name classes) name

-- the folder has each class that the configuration lists
abbrev pub HasListed : List FolderClass → LoadedConfig → Type 0
HasListed classes loaded = AllByRecursion (IsOfFolder classes) (class_names loaded.config)

-- the folder has each class that some configuration lists
abbrev pub AreListed : Configs → List FolderClass → Type 0
AreListed configs classes = All (HasListed classes) (all_configs configs)

-- of the classes that the configuration lists, this is the first that the folder lacks
abbrev pub LacksListed : List FolderClass → List ℕ → LoadedConfig → Type 0
LacksListed classes name loaded =
    IsFirst (IsOfFolder classes) (λ class. IsOfFolder classes class → ⊥) (class_names loaded.config) name

-- rule 24: of the configurations by their paths, this is the first that lists a class that the folder lacks
pub record IsFirstMissing (configs : Configs) (classes : List FolderClass) (broken : Broken) : Type 0 where
  pub ordered : List LoadedConfig
  pub by_path : IsOrderedBy path_of (all_configs configs) ordered
  pub loaded : LoadedConfig
  pub name : List ℕ
  pub first : IsFirst (HasListed classes) (LacksListed classes name) ordered loaded
  pub is : broken ≡ broken_at MixinMissing loaded.path (codes "-") name
