-- What an opened folder is read as: its game, mods, configurations, classes and mixins (our own).
use Rattle.std.specs.Prelude.{◌≡◌, ℕ, List, ◌∷◌, Some}
use Rattle.wv_base.specs.declared.side.Side.{Side}
use Rattle.wv_base.specs.Folder.{File, content_of}
use Rattle.wv_classes.specs.declared.loaded_class.LoadedClass.{LoadedClass}
use Rattle.wv_classes.specs.LoadedClass.{AreLoadedClasses}
use Rattle.wv_config.specs.declared.loaded.Configs.{Configs}
use Rattle.wv_config.specs.Loading.{AreConfigs}
use Rattle.wv_front.specs.declared.order.AppliedMixin.{AppliedMixin}
use Rattle.wv_front.specs.MixinOrder.{AreApplied, AreOrdered}
use Rattle.wv_mod.specs.declared.game_info.GameInfo.{GameInfo}
use Rattle.wv_mod.specs.declared.mod_info.ModInfo.{ModInfo}
use Rattle.wv_mod.specs.GameInfo.{IsGame}
use Rattle.wv_resolve.specs.Discovery.{AreLoadedMods}
use Rattle.wv_resolve.specs.Presence.{game_path}

-- the game that the folder describes
abbrev pub HasGame : List File → GameInfo → Type 0
HasGame folder game = (content : List ℕ) × (content_of game_path folder ≡ Some content) × IsGame content game

-- the game's id and what is built in, with their versions
abbrev pub built_in : GameInfo → List (List ℕ × List ℕ)
built_in game = (game.id, game.version) ∷ game.builtin

-- the loaded mods of the folder
abbrev pub HasMods : List File → Side → List ModInfo → Type 0
HasMods folder side mods = (game : GameInfo) × HasGame folder game × AreLoadedMods (built_in game) folder side mods

-- the configurations that they name
abbrev pub HasConfigs : List File → Side → Configs → Type 0
HasConfigs folder side configs = (mods : List ModInfo) × HasMods folder side mods × AreConfigs folder side mods configs

-- the configurations of the folder, its classes by their paths, and the mixins that are applied in their order
pub record HasMixins (folder : List File) (side : Side) (configs : Configs) (classes : List LoadedClass) (mixins : List AppliedMixin) : Type 0 where
  pub configs_are : HasConfigs folder side configs
  pub classes_are : AreLoadedClasses folder side classes
  pub applied : AreApplied configs.used.items classes side mixins
  pub ordered : AreOrdered mixins
