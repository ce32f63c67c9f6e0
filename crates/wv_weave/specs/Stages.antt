-- The rules on an opened folder in their order, and the first that it breaks (our own).
use Rattle.std.specs.Prelude.{List, [], ◌∷◌}
use Rattle.std.specs.List.{AllByRecursion}
use Rattle.wv_base.specs.declared.broken.Broken.{Broken}
use Rattle.wv_base.specs.declared.side.Side.{Side}
use Rattle.wv_base.specs.Folder.{File}
use Rattle.wv_classes.specs.declared.folder_class.FolderClass.{FolderClass}
use Rattle.wv_classes.specs.declared.loaded_class.LoadedClass.{LoadedClass}
use Rattle.wv_classes.specs.FolderClass.{AreFolderClasses}
use Rattle.wv_classes.specs.LoadedClass.{AreLoadedClasses}
use Rattle.wv_classes.specs.Rules as classes
use Rattle.wv_config.specs.declared.loaded.Configs.{Configs}
use Rattle.wv_config.specs.Reading.{AreConfigsKept, IsFirstConfigBroken}
use Rattle.wv_form.specs.Form.{AreOfForm, IsFirstOutOfForm}
use Rattle.wv_front.specs.declared.order.AppliedMixin.{AppliedMixin}
use Rattle.wv_front.specs.Listed.{AreListed, IsFirstMissing}
use Rattle.wv_front.specs.Marked.{AreMarked, IsFirstMarkless}
use Rattle.wv_mod.specs.declared.game_info.GameInfo.{GameInfo}
use Rattle.wv_mod.specs.declared.mod_info.ModInfo.{ModInfo}
use Rattle.wv_resolve.specs.Discovery as mods
use Rattle.wv_weave.specs.FolderMixins.{HasGame, HasMods, HasConfigs, HasMixins, built_in}
use Rattle.wv_weave.specs.Overwrites.{FindAll, IsFirstLacking}

-- what is asked of a folder, one after the other, by the numbers of the rules
pub data Stage : Type 0 where
  -- rule 9
  Form : Stage
  -- rules 10 to 17
  Mods : Stage
  -- rules 20 to 23
  ConfigFiles : Stage
  -- rule 24
  ListedClasses : Stage
  -- rules 30 to 32
  ClassFiles : Stage
  -- rule 40
  Marks : Stage
  -- rule 51
  Overwriting : Stage

abbrev pub stages : List Stage
stages = Form ∷ Mods ∷ ConfigFiles ∷ ListedClasses ∷ ClassFiles ∷ Marks ∷ Overwriting ∷ []

-- the rules of a stage are kept
abbrev pub Keeps : List File → Side → Stage → Type 0
Keeps folder side Form = (files : List FolderClass) × AreFolderClasses folder side files × AreOfForm folder files
Keeps folder side Mods = (game : GameInfo) × HasGame folder game × mods.AreKept (built_in game) folder side
Keeps folder side ConfigFiles = (mods : List ModInfo) × HasMods folder side mods × AreConfigsKept folder side mods
Keeps folder side ListedClasses =
    (configs : Configs) × HasConfigs folder side configs
    × ((files : List FolderClass) × AreFolderClasses folder side files × AreListed configs files)
Keeps folder side ClassFiles = (loaded : List LoadedClass) × AreLoadedClasses folder side loaded
Keeps folder side Marks =
    (configs : Configs) × (loaded : List LoadedClass) × (mixins : List AppliedMixin)
    × HasMixins folder side configs loaded mixins × AreMarked loaded mixins
Keeps folder side Overwriting =
    (configs : Configs) × (loaded : List LoadedClass) × (mixins : List AppliedMixin)
    × HasMixins folder side configs loaded mixins × FindAll loaded mixins

-- this is the first break of the rules of a stage
abbrev pub Breaks : List File → Side → Broken → Stage → Type 0
Breaks folder side broken Form =
    (files : List FolderClass) × AreFolderClasses folder side files × IsFirstOutOfForm folder files broken
Breaks folder side broken Mods =
    (game : GameInfo) × HasGame folder game × mods.IsFirstBroken (built_in game) folder side broken
Breaks folder side broken ConfigFiles =
    (mods : List ModInfo) × HasMods folder side mods × IsFirstConfigBroken folder side mods broken
Breaks folder side broken ListedClasses =
    (configs : Configs) × HasConfigs folder side configs
    × ((files : List FolderClass) × AreFolderClasses folder side files × IsFirstMissing configs files broken)
Breaks folder side broken ClassFiles = classes.IsFirstBroken folder side broken
Breaks folder side broken Marks =
    (configs : Configs) × (loaded : List LoadedClass) × (mixins : List AppliedMixin)
    × HasMixins folder side configs loaded mixins × IsFirstMarkless loaded mixins broken
Breaks folder side broken Overwriting =
    (configs : Configs) × (loaded : List LoadedClass) × (mixins : List AppliedMixin)
    × HasMixins folder side configs loaded mixins × IsFirstLacking loaded mixins broken

-- of stages in their order, the break of the first whose rules aren't kept
pub data IsFirstOf (folder : List File) (side : Side) (broken : Broken) : List Stage → Type 0 where
  here : {stage : Stage} {later : List Stage} → Breaks folder side broken stage → IsFirstOf folder side broken (stage ∷ later)
  behind : {stage : Stage} {later : List Stage} → Keeps folder side stage → IsFirstOf folder side broken later → IsFirstOf folder side broken (stage ∷ later)

-- the first rule that the folder breaks
abbrev pub IsFirstBroken : List File → Side → Broken → Type 0
IsFirstBroken folder side broken = IsFirstOf folder side broken stages

-- the folder breaks none of the rules
abbrev pub NoneBroken : List File → Side → Type 0
NoneBroken folder side = AllByRecursion (Keeps folder side) stages
