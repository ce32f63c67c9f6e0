-- What is read of an opened folder before its mixins are merged (our own).
use Rattle.std.specs.Prelude.{List, [], ◌∷◌}
use Rattle.std.specs.List.{AllByRecursion}
use Rattle.wv_base.specs.declared.side.Side.{Side}
use Rattle.wv_base.specs.Folder.{File}
use Rattle.wv_front.specs.Marked.{AreMarked}
use Rattle.wv_weave.specs.declared.front.Front.{Front}
use Rattle.wv_weave.specs.FolderMixins.{HasMixins}
use Rattle.wv_weave.specs.Stages.{Stage, Keeps, Form, Mods, ConfigFiles, ListedClasses, ClassFiles, Marks}

-- the folder is read as these classes and mixins, and the class of each mixin has its mark
pub record IsFront (folder : List File) (side : Side) (front : Front) : Type 0 where
  pub has_mixins : HasMixins folder side front.configs front.classes.items front.mixins.items
  pub marked : AreMarked front.classes.items front.mixins.items

-- the stages before the last
abbrev pub front_stages : List Stage
front_stages = Form ∷ Mods ∷ ConfigFiles ∷ ListedClasses ∷ ClassFiles ∷ Marks ∷ []

abbrev pub KeepsFront : List File → Side → Type 0
KeepsFront folder side = AllByRecursion (Keeps folder side) front_stages
