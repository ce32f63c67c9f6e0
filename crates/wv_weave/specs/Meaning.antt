-- What the written files of a folder mean: they correspond to the classes of the folder under its mixins (Mixin 0.8.5,
-- @Overwrite; the meaning is our own).
use Rattle.std.specs.Prelude.{◌≡◌, ℕ, List, map}
use Rattle.std.specs.List.{AllZip}
use Rattle.wv_base.specs.declared.class_file.ClassFile.{ClassFile}
use Rattle.wv_base.specs.declared.side.Side.{Side}
use Rattle.wv_base.specs.Folder.{File}
use Rattle.wv_class.specs.Meaning.{Spells}
use Rattle.wv_classes.specs.declared.loaded_class.LoadedClass.{LoadedClass}
use Rattle.wv_config.specs.declared.loaded.Configs.{Configs}
use Rattle.wv_front.specs.declared.order.AppliedMixin.{AppliedMixin}
use Rattle.wv_merge.specs.Applied.{applied}
use Rattle.wv_model.specs.FirstMeaning.{MeansHooked}
use Rattle.wv_model.specs.MemberTable.{Applied}
use Rattle.wv_model.specs.PlainMethod.{HasPlainMethods}
use Rattle.wv_weave.specs.FolderMixins.{HasMixins}
use Rattle.wv_weave.specs.Overwrites.{Joins}
use Rattle.wv_weave.specs.WrittenClasses.{AreWrittenClasses}

-- a mixin of the folder as the hook machine knows it, applied to the class that is its target
abbrev pub IsMixinOf : List LoadedClass → AppliedMixin → Applied → Type 0
IsMixinOf loaded mixin model =
    (class : LoadedClass) × (target : LoadedClass) × Joins loaded mixin class target
    × (model ≡ applied target.class class.class)

abbrev pub class_in : LoadedClass → ClassFile
class_in loaded = loaded.class

-- the classes of the folder that are no mixins, by the bytes of the paths under which they are put, and its mixins in
-- their order
pub record AreUnwoven (folder : List File) (side : Side) (classes : List ClassFile) (mixins : List Applied) : Type 0 where
  pub configs : Configs
  pub loaded : List LoadedClass
  pub entries : List AppliedMixin
  pub has_mixins : HasMixins folder side configs loaded entries
  pub kept : List LoadedClass
  pub are_kept : AreWrittenClasses configs loaded kept
  pub classes_are : classes ≡ map class_in kept
  pub mixins_are : AllZip (IsMixinOf loaded) entries mixins

-- the file spells this class, whose methods have plain code that verifies
abbrev pub IsFileOf : File → ClassFile → Type 0
IsFileOf file class = Spells file.1 class × HasPlainMethods class

-- the files are those of one list of classes and of no other, which do what the classes of the folder do under its mixins
pub record MeansFolder (folder : List File) (side : Side) (files : List File) : Type 0 where
  pub classes : List ClassFile
  pub mixins : List Applied
  pub unwoven : AreUnwoven folder side classes mixins
  pub written : List ClassFile
  pub files_of : AllZip IsFileOf files written
  pub only : (others : List ClassFile) → AllZip IsFileOf files others → others ≡ written
  pub means : MeansHooked classes mixins written
