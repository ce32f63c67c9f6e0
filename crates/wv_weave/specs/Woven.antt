-- What a folder is woven to (Mixin 0.8.5; the counts are our own).
use Rattle.std.specs.Prelude.{◌≡◌, ℕ, Bool, List, length, Option, Some, None, true, false}
use Rattle.std.specs.List.{AllZip, count_by}
use Rattle.wv_base.specs.declared.side.Side.{Side}
use Rattle.wv_base.specs.Folder.{File, content_of}
use Rattle.wv_classes.specs.declared.loaded_class.LoadedClass.{LoadedClass}
use Rattle.wv_config.specs.declared.loaded.Configs.{Configs}
use Rattle.wv_front.specs.declared.order.AppliedMixin.{AppliedMixin}
use Rattle.wv_merge.specs.Written.{IsWritten}
use Rattle.wv_weave.specs.declared.weaver.Woven.{Woven}
use Rattle.wv_weave.specs.FolderMixins.{HasMixins}
use Rattle.wv_weave.specs.WrittenClasses.{AreWritten, WrittenClass, written_path}

-- the bytes of a class that is written: those that were read where no mixin is applied to it, and else those of the
-- class that the mixin makes of it
abbrev pub IsContentOf : List File → LoadedClass → Option LoadedClass → List ℕ → Type 0
IsContentOf folder class None content = content_of class.path folder ≡ Some content
IsContentOf folder class (Some mixin) content = IsWritten class.class mixin.class content

-- the file of a class that is written
abbrev pub IsFileOf : List File → WrittenClass → File → Type 0
IsFileOf folder written file =
    (file.0 ≡ written_path written.class) × IsContentOf folder written.class written.mixin file.1

-- whether a mixin is applied to the class
abbrev pub is_edited : WrittenClass → Bool
is_edited written = has_mixin written.mixin
  where
    has_mixin : Option LoadedClass → Bool
    has_mixin None = false
    has_mixin (Some class) = true

-- what a folder is woven to: a file for each class that is written; how many of these a mixin edits, how many mixins are
-- applied, and no hooks
pub record IsWoven (folder : List File) (side : Side) (woven : Woven) : Type 0 where
  pub configs : Configs
  pub loaded : List LoadedClass
  pub applied : List AppliedMixin
  pub has_mixins : HasMixins folder side configs loaded applied
  pub written : List WrittenClass
  pub are_written : AreWritten configs loaded applied written
  pub files : AllZip (IsFileOf folder) written woven.files
  pub edited : woven.edited ≡ count_by is_edited written
  pub mixins : woven.mixins ≡ length applied
  pub hooks : woven.hooks ≡ 0
