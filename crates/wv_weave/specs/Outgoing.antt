-- Classes on their way out: those that are written, and their files (our own).
use Rattle.std.specs.Prelude.{◌≡◌, ℕ, Bool, true, false, List, [], ◌∷◌, Option, Some, None}
use Rattle.wv_base.specs.declared.class_file.ClassFile.{ClassFile}
use Rattle.wv_base.specs.Folder.{File, content_of}
use Rattle.wv_classes.specs.declared.loaded_class.LoadedClass.{LoadedClass}
use Rattle.wv_config.specs.declared.loaded.Configs.{Configs}
use Rattle.wv_merge.specs.declared.overwriting.Overwriting.{Overwriting}
use Rattle.wv_merge.specs.Overwriting.{IsOverwriting}
use Rattle.wv_merge.specs.ThinClass.{IsReadThin}
use Rattle.wv_merge.specs.Written.{IsWritten}
use Rattle.wv_model.specs.PlainCode.{Game, Mixin}
use Rattle.wv_weave.specs.declared.outgoing.Outgoing.{Outgoing}
use Rattle.wv_weave.specs.WrittenClasses.{IsMixinName, written_path}

abbrev pub path_of : Outgoing → List ℕ
path_of outgoing = outgoing.path

-- whether a mixin overwrites something in the class
abbrev pub is_some_edit : Option Overwriting → Bool
is_some_edit None = false
is_some_edit (Some overwriting) = true

abbrev pub is_changed : Outgoing → Bool
is_changed outgoing = is_some_edit outgoing.overwriting

-- the class under the path where it is put, with what is overwritten in it
abbrev pub going_of : LoadedClass → Option Overwriting → Outgoing
going_of class edit = record { path = written_path class; class = class; overwriting = edit }

-- those of the classes that are no mixins, each with what is overwritten in it
pub data AreKept (configs : Configs) : List LoadedClass → List (Option Overwriting) → List Outgoing → Type 0 where
  none : AreKept configs [] [] []
  left : {class : LoadedClass} {classes : List LoadedClass} {edit : Option Overwriting} {edits : List (Option Overwriting)} {kept : List Outgoing}
      → IsMixinName configs class.name → AreKept configs classes edits kept → AreKept configs (class ∷ classes) (edit ∷ edits) kept
  next : {class : LoadedClass} {classes : List LoadedClass} {edit : Option Overwriting} {edits : List (Option Overwriting)} {kept : List Outgoing}
      → (IsMixinName configs class.name → ⊥) → AreKept configs classes edits kept
      → AreKept configs (class ∷ classes) (edit ∷ edits) (going_of class edit ∷ kept)

-- a thin mixin overwrites this in the thin class
abbrev pub IsOfThin : ClassFile → Overwriting → Type 0
IsOfThin class overwriting =
    IsReadThin Game class × ((mixin : ClassFile) × IsReadThin Mixin mixin × IsOverwriting class mixin overwriting)

-- the class has bytes in the folder, or a mixin makes them
abbrev pub HasBytes : List File → LoadedClass → Option Overwriting → Type 0
HasBytes folder class None = (content : List ℕ) × (content_of class.path folder ≡ Some content)
HasBytes folder class (Some overwriting) = IsOfThin class.class overwriting

abbrev pub CanBeWritten : List File → Outgoing → Type 0
CanBeWritten folder outgoing = HasBytes folder outgoing.class outgoing.overwriting

-- the bytes are those that were read, or those that any thin mixin makes that overwrites this
abbrev pub IsContentFrom : List File → LoadedClass → Option Overwriting → List ℕ → Type 0
IsContentFrom folder class None content = content_of class.path folder ≡ Some content
IsContentFrom folder class (Some overwriting) content =
    (mixin : ClassFile) → IsReadThin Mixin mixin → IsOverwriting class.class mixin overwriting → IsWritten class.class mixin content

abbrev pub IsFileFrom : List File → Outgoing → File → Type 0
IsFileFrom folder outgoing file =
    (file.0 ≡ outgoing.path) × IsContentFrom folder outgoing.class outgoing.overwriting file.1
