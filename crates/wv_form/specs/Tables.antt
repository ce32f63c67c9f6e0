-- What is looked up of the class files of a folder (our own).
use Rattle.std.specs.Prelude.{◌≡◌, ◌&&◌, ℕ, Bool, false, true, not, List, [], ◌∷◌, map, Option, Some, None}
use Rattle.std.specs.List.{flat_map, list_any}
use Rattle.wv_base.specs.declared.class_file.ClassFile.{ClassFile}
use Rattle.wv_classes.specs.declared.folder_class.FolderClass.{FolderClass}
use Rattle.wv_classes.specs.Roots.{has, HasExactly}
use Rattle.wv_form.specs.declared.kinds.FileKind.{FileKind}
use Rattle.wv_form.specs.declared.kinds.FileKind.TheVariants as kinds
use Rattle.wv_form.specs.declared.kinds.KnownFile.{KnownFile}
use Rattle.wv_form.specs.declared.tables.Tables.{Tables}
use Rattle.wv_form.specs.Mention.{names_other}
use Rattle.wv_form.specs.NamedClasses.{named_classes}
use Rattle.wv_form.specs.Placing.{TellsPlaces, is_elsewhere, place_of}

-- the name of a class file, and its path
abbrev pub name_place : KnownFile → List ℕ × List ℕ
name_place known = (known.file.now.name, known.file.now.path)

-- the name of the target of a mixin, and its path
abbrev pub target_place_of : FileKind → List ℕ → List (List ℕ × List ℕ)
target_place_of (kinds.Mixin class (Some target)) path = (target, path) ∷ []
target_place_of _ path = []

abbrev pub target_places : KnownFile → List (List ℕ × List ℕ)
target_places known = target_place_of known.kind known.file.now.path

-- the name, if a mixin's target may have this class file, or if it is that of a thin mixin
abbrev pub candidate_name_of : FileKind → List ℕ → List (List ℕ)
candidate_name_of kinds.NoClass name = name ∷ []
candidate_name_of (kinds.Thin class) name = name ∷ []
candidate_name_of _ name = []

abbrev pub candidate_names : KnownFile → List (List ℕ)
candidate_names known = candidate_name_of known.kind known.file.now.name

abbrev pub mixin_name_of : FileKind → List ℕ → List (List ℕ)
mixin_name_of (kinds.Mixin class target) name = name ∷ []
mixin_name_of _ name = []

abbrev pub mixin_names : KnownFile → List (List ℕ)
mixin_names known = mixin_name_of known.kind known.file.now.name

-- what is looked up of these class files
pub record AreTables (files : List KnownFile) (tables : Tables) : Type 0 where
  pub names : TellsPlaces (map name_place files) tables.names
  pub targets : TellsPlaces (flat_map target_places files) tables.targets
  pub candidates : HasExactly (flat_map candidate_names files) tables.candidates
  pub mixins : HasExactly (flat_map mixin_names files) tables.mixins

-- whether the target of a mixin at this path may have a class file of the folder, and is of no mixin at another path
abbrev pub is_right : Tables → Option (List ℕ) → List ℕ → Bool
is_right tables None path = false
is_right tables (Some name) path = has tables.candidates name && not (is_elsewhere (place_of tables.targets name) path)

-- whether the class names a mixin which has another name than the class file
abbrev pub names_mixin : Tables → FolderClass → ClassFile → Bool
names_mixin tables file class = list_any (names_other tables.mixins file.name) (named_classes class)

-- the name of the class file stands at no other path, and its class names no such mixin
pub record StandsAlone (tables : Tables) (file : FolderClass) (class : ClassFile) : Type 0 where
  pub once : is_elsewhere (place_of tables.names file.name) file.path ≡ false
  pub unnamed : names_mixin tables file class ≡ false

-- its name stands at another path, or its class names such a mixin
pub data Clashes (tables : Tables) (file : FolderClass) (class : ClassFile) : Type 0 where
  elsewhere : is_elsewhere (place_of tables.names file.name) file.path ≡ true → Clashes tables file class
  named : names_mixin tables file class ≡ true → Clashes tables file class
