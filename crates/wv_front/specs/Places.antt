-- Classes by their names (our own).
use Rattle.std.specs.Prelude.{ℕ, List}
use Rattle.wv_classes.specs.declared.folder_class.FolderClass.{FolderClass}
use Rattle.wv_classes.specs.declared.loaded_class.LoadedClass.{LoadedClass}

-- the name that the path of a class says
abbrev pub folder_name : FolderClass → List ℕ
folder_name class = class.name

abbrev pub loaded_name : LoadedClass → List ℕ
loaded_name class = class.name
