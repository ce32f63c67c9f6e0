-- What is found of class files as they are checked in turn (our own).
use Rattle.std.specs.Prelude.{List, MatchOption}
use Rattle.std.specs.List.{AllZip}
use Rattle.wv_classes.specs.declared.checking.Checking.{Checking}
use Rattle.wv_classes.specs.declared.folder_class.FolderClass.{FolderClass}
use Rattle.wv_classes.specs.LoadedClass.{IsLoadedAs}
use Rattle.wv_classes.specs.Rules.{IsLeastBreak}

-- the class of each, as long as none breaks a rule, and else the first rule that they break
abbrev pub IsCheckingOf : List FolderClass → Checking → Type 0
IsCheckingOf files checking =
    MatchOption checking.first (AllZip IsLoadedAs files checking.loaded.items) (IsLeastBreak files)
