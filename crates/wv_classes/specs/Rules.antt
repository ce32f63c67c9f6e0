-- The first of the rules on class files that is broken (our own).
use Rattle.std.specs.Prelude.{◌≡◌, ◌⊎◌, ℕ, ◌<◌, ◌≤◌, List, ◌∷◌, ◌++◌}
use Rattle.std.specs.List.{AllByRecursion}
use Rattle.wv_base.specs.declared.broken.Broken.{Broken}
use Rattle.wv_base.specs.declared.side.Side.{Side}
use Rattle.wv_base.specs.Folder.{File}
use Rattle.wv_base.specs.Rule.{number_of}
use Rattle.wv_resolve.specs.Finding.{IsBrokenBefore}
use Rattle.wv_classes.specs.declared.fault.ClassesFault.{ClassesFault}
use Rattle.wv_classes.specs.declared.fault.ClassesFault.TheVariants as fault
use Rattle.wv_classes.specs.declared.folder_class.FolderClass.{FolderClass}
use Rattle.wv_classes.specs.FolderClass.{IsFolderClass}
use Rattle.wv_classes.specs.Refusal.{IsBadClass, HasOtherVersion, HasOtherName}

-- the class file breaks one of the rules 30 to 32
abbrev pub Breaks : FolderClass → Broken → Type 0
Breaks file broken = IsBadClass file broken ⊎ HasOtherVersion file broken ⊎ HasOtherName file broken

-- ---- In a folder

-- a class file of the folder breaks one of the rules
abbrev pub IsBrokenIn : List File → Side → Broken → Type 0
IsBrokenIn folder side broken = (file : FolderClass) × IsFolderClass folder side file × Breaks file broken

-- of the rules that class files of the folder break, the one with the least number, at the first path at which it is
-- broken
pub record IsFirstBroken (folder : List File) (side : Side) (broken : Broken) : Type 0 where
  pub here : IsBrokenIn folder side broken
  pub first : (other : Broken) → IsBrokenIn folder side other → IsBrokenBefore other broken → ⊥

-- ---- In a list

-- all that the class file breaks has a greater number, or none less
abbrev pub BreaksAbove : ℕ → FolderClass → Type 0
BreaksAbove number file = (other : Broken) → Breaks file other → number < number_of other.rule

abbrev pub BreaksFrom : ℕ → FolderClass → Type 0
BreaksFrom number file = (other : Broken) → Breaks file other → number ≤ number_of other.rule

-- of the rules that a class file breaks, the one with the least number
abbrev pub IsLeastOf : FolderClass → Broken → Type 0
IsLeastOf file broken = Breaks file broken × BreaksFrom (number_of broken.rule) file

-- of the rules that these class files break, the one with the least number, at the first of them that breaks it
pub record IsLeastBreak (files : List FolderClass) (broken : Broken) : Type 0 where
  pub before : List FolderClass
  pub file : FolderClass
  pub after : List FolderClass
  pub split : files ≡ before ++ file ∷ after
  pub here : IsLeastOf file broken
  pub earlier : AllByRecursion (BreaksAbove (number_of broken.rule)) before
  pub later : AllByRecursion (BreaksFrom (number_of broken.rule)) after

-- a broken rule, or want of memory
abbrev pub IsBrokenFault : (Broken → Type 0) → ClassesFault → Type 0
IsBrokenFault Is (fault.Broken broken) = Is broken
IsBrokenFault Is fault.Memory = Unit {0}
