-- Which rule of a folder is broken, or what the folder is woven to (our own).
use Rattle.std.specs.Prelude.{⊤, ◌⊎◌, List, Result, Ok, Err}
use Rattle.wv_base.specs.Folder.{File}
use Rattle.wv_base.specs.declared.broken.Broken.{Broken}
use Rattle.wv_base.specs.declared.side.Side.{Side}
use Rattle.wv_front.specs.FilesRead.{IsReadOf, AreOpened, IsFirstOfFiles}
use Rattle.wv_front.specs.declared.fault.WeaveFault.{WeaveFault}
use Rattle.wv_front.specs.declared.fault.WeaveFault.TheVariants as faults
use Rattle.wv_weave.specs.Meaning.{MeansFolder}
use Rattle.wv_weave.specs.Stages.{IsFirstBroken, NoneBroken}
use Rattle.wv_weave.specs.Woven.{IsWoven}
use Rattle.wv_weave.specs.declared.weaver.Woven.{Woven}

-- the folder that is read of the files is such
abbrev pub WhereRead : List File → (List File → Type 0) → Type 0
WhereRead files IsSuch = (folder : List File) × IsReadOf files folder × IsSuch folder

-- the first rule that the files break on a side: one of the opening rules, or one that the folder that is read breaks
abbrev pub FirstBrokenOf : List File → Side → Broken → Type 0
FirstBrokenOf files side broken =
    IsFirstOfFiles files broken ⊎ (AreOpened files × WhereRead files (λ folder. IsFirstBroken folder side broken))

-- the files break a rule
abbrev pub SomeBrokenOf : List File → Side → Type 0
SomeBrokenOf files side = (broken : Broken) × FirstBrokenOf files side broken

-- the files break no rule
abbrev pub NoneBrokenOf : List File → Side → Type 0
NoneBrokenOf files side = AreOpened files × WhereRead files (λ folder. NoneBroken folder side)

-- what the files are woven to
abbrev pub IsWovenOf : List File → Side → Woven → Type 0
IsWovenOf files side woven = WhereRead files (λ folder. IsWoven folder side woven)

-- the written files do what the classes of the files do under their mixins
abbrev pub MeansOf : List File → Side → List File → Type 0
MeansOf files side written = WhereRead files (λ folder. MeansFolder folder side written)

-- what the files are woven to, which break no rule
pub record AreWovenTo (files : List File) (side : Side) (woven : Woven) : Type 0 where
  pub none : NoneBrokenOf files side
  pub meets : IsWovenOf files side woven
  pub means : MeansOf files side woven.files

-- what the files are woven to where they break no rule, and otherwise the first broken rule; want of memory is the free
-- answer
abbrev pub Weaves : List File → Side → Result Woven WeaveFault → Type 0
Weaves files side (Ok woven) = AreWovenTo files side woven
Weaves files side (Err (faults.Broken broken)) = FirstBrokenOf files side broken
Weaves files side (Err faults.Memory) = ⊤
