-- What a weave of the folder that is read answers of the files that it is read of.
use Rattle.std.proofs.Common.{List, Result, Ok, Err, IfOk, IfErr, OnOk, inl, inr}
use Rattle.wv_base.specs.Folder.{File}
use Rattle.wv_base.specs.declared.side.Side.{Side}
use Rattle.wv_front.specs.FilesRead.{IsReadOf}
use Rattle.wv_front.specs.Opening.{AreWithin, PassesAt, IsOpened, IsFirstUnopened, IsFirstCut, IsBrokenFault}
use Rattle.wv_front.specs.declared.fault.WeaveFault.{WeaveFault}
use Rattle.wv_front.specs.declared.fault.WeaveFault.TheVariants as faults
use Rattle.wv_front.specs.declared.limit.Cut.{Cut}
use Rattle.wv_front.proofs.FilesOpened.{whole-opened, whole-first, cut-first}
use Rattle.wv_weave.specs.Meaning.{MeansFolder}
use Rattle.wv_weave.specs.Stages.{IsFirstBroken, NoneBroken}
use Rattle.wv_weave.specs.Woven.{IsWoven}
use Rattle.wv_weave.specs.declared.weaver.Woven.{Woven}
use Rattle.wv_top.specs.Rules.{Weaves}

-- where the reading ended early, it is refused
pub weaves_cut : (files folder : List File) (side : Side) (cut : Cut) (fault : WeaveFault) → IsReadOf files folder → PassesAt files cut.path cut.limit → IsBrokenFault (IsFirstCut folder cut) fault → Weaves files side (Err fault)
weaves_cut files folder side cut (faults.Broken broken) read passes first = inl (cut-first files folder cut read passes broken first)
weaves_cut files folder side cut faults.Memory read passes first = tt

module _ (files folder : List File) (side : Side) (read : IsReadOf files folder) (within : AreWithin files) where
  -- where it isn't opened, that is refused
  pub weaves_unopened : (fault : WeaveFault) → IsBrokenFault (IsFirstUnopened folder) fault → Weaves files side (Err fault)
  weaves_unopened (faults.Broken broken) first = inl (whole-first files folder read within broken first)
  weaves_unopened faults.Memory first = tt

  -- otherwise it is the weave's answer
  pub weaves_opened : (result : Result Woven WeaveFault) → IsOpened folder → OnOk result (NoneBroken folder side) → IfOk result (IsWoven folder side) → IfOk result (λ woven. MeansFolder folder side woven.files) → IfErr result (IsBrokenFault (IsFirstBroken folder side)) → Weaves files side result
  weaves_opened (Ok woven) opened kept meets means broken = record {
    none = (whole-opened files folder read within opened, (folder, read, kept));
    meets = (folder, read, meets);
    means = (folder, read, means);
  }
  weaves_opened (Err (faults.Broken rule)) opened kept meets means broken =
      inr (whole-opened files folder read within opened, (folder, read, broken))
  weaves_opened (Err faults.Memory) opened kept meets means broken = tt
