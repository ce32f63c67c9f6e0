-- The stage behind the front, and all stages.
use Rattle.std.proofs.Common.{List}
use Rattle.wv_base.specs.declared.broken.Broken.{Broken}
use Rattle.wv_base.specs.declared.side.Side.{Side}
use Rattle.wv_base.specs.Folder.{File}
use Rattle.wv_weave.specs.FrontRead.{KeepsFront}
use Rattle.wv_weave.specs.Stages.{Breaks, IsFirstBroken, Keeps, NoneBroken, Overwriting, behind, here}

pub none-broken : (folder : List File) (side : Side) → KeepsFront folder side → Keeps folder side Overwriting → NoneBroken folder side
none-broken folder side k overwrites = (k.0, (k.1.0, (k.1.1.0, (k.1.1.1.0, (k.1.1.1.1.0, (k.1.1.1.1.1.0, (overwrites, tt)))))))

pub last-broken : (folder : List File) (side : Side) (broken : Broken) → KeepsFront folder side → Breaks folder side broken Overwriting → IsFirstBroken folder side broken
last-broken folder side broken k breaks =
    behind k.0 (behind k.1.0 (behind k.1.1.0 (behind k.1.1.1.0 (behind k.1.1.1.1.0 (behind k.1.1.1.1.1.0 (here breaks))))))
