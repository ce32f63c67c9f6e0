use Rattle.std.proofs.Common.{◌≡◌, take}
use Rattle.wv_base.specs.Modified.{spelling}
use Rattle.wv_base.proofs.modified.to_modified.Given as goal

abbrev pub invariant-loop-unit : goal.invariant-loop-unit
invariant-loop-unit l = l.bytes.items ≡ spelling (take l.unit-index l.unit-items)
