use Rattle.std.proofs.Common.{◌≡◌, ◌≤◌, length, take}
use Rattle.wv_base.specs.Modified.{spelling}
use Rattle.wv_pool.proofs.length.text_len.Given as goal

abbrev pub invariant-loop-unit : goal.invariant-loop-unit
invariant-loop-unit l = record {
  measured : l.len ≡ length (spelling (take l.unit-index l.unit-items));
  small : l.len ≤ 65535;
}
