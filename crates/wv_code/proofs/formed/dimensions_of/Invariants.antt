use Rattle.std.proofs.Common.{◌≡◌, ◌+◌, drop}
use Rattle.wv_code.specs.Formed.{dimensions_of}
use Rattle.wv_code.proofs.formed.dimensions_of.Given as goal

abbrev pub invariant-loop-unit : goal.invariant-loop-unit
invariant-loop-unit l = record {
  so_far : l.count ≡ l.unit-index;
  whole : dimensions_of l.class ≡ l.unit-index + dimensions_of (drop l.unit-index l.class);
}
