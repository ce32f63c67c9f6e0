use Rattle.std.proofs.Common.{◌≡◌, take}
use Rattle.wv_class.specs.Laid.{AreLaid}
use Rattle.wv_class.proofs.limits.layouts.Given as goal

abbrev pub invariant-loop-method : goal.invariant-loop-method
invariant-loop-method l = record {
  same : l.pool ≡ l.initial.pool;
  laid : AreLaid l.initial.pool (take l.method-index l.class.methods) l.found.items;
}
