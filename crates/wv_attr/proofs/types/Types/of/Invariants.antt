use Rattle.std.proofs.Common.{take}
use Rattle.wv_attr.specs.Types.{AreTypes}
use Rattle.wv_attr.proofs.types.Types.of.Given as goal

abbrev pub invariant-loop-entry : goal.invariant-loop-entry
invariant-loop-entry l = AreTypes (take l.entry-index l.entries) l.types.items
