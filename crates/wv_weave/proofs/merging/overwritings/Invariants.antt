use Rattle.std.proofs.Common.{take}
use Rattle.wv_weave.specs.Merging.{AreEdits}
use Rattle.wv_weave.specs.Overwrites.{FindAll}
use Rattle.wv_weave.proofs.merging.overwritings.Given as goal

-- what the mixins so far overwrite, each of which finds its method
abbrev pub invariant-loop-mixin : goal.invariant-loop-mixin
invariant-loop-mixin l = AreEdits l.classes (take l.mixin-index l.mixins) l.edits.items × FindAll l.classes (take l.mixin-index l.mixins)
