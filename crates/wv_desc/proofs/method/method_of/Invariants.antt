use Rattle.std.proofs.Common.{length}
use Rattle.wv_desc.proofs.Reading.{HasRead}
use Rattle.wv_desc.proofs.method.method_of.Given as goal

abbrev pub invariant-loop-after : goal.invariant-loop-after
invariant-loop-after l = HasRead l.units l.parameters.items l.rest

abbrev pub decreases-loop-after : goal.decreases-loop-after
decreases-loop-after l = length l.rest
