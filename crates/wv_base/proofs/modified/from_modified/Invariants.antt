use Rattle.std.proofs.Common.{length}
use Rattle.wv_base.proofs.NameSpelling.{HasRead}
use Rattle.wv_base.proofs.modified.from_modified.Given as goal

abbrev pub invariant-loop-rest : goal.invariant-loop-rest
invariant-loop-rest l = HasRead l.bytes l.units.items l.rest

abbrev pub decreases-loop-rest : goal.decreases-loop-rest
decreases-loop-rest l = length l.rest
