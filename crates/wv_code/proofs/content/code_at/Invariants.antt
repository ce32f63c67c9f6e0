use Rattle.std.proofs.Common.{◌-◌, length}
use Rattle.wv_code.proofs.CodeLoop.{Going}
use Rattle.wv_code.proofs.content.code_at.Given as goal

abbrev pub invariant-loop-at : goal.invariant-loop-at
invariant-loop-at l = Going l.bytes l.tail l.missing l.at l.raws l.offsets

abbrev pub decreases-loop-at : goal.decreases-loop-at
decreases-loop-at l = length l.bytes - l.at
