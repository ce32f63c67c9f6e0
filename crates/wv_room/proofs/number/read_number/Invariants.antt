use Rattle.wv_room.proofs.Fronts.{Reading}
use Rattle.wv_room.proofs.number.read_number.Given as goal

abbrev pub invariant-loop-place : goal.invariant-loop-place
invariant-loop-place g l = Reading (g.A.Allows.allows l.allowed) l.width l.bytes l.place l.least l.span
