use Rattle.std.proofs.Common.{take}
use Rattle.wv_code.specs.Meaning.{AllLead}
use Rattle.wv_code.proofs.target.landings.Given as goal

abbrev pub invariant-loop-distance : goal.invariant-loop-distance
invariant-loop-distance l = AllLead l.offsets l.at (take l.distance-index l.distances) l.found
