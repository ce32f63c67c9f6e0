use Rattle.std.proofs.Common.{take, flat_map}
use Rattle.wv_resolve.specs.Holding.{Holds, source_presences}
use Rattle.wv_resolve.proofs.present.Present.read.Given as goal

-- the table holds the sources so far
abbrev pub invariant-loop-source : goal.invariant-loop-source
invariant-loop-source l = Holds (flat_map source_presences (take l.source-index l.sources)) l.present
