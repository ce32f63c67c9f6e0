use Rattle.std.proofs.Common.{take}
use Rattle.wv_code.specs.Meaning.{AllLead}
use Rattle.wv_code.proofs.writing.distances.Given as goal

abbrev pub invariant-loop-to : goal.invariant-loop-to
invariant-loop-to l = AllLead l.offsets l.at l.found (take l.to-index l.targets)
