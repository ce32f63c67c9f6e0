use Rattle.std.proofs.Common.{take}
use Rattle.wv_code.specs.Meaning.{AllCasesLead}
use Rattle.wv_code.proofs.target.case_landings.Given as goal

abbrev pub invariant-loop-raw : goal.invariant-loop-raw
invariant-loop-raw l = AllCasesLead l.offsets l.at (take l.raw-index l.raws) l.found
