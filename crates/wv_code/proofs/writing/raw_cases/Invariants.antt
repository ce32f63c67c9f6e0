use Rattle.std.proofs.Common.{take}
use Rattle.wv_code.specs.Meaning.{AllCasesLead}
use Rattle.wv_code.proofs.writing.raw_cases.Given as goal

abbrev pub invariant-loop-case : goal.invariant-loop-case
invariant-loop-case l = AllCasesLead l.offsets l.at l.found (take l.case-index l.cases)
