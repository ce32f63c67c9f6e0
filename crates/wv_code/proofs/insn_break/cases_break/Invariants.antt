use Rattle.std.proofs.Common.{take}
use Rattle.wv_code.specs.Least.{IsLeastOf, InItems}
use Rattle.wv_code.specs.Checking.{CaseBreaks}
use Rattle.wv_code.proofs.insn_break.cases_break.Given as goal

abbrev pub invariant-loop-k : goal.invariant-loop-k
invariant-loop-k l = IsLeastOf (InItems (take l.k l.cases) (CaseBreaks l.offsets l.at l.cases l.base)) l.first
