use Rattle.wv_insn.proofs.Directions.{before_fault, behind_fault}
use Rattle.wv_insn.proofs.laws.what_a_first_fault_is.Goals as goal

pub returns-clause-before : goal.returns-clause-before
returns-clause-before c = before_fault

pub returns-clause-behind : goal.returns-clause-behind
returns-clause-behind c = behind_fault
