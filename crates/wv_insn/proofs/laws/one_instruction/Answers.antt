use Rattle.wv_insn.proofs.Directions.{one_spelling}
use Rattle.wv_insn.proofs.laws.one_instruction.Goals as goal

pub returns : goal.returns
returns c = one_spelling
