use Rattle.wv_insn.proofs.Directions.{spelled_or_not}
use Rattle.wv_insn.proofs.laws.what_is_encodable.Goals as goal

pub returns : goal.returns
returns c = spelled_or_not
