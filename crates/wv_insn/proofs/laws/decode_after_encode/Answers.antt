use Rattle.wv_insn.proofs.Directions.{encoded_stands}
use Rattle.wv_insn.proofs.laws.decode_after_encode.Goals as goal

pub returns : goal.returns
returns c = encoded_stands
