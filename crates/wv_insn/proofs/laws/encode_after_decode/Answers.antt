use Rattle.wv_insn.proofs.Directions.{same_but_padding}
use Rattle.wv_insn.proofs.laws.encode_after_decode.Goals as goal

pub returns : goal.returns
returns c = same_but_padding
