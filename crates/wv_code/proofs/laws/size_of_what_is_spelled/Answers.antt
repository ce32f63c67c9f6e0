use Rattle.wv_code.proofs.Sizes.{written_size}
use Rattle.wv_code.proofs.laws.size_of_what_is_spelled.Goals as goal

pub returns : goal.returns
returns c = written_size
