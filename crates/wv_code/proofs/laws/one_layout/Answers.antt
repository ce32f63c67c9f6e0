use Rattle.wv_code.proofs.Written.{one_stand}
use Rattle.wv_code.proofs.laws.one_layout.Goals as goal

pub returns : goal.returns
returns c = λ pool. one_stand pool 0
