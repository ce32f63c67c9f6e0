use Rattle.wv_front.proofs.OneMissing.{one-missing}
use Rattle.wv_front.proofs.laws.one_missing.Goals as goal

pub returns : goal.returns
returns c = one-missing
