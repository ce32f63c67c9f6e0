use Rattle.wv_front.proofs.OneMissing.{listed-not_missing}
use Rattle.wv_front.proofs.laws.listed_or_refused.Goals as goal

pub returns : goal.returns
returns c = listed-not_missing
