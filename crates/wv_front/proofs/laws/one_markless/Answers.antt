use Rattle.wv_front.proofs.OneMark.{one-markless}
use Rattle.wv_front.proofs.laws.one_markless.Goals as goal

pub returns : goal.returns
returns c = one-markless
