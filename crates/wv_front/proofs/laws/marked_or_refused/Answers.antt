use Rattle.wv_front.proofs.OneMark.{marked-not_markless}
use Rattle.wv_front.proofs.laws.marked_or_refused.Goals as goal

pub returns : goal.returns
returns c = marked-not_markless
