use Rattle.wv_classes.proofs.Loading.{one-first}
use Rattle.wv_classes.proofs.laws.one_refusal.Goals as goal

pub returns : goal.returns
returns c = one-first
