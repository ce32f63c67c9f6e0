use Rattle.wv_front.proofs.Limits.{one-passing}
use Rattle.wv_front.proofs.opening_laws.one_passing.Goals as goal

pub returns : goal.returns
returns c = one-passing
