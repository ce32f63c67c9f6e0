use Rattle.wv_resolve.proofs.OneAnswer.{one-resolved}
use Rattle.wv_resolve.proofs.laws.one_resolution.Goals as goal

pub returns : goal.returns
returns c = one-resolved
