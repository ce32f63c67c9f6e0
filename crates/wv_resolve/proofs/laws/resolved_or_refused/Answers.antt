use Rattle.wv_resolve.proofs.OneAnswer.{resolved-not_broken}
use Rattle.wv_resolve.proofs.laws.resolved_or_refused.Goals as goal

pub returns : goal.returns
returns c = resolved-not_broken
