use Rattle.wv_resolve.proofs.OneAnswer.{one-refusal}
use Rattle.wv_resolve.proofs.laws.one_refusal.Goals as goal

pub returns : goal.returns
returns c = one-refusal
