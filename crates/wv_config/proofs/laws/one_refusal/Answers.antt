use Rattle.wv_config.proofs.Refusals.{same_refusal}
use Rattle.wv_config.proofs.laws.one_refusal.Goals as goal

pub returns : goal.returns
returns c = same_refusal
