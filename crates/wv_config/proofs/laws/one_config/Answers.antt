use Rattle.wv_config.proofs.OneConfig.{same_config}
use Rattle.wv_config.proofs.laws.one_config.Goals as goal

pub returns : goal.returns
returns c = same_config
