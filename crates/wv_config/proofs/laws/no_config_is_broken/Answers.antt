use Rattle.wv_config.proofs.Refusals.{config-not_broken}
use Rattle.wv_config.proofs.laws.no_config_is_broken.Goals as goal

pub returns : goal.returns
returns c = config-not_broken
