use Rattle.wv_config.proofs.OneLoading.{one-first_broken}
use Rattle.wv_config.proofs.laws.one_first_config_broken.Goals as goal

pub returns : goal.returns
returns c = one-first_broken
