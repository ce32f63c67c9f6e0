use Rattle.wv_config.proofs.OneLoading.{one-loading}
use Rattle.wv_config.proofs.laws.one_configs_loading.Goals as goal

pub returns : goal.returns
returns c = one-loading
