use Rattle.wv_config.proofs.Outcome.{loaded-kept}
use Rattle.wv_config.proofs.OneLoading.{kept-not_refused}
use Rattle.wv_config.proofs.laws.configs_loaded_or_refused.Goals as goal

pub returns-clause-kept : goal.returns-clause-kept
returns-clause-kept c = loaded-kept

pub returns-clause-refused : goal.returns-clause-refused
returns-clause-refused c = kept-not_refused
