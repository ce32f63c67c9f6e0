use Rattle.wv_resolve.proofs.OneLoading.{one-loaded_mods}
use Rattle.wv_resolve.proofs.laws.one_loading.Goals as goal

pub returns : goal.returns
returns c = one-loaded_mods
