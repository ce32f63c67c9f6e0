use Rattle.wv_resolve.proofs.OneLoading.{one-first}
use Rattle.wv_resolve.proofs.laws.one_first_broken.Goals as goal

pub returns : goal.returns
returns c = one-first
