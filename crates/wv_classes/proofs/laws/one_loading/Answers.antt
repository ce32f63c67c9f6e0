use Rattle.wv_classes.proofs.Loading.{one-loaded}
use Rattle.wv_classes.proofs.laws.one_loading.Goals as goal

pub returns : goal.returns
returns c = one-loaded
