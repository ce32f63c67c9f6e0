use Rattle.wv_classes.proofs.Loading.{loaded-unbroken}
use Rattle.wv_classes.proofs.laws.loaded_or_refused.Goals as goal

pub returns : goal.returns
returns c = loaded-unbroken
