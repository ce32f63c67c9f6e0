use Rattle.wv_front.proofs.OneOrder.{number-of}
use Rattle.wv_front.proofs.laws.mixin_number.Goals as goal

pub returns : goal.returns
returns c = number-of
