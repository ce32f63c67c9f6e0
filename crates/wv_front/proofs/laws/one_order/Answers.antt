use Rattle.wv_front.proofs.OneOrder.{one-order}
use Rattle.wv_front.proofs.laws.one_order.Goals as goal

pub returns : goal.returns
returns c = one-order
