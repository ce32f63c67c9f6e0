use Rattle.wv_class.proofs.OneMeaning.{one_class}
use Rattle.wv_class.proofs.laws.one_class.Goals as goal

pub returns : goal.returns
returns c = one_class
