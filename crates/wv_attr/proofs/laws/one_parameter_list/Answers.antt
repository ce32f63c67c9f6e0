use Rattle.wv_attr.proofs.Uniqueness.{parameters_read_one}
use Rattle.wv_attr.proofs.laws.one_parameter_list.Goals as goal

pub returns : goal.returns
returns c = λ pool visible bytes notes others a b. parameters_read_one pool visible bytes notes others a b
