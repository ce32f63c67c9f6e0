use Rattle.wv_attr.proofs.Uniqueness.{read_one}
use Rattle.wv_attr.proofs.laws.one_list.Goals as goal

pub returns : goal.returns
returns c = λ pool visible bytes notes others a b. read_one pool visible bytes notes others a b
