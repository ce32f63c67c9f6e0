use Rattle.wv_class.proofs.FormedReads.{read_formed}
use Rattle.wv_class.proofs.SmallReads.{read_small}
use Rattle.wv_class.proofs.laws.few_bytes.Goals as goal

pub returns-clause-formed : goal.returns-clause-formed
returns-clause-formed c = read_formed

pub returns-clause-small : goal.returns-clause-small
returns-clause-small c = read_small
