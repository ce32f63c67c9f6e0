use Rattle.wv_weave.proofs.OneFirst.{one-first, none-first}
use Rattle.wv_weave.proofs.laws.one_first_broken.Goals as goal

pub returns-clause-one : goal.returns-clause-one
returns-clause-one c = one-first

pub returns-clause-none : goal.returns-clause-none
returns-clause-none c = none-first
