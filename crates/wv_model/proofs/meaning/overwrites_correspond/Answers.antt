use Rattle.wv_model.proofs.FirstMeaning.{written_correspond, written_together}
use Rattle.wv_model.proofs.meaning.overwrites_correspond.Goals as goal

pub returns-clause-table : goal.returns-clause-table
returns-clause-table c = written_correspond

pub returns-clause-together : goal.returns-clause-together
returns-clause-together c = written_together
