use Rattle.std.proofs.Common.{Ok, Err}
use Rattle.wv_base.proofs.NameSpelling.{is_exact, reads_it}
use Rattle.wv_base.proofs.modified.one_reading.Goals as goal

pub returns-clause-name : goal.returns-clause-name
returns-clause-name c bytes name = (reads_it bytes (Ok name), is_exact bytes (Ok name))

pub returns-clause-fault : goal.returns-clause-fault
returns-clause-fault c bytes at = (reads_it bytes (Err at), is_exact bytes (Err at))
