use Rattle.wv_front.proofs.Openings.{opened-not_first, files-not_first}
use Rattle.wv_front.proofs.opening_laws.opened_or_refused.Goals as goal

pub returns-clause-whole : goal.returns-clause-whole
returns-clause-whole c = opened-not_first

pub returns-clause-of_files : goal.returns-clause-of_files
returns-clause-of_files c = files-not_first
