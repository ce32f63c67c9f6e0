use Rattle.wv_front.proofs.Openings.{one-unopened, one-first_cut, one-of_files}
use Rattle.wv_front.proofs.opening_laws.one_opening_refusal.Goals as goal

pub returns-clause-whole : goal.returns-clause-whole
returns-clause-whole c = one-unopened

pub returns-clause-ended_early : goal.returns-clause-ended_early
returns-clause-ended_early c = one-first_cut

pub returns-clause-of_files : goal.returns-clause-of_files
returns-clause-of_files c = one-of_files
