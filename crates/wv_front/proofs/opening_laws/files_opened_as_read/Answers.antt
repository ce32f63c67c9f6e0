use Rattle.wv_front.proofs.FilesOpened.{whole-opened, whole-first, cut-first}
use Rattle.wv_front.proofs.opening_laws.files_opened_as_read.Goals as goal

pub returns-clause-opened : goal.returns-clause-opened
returns-clause-opened c = whole-opened

pub returns-clause-refused : goal.returns-clause-refused
returns-clause-refused c = whole-first

pub returns-clause-ended_early : goal.returns-clause-ended_early
returns-clause-ended_early c = cut-first
