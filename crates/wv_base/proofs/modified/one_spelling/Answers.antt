use Rattle.wv_base.proofs.NameSpelling.{spelling_cancel}
use Rattle.wv_base.proofs.modified.one_spelling.Goals as goal

pub returns : goal.returns
returns c = spelling_cancel
