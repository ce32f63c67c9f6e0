use Rattle.wv_code.proofs.Starts.{not_found}
use Rattle.wv_code.proofs.index.index_at.Goals as goal

pub returns-in-Err-clause-none : goal.returns-in-Err-clause-none
returns-in-Err-clause-none c = not_found c.args.offsets.now c.args.at c.in-Err.field-0 c.requires c.in-Err.ensures.position
