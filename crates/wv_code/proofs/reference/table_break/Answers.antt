use Rattle.wv_code.proofs.TablePlaces.{table_least}
use Rattle.wv_code.proofs.reference.table_break.Goals as goal

pub returns : goal.returns
returns c = table_least c.args.pool.now c.args.first.now c.args.code.now c.args.frames.now c.args.base c.lesser.ensures c.in_ok-named.ensures c.frames_break.ensures
