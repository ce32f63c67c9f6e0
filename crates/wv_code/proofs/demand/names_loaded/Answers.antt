use Rattle.std.proofs.Common.{sym}
use Rattle.wv_code.proofs.NamedOperands.{through, entry_loaded}
use Rattle.wv_code.proofs.demand.names_loaded.Goals as goal

pub returns-in-Some : goal.returns-in-Some
returns-in-Some c = through (rw c.entry_words.ensures at c.loads.ensures) (entry_loaded c.args.pool.now c.requires c.args.number c.in-Some.entry.now (sym c.in-Some.ensures) c.args.op)
