use Rattle.std.proofs.Common.{sym}
use Rattle.wv_code.proofs.NamedOperands.{through, entry_taken}
use Rattle.wv_code.proofs.demand.names_taken.Goals as goal

pub returns-in-Some : goal.returns-in-Some
returns-in-Some c = through c.is_entry_taken.ensures (entry_taken c.args.pool.now c.requires c.args.number c.in-Some.entry.now (sym c.in-Some.ensures) c.args.op)
