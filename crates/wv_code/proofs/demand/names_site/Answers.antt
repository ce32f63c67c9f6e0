use Rattle.std.proofs.Common.{sym}
use Rattle.wv_code.proofs.NamedOperands.{through, entry_site}
use Rattle.wv_code.proofs.demand.names_site.Goals as goal

pub returns-in-Some : goal.returns-in-Some
returns-in-Some c = through c.is_site.ensures (entry_site c.args.pool.now c.requires c.args.number c.in-Some.entry.now (sym c.in-Some.ensures))
