use Rattle.std.proofs.Common.{sym}
use Rattle.wv_code.proofs.NamedOperands.{interface_there}
use Rattle.wv_code.proofs.demand.interface_descriptor.Goals as goal

pub returns-clause-found : goal.returns-clause-found
returns-clause-found c =
    interface_there c.args.pool.now c.requires c.args.number c.in_ok-entry.entry.now (sym c.in_ok-entry.ensures) c.in_ok-pair.ensures.found.0 c.in_ok-pair.pair (c.in_ok-descriptor.field-0-0.now, c.in_ok-descriptor.descriptor.now)
    c.in_ok-pair.ensures.found.1 (sym c.in_ok-descriptor.ensures)
