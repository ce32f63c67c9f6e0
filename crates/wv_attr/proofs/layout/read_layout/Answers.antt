use Rattle.std.proofs.Common.{◌≡◌, true, false}
use Rattle.wv_attr.specs.Layout.{lists}
use Rattle.wv_attr.proofs.Missing.{no_room}
use Rattle.wv_attr.proofs.layout.read_layout.Goals as goal

pub returns-then-not-fills-clause-fault : goal.returns-then-not-fills-clause-fault
returns-then-not-fills-clause-fault c =
    no_room (lists 1) c.args.bytes.now c.args.missing (λ fits. let bad : false ≡ true = c.if-not-fills.ensures.1 fits in absurd cc)

pub returns-then-not-fills-clause-only : goal.returns-then-not-fills-clause-only
returns-then-not-fills-clause-only c = (returns-then-not-fills-clause-fault c).no_table
