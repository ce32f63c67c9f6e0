use Rattle.wv_resolve.proofs.Table.{inserted}
use Rattle.wv_resolve.proofs.present.Present.insert.Goals as goal

pub returns : goal.returns
returns c = λ list h read. inserted list c.args.self.now (record { sources = c.insert.new.self }) c.args.source c.args.id c.in_ok-insert.field-0 c.in_ok-insert.ensures.old c.in_ok-insert.ensures.updates h read
