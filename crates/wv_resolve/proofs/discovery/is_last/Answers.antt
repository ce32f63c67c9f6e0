use Rattle.wv_resolve.specs.Finding.{texts_at}
use Rattle.wv_resolve.proofs.Folders.{last-text, last-tested}
use Rattle.wv_resolve.proofs.discovery.is_last.Goals as goal

pub returns-in-Some : goal.returns-in-Some
returns-in-Some c = last-tested (texts_at c.args.names.now) c.in-Some.last.now.now c.args.name.now c.eq.result (last-text c.args.names.now c.in-Some.last.now c.in-Some.ensures.value) c.eq.ensures
