use Rattle.wv_resolve.proofs.Flaws.{read-mod, read-first, read-later}
use Rattle.wv_resolve.proofs.discovery.Reading.add.Goals as goal

pub returns-in_ok-push-in-Ok : goal.returns-in_ok-push-in-Ok
returns-in_ok-push-in-Ok c = λ side done next h behind says.
    rw c.in_ok-push-in-Ok.ensures.items (read-mod side done next c.args.self.now.first c.args.self.now.mods.items c.in-Ok.info h (rw c.in-Ok.is at says))

pub returns-then-takes : goal.returns-then-takes
returns-then-takes c = λ side done next h behind says.
    read-first side done next c.in-Err-Broken.broken (rw (c.in-Err-Broken.is, c.in-Err-Broken.field-0-is) at says) c.args.self.now.first c.args.self.now.mods.items h c.if-takes.ensures

pub returns-else-takes : goal.returns-else-takes
returns-else-takes c = λ side done next h behind says.
    read-later side done next c.in-Err-Broken.broken (rw (c.in-Err-Broken.is, c.in-Err-Broken.field-0-is) at says) c.args.self.now.first c.args.self.now.mods.items behind h c.if-takes.ensures
