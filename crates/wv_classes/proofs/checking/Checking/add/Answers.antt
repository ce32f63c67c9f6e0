use Rattle.wv_classes.proofs.Leasts.{add-loaded, add-first, add-later}
use Rattle.wv_classes.proofs.checking.Checking.add.Goals as goal

pub returns-in_ok-push-in-Ok : goal.returns-in_ok-push-in-Ok
returns-in_ok-push-in-Ok c = λ done next h told.
    rw c.in_ok-push-in-Ok.ensures.items (add-loaded done next c.args.self.now.first c.args.self.now.loaded.items c.in-Ok.class h (rw c.in-Ok.is at told))

pub returns-then-takes : goal.returns-then-takes
returns-then-takes c = λ done next h told.
    add-first done next c.in-Err-Broken.broken (rw (c.in-Err-Broken.is, c.in-Err-Broken.field-0-is) at told) c.args.self.now.first c.args.self.now.loaded.items h c.if-takes.ensures

pub returns-else-takes : goal.returns-else-takes
returns-else-takes c = λ done next h told.
    add-later done next c.in-Err-Broken.broken (rw (c.in-Err-Broken.is, c.in-Err-Broken.field-0-is) at told) c.args.self.now.first c.args.self.now.loaded.items h c.if-takes.ensures
