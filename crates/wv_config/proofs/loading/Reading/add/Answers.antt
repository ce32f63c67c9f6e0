use Rattle.wv_config.proofs.Reading.{add-used, add-other, add-first, add-later}
use Rattle.wv_config.proofs.loading.Reading.add.Goals as goal

pub returns-in_ok-push-in-Ok : goal.returns-in_ok-push-in-Ok
returns-in_ok-push-in-Ok c = λ files done h behind read.
    rw c.in_ok-push-in-Ok.ensures.items
    (add-used files done c.args.entry.now c.in-Ok.config (rw c.in-Ok.is at read) behind c.args.self.now.used.items c.args.self.now.others.items c.args.self.now.first c.if-entry.true h)

pub returns-in_ok-push-in-Ok-2 : goal.returns-in_ok-push-in-Ok-2
returns-in_ok-push-in-Ok-2 c = λ files done h behind read.
    rw c.in_ok-push-in-Ok-2.ensures.items
    (add-other files done c.args.entry.now c.in-Ok.config (rw c.in-Ok.is at read) behind c.args.self.now.used.items c.args.self.now.others.items c.args.self.now.first c.if-entry.false h)

pub returns-then-takes : goal.returns-then-takes
returns-then-takes c = λ files done h behind read.
    add-first files done c.args.entry.now c.in-Err-Broken.broken (rw (c.in-Err-Broken.is, c.in-Err-Broken.field-0-is) at read) c.args.self.now.used.items c.args.self.now.others.items c.args.self.now.first h c.if-takes.ensures

pub returns-else-takes : goal.returns-else-takes
returns-else-takes c = λ files done h behind read.
    add-later files done c.args.entry.now c.in-Err-Broken.broken (rw (c.in-Err-Broken.is, c.in-Err-Broken.field-0-is) at read) c.args.self.now.used.items c.args.self.now.others.items c.args.self.now.first h c.if-takes.ensures
