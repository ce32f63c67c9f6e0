use Rattle.std.proofs.Common.{◌+◌}
use Rattle.wv_front.specs.Naming.{IsEntryNaming}
use Rattle.wv_front.proofs.Grown.{front-more, front-all}
use Rattle.wv_front.proofs.order.Namer.add_entries.Goals as goal

pub loop-place-preserved : goal.loop-place-preserved
loop-place-preserved c =
    front-more (λ place. IsEntryNaming c.args.self.now.classes.now c.args.self.now.config_place c.args.self.now.config.now (c.args.base + place)) c.args.entries.now
    c.args.namings.now.items c.loop-place.namings.items c.add_entry.new.namings.items c.loop-place.place c.index-entries-place.result c.loop-place-test.true c.index-entries-place.is c.loop-place.invariant c.in_ok-add_entry.ensures

pub returns : goal.returns
returns c =
    front-all (λ place. IsEntryNaming c.args.self.now.classes.now c.args.self.now.config_place c.args.self.now.config.now (c.args.base + place)) c.args.entries.now
    c.args.namings.now.items c.loop-place.namings.items c.loop-place.place c.loop-place-test.false c.loop-place.invariant
