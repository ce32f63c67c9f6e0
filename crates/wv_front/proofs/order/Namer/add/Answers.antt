use Rattle.wv_front.proofs.Namings.{configs-named}
use Rattle.wv_front.proofs.order.Namer.add.Goals as goal

pub returns : goal.returns
returns c =
    configs-named c.args.self.now.classes.now c.args.side c.args.self.now.config_place c.args.self.now.config.now c.side_entries-entries.result.now c.args.namings.now.items c.add_entries.new.namings.items c.add_entries-2.new.namings.items c.add_entries-2.result
    c.side_entries-entries.ensures
    (rw c.as_slice-mixins.ensures at c.in_ok-add_entries.ensures)
    (rw c.as_slice-mixins.ensures at c.add_entries-2.ensures)
