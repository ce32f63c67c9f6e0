use Rattle.std.proofs.Common.{map, sym, ◌∙◌}
use Rattle.wv_front.specs.Places.{loaded_name}
use Rattle.wv_front.proofs.Namings.{place-inside, entry-pushed}
use Rattle.wv_front.proofs.order.Namer.add_entry.Goals as goal

pub naming-requires : goal.naming-requires
naming-requires c =
    place-inside c.args.self.now.classes.now c.in_ok-name.name c.in-Some.class_place (sym (c.place.ensures (map loaded_name c.args.self.now.classes.now) c.requires) ∙ c.in-Some.is)

pub returns-in_ok-push : goal.returns-in_ok-push
returns-in_ok-push c =
    rw c.in_ok-push.ensures.items
    (entry-pushed c.args.self.now.classes.now c.args.self.now.config_place c.args.self.now.config.now c.args.entry_place c.args.entry.now c.args.namings.now.items c.naming.result c.in_ok-name.name c.in-Some.class_place
    c.naming.ensures.name c.naming.ensures.class c.naming.ensures.config c.naming.ensures.entry
    c.in_ok-name.ensures
    (sym (c.place.ensures (map loaded_name c.args.self.now.classes.now) c.requires) ∙ c.in-Some.is)
    c.naming.ensures.priority)
