use Rattle.std.proofs.Common.{map, take}
use Rattle.wv_form.specs.Tables.{name_place}
use Rattle.wv_form.proofs.NameSets.{mapped-more, mapped-all}
use Rattle.wv_form.proofs.tables.places_of_names.Goals as goal

pub loop-known-preserved : goal.loop-known-preserved
loop-known-preserved c =
    mapped-more c.args.files.now c.loop-known.known-index c.known-item.result c.loop-known-test.true c.known-item.is name_place c.add_place.new.table
    (rw (c.as_str.ensures, c.as_str-in-loop-known.ensures) at (c.in_ok-add_place.ensures (map name_place (take c.loop-known.known-index c.args.files.now)) c.loop-known.invariant))

pub returns : goal.returns
returns c = mapped-all c.args.files.now c.loop-known.known-index c.loop-known-test.false name_place c.loop-known.table c.loop-known.invariant
