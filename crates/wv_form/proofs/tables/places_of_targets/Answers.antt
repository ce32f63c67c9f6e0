use Rattle.std.proofs.Common.{flat_map, take, sym, subst}
use Rattle.std.specs.BTreeMap.{BTreeMap}
use Rattle.wv_form.specs.Placing.{TellsPlaces}
use Rattle.wv_form.specs.Tables.{target_places}
use Rattle.wv_form.proofs.NameSets.{same-places, place-more, places-all}
use Rattle.wv_form.proofs.tables.places_of_targets.Goals as goal
use Rattle.wv_form.proofs.tables.places_of_targets.Goals.{in-Some+in_ok-add_place, in_default}

pub loop-known-preserved : goal.loop-known-preserved
loop-known-preserved c =
    let files = c.args.files.now in
    let i = c.loop-known.known-index in
    let one = c.known-item.result in
    elim c.match-target_name.branch [
      | in-Some+in_ok-add_place w ↦
          rw w.table-is
          (place-more files i one c.loop-known-test.true c.known-item.is target_places (w.in-Some.target.now, one.file.now.path) w.add_place.new.table
          (rw w.in-Some.is at c.target_name.ensures)
          (rw w.as_str.ensures at (w.in_ok-add_place.ensures (flat_map target_places (take i files)) c.loop-known.invariant)))
      | in_default w ↦
          rw w.table-is
          (same-places files i one c.loop-known-test.true c.known-item.is target_places c.loop-known.table (rw w.in_default.is at c.target_name.ensures) c.loop-known.invariant)
    ]

pub returns : goal.returns
returns c = places-all c.args.files.now c.loop-known.known-index c.loop-known-test.false target_places c.loop-known.table c.loop-known.invariant
