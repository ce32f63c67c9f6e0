use Rattle.std.proofs.Common.{take, flat_map}
use Rattle.wv_form.specs.Placing.{TellsPlaces}
use Rattle.wv_form.specs.Tables.{target_places}
use Rattle.wv_form.proofs.tables.places_of_targets.Given as goal

-- the table tells of the mixins so far
abbrev pub invariant-loop-known : goal.invariant-loop-known
invariant-loop-known l = TellsPlaces (flat_map target_places (take l.known-index l.files)) l.table
