use Rattle.std.proofs.Common.{take, map}
use Rattle.wv_form.specs.Placing.{TellsPlaces}
use Rattle.wv_form.specs.Tables.{name_place}
use Rattle.wv_form.proofs.tables.places_of_names.Given as goal

-- the table tells of the class files so far
abbrev pub invariant-loop-known : goal.invariant-loop-known
invariant-loop-known l = TellsPlaces (map name_place (take l.known-index l.files)) l.table
