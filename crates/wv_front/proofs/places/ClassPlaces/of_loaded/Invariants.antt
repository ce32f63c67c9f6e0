use Rattle.std.proofs.Common.{take, map}
use Rattle.wv_front.specs.Places.{loaded_name}
use Rattle.wv_front.specs.Listing.{ArePlaces}
use Rattle.wv_front.proofs.places.ClassPlaces.of_loaded.Given as goal

-- the classes so far have their places
abbrev pub invariant-loop-place : goal.invariant-loop-place
invariant-loop-place l = ArePlaces (map loaded_name (take l.place l.classes)) l.places
