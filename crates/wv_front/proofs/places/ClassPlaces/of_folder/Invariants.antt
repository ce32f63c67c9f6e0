use Rattle.std.proofs.Common.{take, map}
use Rattle.wv_front.specs.Places.{folder_name}
use Rattle.wv_front.specs.Listing.{ArePlaces}
use Rattle.wv_front.proofs.places.ClassPlaces.of_folder.Given as goal

-- the classes so far have their places
abbrev pub invariant-loop-place : goal.invariant-loop-place
invariant-loop-place l = ArePlaces (map folder_name (take l.place l.classes)) l.places
