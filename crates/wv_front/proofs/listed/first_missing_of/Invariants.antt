use Rattle.std.proofs.Common.{ℕ, List, take, Contains}
use Rattle.std.specs.List.{AllByRecursion}
use Rattle.wv_front.specs.Listing.{ArePlaces, listed_by}
use Rattle.wv_front.proofs.listed.first_missing_of.Given as goal

-- the entries so far have classes of these names
abbrev pub invariant-loop-entry : goal.invariant-loop-entry
invariant-loop-entry l = (names : List (List ℕ)) → ArePlaces names l.places → AllByRecursion (Contains names) (listed_by l.config (take l.entry-index l.entries))
