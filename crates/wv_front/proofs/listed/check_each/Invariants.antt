use Rattle.std.proofs.Common.{ℕ, List, take}
use Rattle.wv_front.specs.Listing.{ArePlaces, HaveListed, values}
use Rattle.wv_front.proofs.listed.check_each.Given as goal

-- the configurations so far list classes of these names alone
abbrev pub invariant-loop-config : goal.invariant-loop-config
invariant-loop-config l = (names : List (List ℕ)) → ArePlaces names l.places → HaveListed names (values (take l.config-index l.configs))
