use Rattle.std.proofs.Common.{List, ◌∷◌, ◌++◌, take, map}
use Rattle.wv_resolve.specs.Presence.{Presence}
use Rattle.wv_resolve.specs.Holding.{Holds, source_presence}
use Rattle.wv_resolve.proofs.present.Present.add_source.Given as goal

-- the table holds the id, and those so far that the source provides
abbrev pub invariant-loop-id : goal.invariant-loop-id
invariant-loop-id l = (list : List Presence) → Holds list l.fn.self → Holds (list ++ source_presence l.source l.source.id.now ∷ map (source_presence l.source) (take l.id-index l.source.provides.now)) l.self
