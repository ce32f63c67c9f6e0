use Rattle.std.proofs.Common.{List, take}
use Rattle.std.specs.List.{AllByRecursion}
use Rattle.wv_resolve.specs.Presence.{Presence}
use Rattle.wv_resolve.specs.Dependency.{Keeps}
use Rattle.wv_resolve.specs.Holding.{Holds}
use Rattle.wv_resolve.proofs.check.first_failing.Given as goal

-- the entries so far are kept
abbrev pub invariant-loop-dependency : goal.invariant-loop-dependency
invariant-loop-dependency l = (list : List Presence) → Holds list l.present → AllByRecursion (Keeps l.kind list) (take l.dependency-index l.entries)
