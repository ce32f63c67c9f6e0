use Rattle.std.proofs.Common.{List, take}
use Rattle.std.specs.List.{AllByRecursion}
use Rattle.wv_resolve.specs.Presence.{Presence}
use Rattle.wv_resolve.specs.Dependency.{Keeps, all_entries}
use Rattle.wv_resolve.specs.Holding.{Holds}
use Rattle.wv_resolve.proofs.check.check.Given as goal

-- the entries of the mods so far are kept
abbrev pub invariant-loop-info : goal.invariant-loop-info
invariant-loop-info l = (list : List Presence) → Holds list l.present → AllByRecursion (λ e. Keeps l.kind list e.1) (all_entries l.kind (take l.info-index l.mods))
