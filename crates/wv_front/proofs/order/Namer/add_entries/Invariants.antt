use Rattle.std.proofs.Common.{◌+◌}
use Rattle.wv_front.specs.Naming.{Grows, IsOfFront, IsEntryNaming}
use Rattle.wv_front.proofs.order.Namer.add_entries.Given as goal

-- the entries so far name these
abbrev pub invariant-loop-place : goal.invariant-loop-place
invariant-loop-place l = Grows l.initial.namings.items l.namings.items (IsOfFront (λ place. IsEntryNaming l.self.classes.now l.self.config_place l.self.config.now (l.base + place)) l.entries l.place)
