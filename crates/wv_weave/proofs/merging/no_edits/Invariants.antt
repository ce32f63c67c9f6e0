use Rattle.std.proofs.Common.{◌≡◌, replicate}
use Rattle.std.proofs.Common.{None as Nothing}
use Rattle.wv_weave.proofs.merging.no_edits.Given as goal

-- so many classes have nothing overwritten so far
abbrev pub invariant-loop : goal.invariant-loop
invariant-loop l = l.edits.items ≡ replicate l.counter Nothing
