use Rattle.std.proofs.Common.{ℕ, ◌<◌, ◌≤◌}
use Rattle.wv_room.proofs.number.Allows.allows_some.Given as goal

abbrev pub invariant-loop-value : goal.invariant-loop-value
invariant-loop-value g l = (n : ℕ) → l.least ≤ n → n < l.value → g.Self.Allows.allows l.self n → ⊥
