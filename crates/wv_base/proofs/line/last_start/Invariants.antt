use Rattle.std.proofs.Common.{◌≡◌, ◌≤◌}
use Rattle.std.specs.Fmt.Cut.{floor_char_boundary}
use Rattle.wv_base.proofs.line.last_start.Given as goal

abbrev pub invariant-loop-place : goal.invariant-loop-place
invariant-loop-place l = (l.place ≤ 4095) × (floor_char_boundary l.out l.place ≡ floor_char_boundary l.out 4095)

abbrev pub decreases-loop-place : goal.decreases-loop-place
decreases-loop-place l = l.place
