use Rattle.std.proofs.Common.{◌+◌, ℕ, ap}
use Rattle.std.specs.Prelude.{◌≤ℤ◌}
use Rattle.std.specs.Int.{w32}
use Rattle.std.proofs.lemmas.Int.{to_z-of_z}
use Rattle.wv_code.specs.Breaks.{Lands}
use Rattle.wv_code.proofs.LeastPlaces.{asked}
use Rattle.wv_code.proofs.InsnPlaces.{table_least, distances_few}
use Rattle.wv_code.proofs.insn_break.table_break.Goals as goal

pub targets_break-targets-requires-clause-few : goal.targets_break-targets-requires-clause-few
targets_break-targets-requires-clause-few c = rw c.requires.few (distances_few c.args.low c.args.high c.ranges.low c.ranges.high)

pub returns : goal.returns
returns c = λ pool.
    table_least pool c.args.offsets.now c.args.at c.args.base (c.args.base + c.switch_place.result) c.args.low c.args.high c.args.other c.args.distances.now
    (ap (λ (z : ℕ). c.args.base + z) c.switch_place.ensures) c.lesser-2.ensures c.lesser.ensures
    (asked (Lands c.args.offsets.now c.args.at c.args.other) c.unless-elsewhere.ensures (rw (to_z-of_z w32 c.args.other c.ranges.other) at c.lands.ensures))
    (asked (c.args.low ≤ℤ c.args.high) c.unless-keys.ensures (rw (to_z-of_z w32 c.args.low c.ranges.low, to_z-of_z w32 c.args.high c.ranges.high) at c.is_ordered.ensures))
    c.targets_break-targets.ensures
