use Rattle.std.proofs.Common.{◌≡◌, ◌++◌, take}
use Rattle.std.specs.List.{flat_map}
use Rattle.wv_code.specs.BodyConstants.{range_constants}
use Rattle.wv_code.proofs.body_constants.push_caught.Given as goal

abbrev pub invariant-loop-range : goal.invariant-loop-range
invariant-loop-range l = l.out ≡ l.initial.out ++ flat_map range_constants (take l.range-index l.ranges)
