use Rattle.std.proofs.Common.{◌≡◌, ◌++◌, take}
use Rattle.std.specs.List.{flat_map}
use Rattle.wv_code.specs.Content.{range_bytes}
use Rattle.wv_code.proofs.content_writing.put_ranges.Given as goal

abbrev pub invariant-loop-range : goal.invariant-loop-range
invariant-loop-range l = l.out ≡ l.initial.out ++ flat_map range_bytes (take l.range-index l.ranges)
