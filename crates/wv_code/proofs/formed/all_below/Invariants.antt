use Rattle.std.proofs.Common.{◌<◌, take}
use Rattle.std.specs.List.{AllByRecursion}
use Rattle.wv_code.proofs.formed.all_below.Given as goal

abbrev pub invariant-loop-to : goal.invariant-loop-to
invariant-loop-to l = AllByRecursion (λ to. to < l.count) (take l.to-index l.targets)
