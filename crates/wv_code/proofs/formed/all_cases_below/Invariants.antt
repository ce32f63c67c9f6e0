use Rattle.std.proofs.Common.{◌<◌, take}
use Rattle.std.specs.List.{AllByRecursion}
use Rattle.wv_code.proofs.formed.all_cases_below.Given as goal

abbrev pub invariant-loop-case : goal.invariant-loop-case
invariant-loop-case l = AllByRecursion (λ c. c.to < l.count) (take l.case-index l.cases)
