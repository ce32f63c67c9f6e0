use Rattle.std.proofs.Common.{take}
use Rattle.wv_front.specs.Allowance.{IsLeft}
use Rattle.wv_front.proofs.limit.passing.Given as goal

-- the files so far leave the allowance
abbrev pub invariant-loop-path : goal.invariant-loop-path
invariant-loop-path l = IsLeft (take l.path-index l.path-items) l.allowance
