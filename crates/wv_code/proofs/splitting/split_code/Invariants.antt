use Rattle.std.proofs.Common.{◌-◌, ◌≤◌, length}
use Rattle.wv_code.specs.Code.{Follow}
use Rattle.wv_code.proofs.splitting.split_code.Given as goal

abbrev pub invariant-loop-at : goal.invariant-loop-at
invariant-loop-at l = record {
  follow : Follow l.code 0 l.raws l.offsets l.at;
  within : l.at ≤ length l.code;
}

abbrev pub decreases-loop-at : goal.decreases-loop-at
decreases-loop-at l = length l.code - l.at
