use Rattle.std.proofs.Common.{take}
use Rattle.wv_code.specs.Formed.{KeysAscend}
use Rattle.wv_code.proofs.formed.keys_ascend.Given as goal

abbrev pub invariant-loop-place : goal.invariant-loop-place
invariant-loop-place l = KeysAscend (take l.place l.cases)
