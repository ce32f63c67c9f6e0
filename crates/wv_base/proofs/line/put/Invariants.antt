use Rattle.std.proofs.Common.{◌≡◌, ◌+◌, ◌++◌, take}
use Rattle.std.specs.Prelude.{map}
use Rattle.wv_base.specs.Line.{shown_byte}
use Rattle.wv_base.proofs.line.put.Given as goal

abbrev pub invariant-loop-i : goal.invariant-loop-i
invariant-loop-i l = take (l.len + l.i) l.out ≡ take l.len l.initial.out ++ map shown_byte (take l.i l.more)
