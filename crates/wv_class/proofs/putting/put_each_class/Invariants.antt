use Rattle.std.proofs.Common.{take}
use Rattle.wv_class.specs.Appending.{Appends, WritesEach, WritesClassName}
use Rattle.wv_class.proofs.putting.put_each_class.Given as goal

abbrev pub invariant-loop-name : goal.invariant-loop-name
invariant-loop-name l = Appends (WritesEach (WritesClassName l.pool) (take l.name-index l.names)) l.initial.out l.out
