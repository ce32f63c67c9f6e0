use Rattle.std.proofs.Common.{take}
use Rattle.std.specs.List.{AllByRecursion}
use Rattle.wv_class.specs.Formed.{IsFormedClassName}
use Rattle.wv_class.proofs.formed_names.are_formed_class_names.Given as goal

abbrev pub invariant-loop-name : goal.invariant-loop-name
invariant-loop-name l = AllByRecursion IsFormedClassName (take l.name-index l.names)
