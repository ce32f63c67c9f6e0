use Rattle.std.proofs.Common.{take}
use Rattle.std.specs.List.{AllByRecursion}
use Rattle.wv_class.specs.Formed.{IsFormedMethod}
use Rattle.wv_class.proofs.formed_method.are_formed_methods.Given as goal

abbrev pub invariant-loop-method : goal.invariant-loop-method
invariant-loop-method l = AllByRecursion (IsFormedMethod l.pool) (take l.method-index l.methods)
