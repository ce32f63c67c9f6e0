use Rattle.std.proofs.Common.{take}
use Rattle.std.specs.List.{AllByRecursion}
use Rattle.wv_merge.specs.Role.{role_of}
use Rattle.wv_merge.specs.ThinClass.{IsThinMethod}
use Rattle.wv_merge.proofs.thin.are_thin_methods.Given as goal

abbrev pub invariant-loop-method : goal.invariant-loop-method
invariant-loop-method l = AllByRecursion (IsThinMethod (role_of l.role)) (take l.method-index l.methods)
