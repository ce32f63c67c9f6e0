use Rattle.std.proofs.Common.{◌≡◌, ◌++◌, take}
use Rattle.std.specs.List.{flat_map}
use Rattle.wv_code.specs.BodyConstants.{type_constants}
use Rattle.wv_code.proofs.body_constants.push_classes.Given as goal

abbrev pub invariant-loop-kind : goal.invariant-loop-kind
invariant-loop-kind l = l.out ≡ l.initial.out ++ flat_map type_constants (take l.kind-index l.kinds)
