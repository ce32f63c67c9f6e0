use Rattle.std.proofs.Common.{◌≡◌, ◌++◌, map, take}
use Rattle.wv_base.specs.declared.constant.Const.TheVariants as constants
use Rattle.wv_class.proofs.needed.push_classes.Given as goal

abbrev pub invariant-loop-name : goal.invariant-loop-name
invariant-loop-name l = l.out ≡ l.initial.out ++ map (λ n. constants.Class n) (take l.name-index l.names)
