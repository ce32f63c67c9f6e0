use Rattle.std.proofs.Common.{take}
use Rattle.std.specs.List.{AllByRecursion}
use Rattle.wv_pool.specs.Allowed.{IsClassText}
use Rattle.wv_class.proofs.formed_names.are_class_texts.Given as goal

abbrev pub invariant-loop-name : goal.invariant-loop-name
invariant-loop-name l = AllByRecursion IsClassText (take l.name-index l.names)
