use Rattle.std.proofs.Common.{◌+◌, ◌*◌, take}
use Rattle.wv_class.specs.Breaks.{NamesPlainClass}
use Rattle.wv_code.specs.Least.{IsLeastOf, Broken, InItems}
use Rattle.wv_class.proofs.number_break.interfaces_break.Given as goal

abbrev pub invariant-loop-index : goal.invariant-loop-index
invariant-loop-index l = IsLeastOf (InItems (take l.index l.numbers) (λ k number. Broken (NamesPlainClass l.pool number) (l.base + 2 * k))) l.found
