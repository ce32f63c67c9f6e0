use Rattle.std.proofs.Common.{◌≡◌, ◌+◌, take}
use Rattle.std.specs.List.{sum_by}
use Rattle.wv_code.specs.Least.{IsLeastOf, Behind, InItems}
use Rattle.wv_class.specs.Breaks.{member_len, MethodBreaks}
use Rattle.wv_class.specs.Checking.{HasKeys}
use Rattle.wv_class.proofs.member_break.methods_break.Given as goal

abbrev pub invariant-loop-method : goal.invariant-loop-method
invariant-loop-method l =
    let all = l.methods in
    record {
      least : IsLeastOf (InItems (take l.method-index all) (λ k m. Behind (l.base + sum_by member_len (take k all)) (MethodBreaks l.pool l.class (take k all) m))) l.found;
      keys : HasKeys l.pool l.seen (take l.method-index all);
      place : l.place ≡ l.base + sum_by member_len (take l.method-index all);
    }
