use Rattle.std.proofs.Common.{◌≡◌, ◌+◌, take}
use Rattle.std.specs.List.{sum_by}
use Rattle.wv_code.specs.Least.{IsLeastOf, Behind, InItems}
use Rattle.wv_class.specs.Breaks.{member_len, FieldBreaks}
use Rattle.wv_class.specs.Checking.{HasKeys}
use Rattle.wv_class.proofs.member_break.fields_break.Given as goal

abbrev pub invariant-loop-field : goal.invariant-loop-field
invariant-loop-field l =
    let all = l.fields in
    record {
      least : IsLeastOf (InItems (take l.field-index all) (λ k m. Behind (l.base + sum_by member_len (take k all)) (FieldBreaks l.pool l.class (take k all) m))) l.found;
      keys : HasKeys l.pool l.seen (take l.field-index all);
      place : l.place ≡ l.base + sum_by member_len (take l.field-index all);
    }
