use Rattle.std.proofs.Common.{◌≡◌, ◌+◌, [], ◌∷◌, ◌++◌, take, sym, ap, subst, ◌∙◌, arith}
use Rattle.std.specs.List.{sum_by}
use Rattle.std.proofs.lemmas.List.{take_more}
use Rattle.std.proofs.lemmas.List.Sums.{sum_by_more}
use Rattle.wv_code.specs.Least.{Behind}
use Rattle.wv_code.proofs.LeastPlaces.{items_more}
use Rattle.wv_class.specs.declared.raw_class.RawMember.{RawMember}
use Rattle.wv_class.specs.Breaks.{member_len, FieldBreaks}
use Rattle.wv_class.specs.Checking.{HasKeys}
use Rattle.wv_class.proofs.Places.{item_least}
use Rattle.wv_class.proofs.member_break.fields_break.Goals as goal

pub loop-field-preserved : goal.loop-field-preserved
loop-field-preserved c =
    let pool = c.args.pool.now in
    let all = c.args.fields.now in
    let i = c.loop-field.field-index in
    let one = c.field-item.result in
    let lt = c.loop-field-test.true in
    let is = c.field-item.is in
    let more = sum_by_more member_len all i one lt in
    let longer : take (i + 1) all ≡ take i all ++ one ∷ [] = take_more all i one lt ∙ ap (λ (m : RawMember). take i all ++ m ∷ []) (sym is) in
    record {
      least = items_more (λ k m. Behind (c.args.base + sum_by member_len (take k all)) (FieldBreaks pool c.args.class (take k all) m)) all i one lt c.lesser-found.ensures c.loop-field.invariant.least
          (item_least member_len c.args.base all (λ k m. FieldBreaks pool c.args.class (take k all) m) i c.loop-field.place one c.loop-field.invariant.place is
          (c.in_ok-one.ensures (take i all) (c.in_ok-again.ensures.again (take i all) c.loop-field.invariant.keys)));
      keys = subst (HasKeys pool c.is_again.new.seen) (sym longer) (c.in_ok-again.ensures.keys (take i all) c.loop-field.invariant.keys);
      place = omega (arith, (rw (← is) at more), c.loop-field.invariant.place, c.member_len-place.ensures.len);
    }
