use Rattle.std.proofs.Common.{◌≡◌, ◌+◌, [], ◌∷◌, ◌++◌, take, sym, ap, subst, ◌∙◌, arith}
use Rattle.std.specs.List.{sum_by}
use Rattle.std.proofs.lemmas.List.{take_more}
use Rattle.std.proofs.lemmas.List.Sums.{sum_by_more}
use Rattle.wv_code.specs.Least.{Behind}
use Rattle.wv_code.proofs.LeastPlaces.{items_more}
use Rattle.wv_class.specs.declared.raw_class.RawMember.{RawMember}
use Rattle.wv_class.specs.Breaks.{member_len, MethodBreaks}
use Rattle.wv_class.specs.Checking.{HasKeys}
use Rattle.wv_class.proofs.Places.{item_least}
use Rattle.wv_class.proofs.member_break.methods_break.Goals as goal

pub loop-method-preserved : goal.loop-method-preserved
loop-method-preserved c =
    let pool = c.args.pool.now in
    let all = c.args.methods.now in
    let i = c.loop-method.method-index in
    let one = c.method-item.result in
    let lt = c.loop-method-test.true in
    let is = c.method-item.is in
    let more = sum_by_more member_len all i one lt in
    let longer : take (i + 1) all ≡ take i all ++ one ∷ [] = take_more all i one lt ∙ ap (λ (m : RawMember). take i all ++ m ∷ []) (sym is) in
    record {
      least = items_more (λ k m. Behind (c.args.base + sum_by member_len (take k all)) (MethodBreaks pool c.args.class (take k all) m)) all i one lt c.lesser-found.ensures c.loop-method.invariant.least
          (item_least member_len c.args.base all (λ k m. MethodBreaks pool c.args.class (take k all) m) i c.loop-method.place one c.loop-method.invariant.place is
          (c.in_ok-one.ensures (take i all) (c.in_ok-again.ensures.again (take i all) c.loop-method.invariant.keys)));
      keys = subst (HasKeys pool c.is_again.new.seen) (sym longer) (c.in_ok-again.ensures.keys (take i all) c.loop-method.invariant.keys);
      place = omega (arith, (rw (← is) at more), c.loop-method.invariant.place, c.member_len-place.ensures.len);
    }
