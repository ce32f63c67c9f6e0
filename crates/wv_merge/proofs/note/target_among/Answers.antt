use Rattle.std.proofs.Common.{sym, subst, arith}
use Rattle.wv_merge.specs.ThinClass.{AreMixinElements, alone, IsTargetElement}
use Rattle.wv_merge.proofs.NoteTests.{alone_in, found_so, some_elements}
use Rattle.wv_merge.proofs.ThinLists.{one_item, two_items}
use Rattle.wv_merge.proofs.note.target_among.Goals as goal

pub returns-in-empty : goal.returns-in-empty
returns-in-empty c = λ d are. absurd (omega (arith, (some_elements d are).0))

pub returns-in-len1 : goal.returns-in-len1
returns-in-len1 c =
    let all = c.args.elements.now in
    let target = c.target-item.result in
    let one = one_item all target c.in-len1.len_at_least c.in-len1.len_below c.target-item.is in
    found_so c.target_in.result (λ r. r.now) (λ d. IsTargetElement d target) (λ d. AreMixinElements d all)
    (λ d is. subst (AreMixinElements d) (sym one) (alone is)) (λ d are. alone_in d target (subst (AreMixinElements d) one are)) c.target_in.ensures

pub returns-in-len2 : goal.returns-in-len2
returns-in-len2 c =
    let two = two_items c.args.elements.now c.first-item.result c.second-item.result c.in-len2.len_at_least c.in-len2.len_below c.first-item.is c.second-item.is in
    rw two c.pair_target.ensures

pub returns-in-len3-up : goal.returns-in-len3-up
returns-in-len3-up c = λ d are. absurd (omega (arith, (some_elements d are).1))
