use Rattle.std.proofs.Common.{ℕ, ◌+◌, ◌-◌, List, [], ◌∷◌, ◌++◌, length, take, drop, subst, ap, ◌∙◌, arith}
use Rattle.wv_attr.specs.Steps.{padded, Steps}
use Rattle.wv_attr.proofs.Padding.{padded-more, window_is}
use Rattle.wv_attr.proofs.step.padded_mark_at.Goals as goal

pub returns : goal.returns
returns c =
    let bytes = c.args.bytes.now in
    let k = c.min-zeros.result in
    let few = c.if-there-ge-LONGEST.false in
    let is = c.min-zeros.ensures in
    let window = ap (λ (t : List ℕ). take (length bytes + k) (t ++ drop (length bytes) (0 ∷ 0 ∷ 0 ∷ 0 ∷ 0 ∷ []))) c.copy_from_slice.ensures.after ∙ window_is bytes k (omega (arith, few, is)) in
    let all = ap (λ (t : List ℕ). padded t (c.args.missing - k)) window ∙ padded-more bytes k c.args.missing (omega (arith, is)) in
    subst (λ (t : List ℕ). Steps c.args.group.kind c.args.group.depth c.args.besides t c.mark_at-2.result) all c.mark_at-2.ensures
