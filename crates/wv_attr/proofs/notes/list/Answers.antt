use Rattle.wv_attr.specs.declared.mark.Mark.TheVariants as marks
use Rattle.wv_attr.proofs.Meanings.{opened, behind_one, lists_step}
use Rattle.wv_attr.proofs.PoolGrowth.{found_map}
use Rattle.wv_attr.proofs.notes.list.Goals as goal

pub returns-clause-rest : goal.returns-clause-rest
returns-clause-rest c =
    let e = opened c.args.parts.now (marks.List 0) _ c.in-len1-up.len_at_least c.in-List.is in
    found_map c.notes.result (λ x h. lists_step c.in-List.count c.args.parts.now (behind_one c.args.parts.now) x.1.now e h) c.notes.ensures.rest
