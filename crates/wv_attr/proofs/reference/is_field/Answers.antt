use Rattle.std.proofs.Common.{sym, ◌∙◌}
use Rattle.wv_pool.specs.References.{text_of}
use Rattle.wv_attr.specs.Types.{type_of}
use Rattle.wv_attr.proofs.TypeTables.{agree, some_copied, field_known}
use Rattle.wv_attr.proofs.reference.is_field.Goals as goal

pub returns : goal.returns
returns c =
    let known = field_known (text_of c.args.pool.now c.args.number) (type_of c.args.types.now c.args.number) (agree c.args.pool.now c.args.types.now c.args.number c.requires) in
    let same = c.is_some.ensures ∙ some_copied c.get.result (type_of c.args.types.now c.args.number) c.get.ensures in
    ((λ b. known.holds (sym same ∙ b)), (λ p. same ∙ known.shows p))
