use Rattle.std.proofs.Common.{sym, ◌∙◌}
use Rattle.wv_pool.specs.References.{text_of}
use Rattle.wv_attr.specs.Types.{type_of, class_in}
use Rattle.wv_attr.proofs.TypeTables.{agree, some_copied, class_known}
use Rattle.wv_attr.proofs.reference.is_class.Goals as goal

pub returns : goal.returns
returns c =
    let known = class_known (text_of c.args.pool.now c.args.number) (type_of c.args.types.now c.args.number) (agree c.args.pool.now c.args.types.now c.args.number c.requires) in
    let same = c.is_some.ensures ∙ some_copied c.class.result (class_in (type_of c.args.types.now c.args.number)) c.class.ensures in
    ((λ b. known.holds (sym same ∙ b)), (λ p. same ∙ known.shows p))
