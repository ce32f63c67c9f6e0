use Rattle.std.proofs.Common.{List, [], ◌∷◌, ◌++◌, Err, sym, subst}
use Rattle.wv_base.specs.declared.constant.Const.TheVariants as constants
use Rattle.wv_pool.proofs.Lacking.{grows_start}
use Rattle.wv_class.specs.Enterable.{PutsAll}
use Rattle.wv_class.specs.Needs.{content_needs}
use Rattle.wv_class.specs.Tables.{table_name}
use Rattle.wv_class.proofs.AnnotationsPut.{empty_needs, first_needs}
use Rattle.wv_class.proofs.Growth.{puts_then, puts_failed}
use Rattle.wv_class.proofs.entering.enter_table.Goals as goal

pub returns-in_default : goal.returns-in_default
returns-in_default c = rw (empty_needs c.args.table.now (sym c.in_default.ensures.value)) (grows_start c.args.pool.now)

pub returns-in_err-enter : goal.returns-in_err-enter
returns-in_err-enter c =
    let first = c.in-Some.first.now in
    let failed = subst (λ n. PutsAll c.args.pool.now c.enter.new.pool (constants.Utf8 n ∷ []) (Err c.in_err-enter.field-0.0)) c.in_ok-table_name.ensures c.in_err-enter.ensures in
    rw (first_needs c.args.table.now first (sym c.in-Some.ensures.value))
    (puts_failed c.args.pool.now c.enter.new.pool (constants.Utf8 (table_name first) ∷ []) (content_needs first.parameter c.args.table.now) c.in_err-enter.field-0.0 c.from_residual-in_err-enter.result c.from_residual-in_err-enter.ensures.1 failed)

pub returns : goal.returns
returns c =
    let first = c.in-Some.first.now in
    rw (first_needs c.args.table.now first (sym c.in-Some.ensures.value))
    (puts_then c.args.pool.now c.enter.new.pool c.enter_content.new.pool (constants.Utf8 (table_name first) ∷ []) (content_needs first.parameter c.args.table.now) c.enter_content.result
    (rw (← c.in_ok-table_name.ensures) c.in_ok-enter.ensures) c.enter_content.ensures)
