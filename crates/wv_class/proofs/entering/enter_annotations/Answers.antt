use Rattle.wv_class.proofs.AnnotationsPut.{none_put, table_put, table_failed}
use Rattle.wv_class.proofs.entering.enter_annotations.Goals as goal

pub loop-rest-init : goal.loop-rest-init
loop-rest-init c = none_put c.args.pool.now c.args.notes.now c.requires

pub returns-in_err-enter_table : goal.returns-in_err-enter_table
returns-in_err-enter_table c =
    let l = c.loop-rest in
    let s = c.split_at in
    table_failed c.args.pool.now l.pool c.enter_table.new.pool c.args.notes.now l.rest.now s.result.0.now s.result.1.now (rw (s.ensures.front, s.ensures.back) c.first_table_len.ensures.first) l.invariant c.in_err-enter_table.field-0.0
    c.from_residual.result c.from_residual.ensures.1 c.in_err-enter_table.ensures

pub loop-rest-preserved : goal.loop-rest-preserved
loop-rest-preserved c =
    let l = c.loop-rest in
    let s = c.split_at in
    table_put c.args.pool.now l.pool c.enter_table.new.pool c.args.notes.now l.rest.now s.result.0.now s.result.1.now (rw (s.ensures.front, s.ensures.back) c.first_table_len.ensures.first) l.invariant c.in_ok-enter_table.ensures
