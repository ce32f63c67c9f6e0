use Rattle.std.proofs.Common.{refl}
use Rattle.wv_pool.specs.Adding.{needs}
use Rattle.wv_pool.proofs.Lacking.{grows_start}
use Rattle.wv_class.specs.Needs.{parts_of}
use Rattle.wv_class.proofs.Growth.{next_put, next_failed}
use Rattle.wv_class.proofs.entering.enter_each.Goals as goal

pub loop-constant-init : goal.loop-constant-init
loop-constant-init c = grows_start c.args.pool.now

pub returns-in_err-enter : goal.returns-in_err-enter
returns-in_err-enter c =
    let l = c.loop-constant in
    next_failed needs parts_of refl (λ x xs. refl) c.args.pool.now l.pool c.enter.new.pool c.args.constants.now l.constant-index c.constant-item.result c.loop-constant-test.true c.constant-item.is l.invariant c.in_err-enter.field-0.0 c.from_residual.result c.from_residual.ensures.1 c.in_err-enter.ensures

pub loop-constant-preserved : goal.loop-constant-preserved
loop-constant-preserved c =
    let l = c.loop-constant in
    next_put needs parts_of refl (λ x xs. refl) c.args.pool.now l.pool c.enter.new.pool c.args.constants.now l.constant-index c.constant-item.result c.loop-constant-test.true c.constant-item.is l.invariant c.in_ok-enter.ensures
