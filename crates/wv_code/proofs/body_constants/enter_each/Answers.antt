use Rattle.std.proofs.lemmas.Result.{err_from_is_err_and}
use Rattle.wv_code.proofs.Entered.{nothing, puts}
use Rattle.wv_code.proofs.BodyConstants.{each_more, full_at}
use Rattle.wv_code.proofs.body_constants.enter_each.Goals as goal

pub loop-constant-init : goal.loop-constant-init
loop-constant-init c = nothing c.args.pool.now

pub returns-in_err-add-clause-full : goal.returns-in_err-add-clause-full
returns-in_err-add-clause-full c =
    let p = err_from_is_err_and c.from_residual.result c.from_residual.ensures.1 in
    rw (p.1, p.2) (λ e. full_at c.args.pool.now c.loop-constant.pool c.args.constants.now c.loop-constant.constant-index c.constant-item.result c.loop-constant-test.true c.loop-constant.invariant.entered
    (rw (← c.constant-item.is) (c.in_err-add.ensures.full e)))

pub loop-constant-preserved : goal.loop-constant-preserved
loop-constant-preserved c =
    each_more c.args.pool.now c.loop-constant.pool c.add.new.self c.args.constants.now c.loop-constant.constant-index c.constant-item.result c.loop-constant-test.true c.loop-constant.invariant c.in_ok-add.ensures.older c.in_ok-add.ensures.kept
    (rw (← c.constant-item.is) (puts c.loop-constant.pool c.constant-item.result c.add.new.self (λ named. (c.in_ok-add.ensures.same named).0) c.in_ok-add.ensures.grows)) (rw (← c.constant-item.is) (c.in_ok-add.field-0, c.in_ok-add.ensures.least.names))
