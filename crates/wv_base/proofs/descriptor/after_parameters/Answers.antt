use Rattle.std.proofs.Common.{[], ◌∷◌, ◌++◌}
use Rattle.wv_base.proofs.MethodTypes.{read_on, fails, IfNone-from}
use Rattle.wv_base.proofs.descriptor.after_parameters.Goals as goal

pub returns-in_err-more-clause-none : goal.returns-in_err-more-clause-none
returns-in_err-more-clause-none c =
    let read = c.loop-after.invariant in
    IfNone-from c.from_residual.result (fails c.args.units.now read.0 c.loop-after.rest.now c.loop-after.words read.1 c.in_default.ensures.none c.in_err-more.ensures)

pub loop-after-smaller : goal.loop-after-smaller
loop-after-smaller c =
    let read = c.loop-after.invariant in
    (read_on c.args.units.now read.0 c.loop-after.rest.now c.in_ok-more.after.now c.loop-after.words c.in_ok-more.more read.1 c.in_ok-more.ensures).2

pub loop-after-preserved : goal.loop-after-preserved
loop-after-preserved c =
    let read = c.loop-after.invariant in
    let on = read_on c.args.units.now read.0 c.loop-after.rest.now c.in_ok-more.after.now c.loop-after.words c.in_ok-more.more read.1 c.in_ok-more.ensures in
    (read.0 ++ on.0 ∷ [], on.1)
