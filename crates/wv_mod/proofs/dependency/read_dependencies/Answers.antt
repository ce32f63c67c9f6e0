use Rattle.std.proofs.lemmas.Result.{err_from_is_err_and}
use Rattle.wv_mod.specs.Dependency.{IsDependency}
use Rattle.wv_mod.proofs.Relating.{relates-push}
use Rattle.wv_mod.proofs.Stopping.{stop-entry}
use Rattle.wv_mod.proofs.dependency.read_dependencies.Goals as goal

pub returns-in_err-any_of-clause-stop : goal.returns-in_err-any_of-clause-stop
returns-in_err-any_of-clause-stop c =
    let p = err_from_is_err_and c.from_residual.result c.from_residual.ensures.1 in
    rw (p.1, p.2)
    (stop-entry c.args.entries.now c.loop-entry.entry-index c.loop-entry.dependencies c.entry-item.result c.in_err-any_of.field-0.0 c.loop-entry-test.true c.entry-item.is c.loop-entry.invariant (rw c.as_slice.ensures at c.in_err-any_of.ensures.stop))

pub loop-entry-preserved : goal.loop-entry-preserved
loop-entry-preserved c =
    rw c.in_ok-push.ensures.ok
    (relates-push IsDependency c.args.entries.now c.loop-entry.entry-index c.loop-entry.dependencies c.entry-item.result (record { id = c.in_ok-copy.field-0; any_of = c.in_ok-any_of.any_of }) c.loop-entry-test.true c.entry-item.is c.loop-entry.invariant (c.in_ok-copy.ensures, rw c.as_slice.ensures at c.in_ok-any_of.ensures.read))
