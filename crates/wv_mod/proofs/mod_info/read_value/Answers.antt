use Rattle.std.proofs.lemmas.Result.{err_from_is_err_and}
use Rattle.std.proofs.Common.{sym}
use Rattle.serde_json.specs.View.{view}
use Rattle.wv_mod.proofs.Stopping.{stop-depends, stop-breaks}
use Rattle.wv_mod.proofs.mod_info.read_value.Goals as goal

pub returns-in_err-depends-clause-stop : goal.returns-in_err-depends-clause-stop
returns-in_err-depends-clause-stop c =
    let p = err_from_is_err_and c.from_residual-in_err-depends.result c.from_residual-in_err-depends.ensures.1 in
    rw (p.1, p.2)
    (stop-depends (view c.args.value.now) c.in_ok-manifest.manifest c.in_err-depends.field-0.0 c.in_ok-manifest.ensures.found (sym c.in_default.ensures) (c.has_no_jars.ensures.0 c.if-not-has_no_jars.false) (rw c.as_slice.ensures at c.in_err-depends.ensures.stop))

pub returns-in_err-breaks-clause-stop : goal.returns-in_err-breaks-clause-stop
returns-in_err-breaks-clause-stop c =
    let p = err_from_is_err_and c.from_residual-in_err-breaks.result c.from_residual-in_err-breaks.ensures.1 in
    rw (p.1, p.2)
    (stop-breaks (view c.args.value.now) c.in_ok-manifest.manifest c.in_ok-depends.depends c.in_err-breaks.field-0.0 c.in_ok-manifest.ensures.found (sym c.in_default.ensures) (c.has_no_jars.ensures.0 c.if-not-has_no_jars.false) (rw c.as_slice.ensures at c.in_ok-depends.ensures.read) (rw c.as_slice-2.ensures at c.in_err-breaks.ensures.stop))
