use Rattle.std.proofs.Common.{subst}
use Rattle.std.proofs.lemmas.Result.{err_from_is_err_and}
use Rattle.wv_top.specs.Reading.{EndsAt}
use Rattle.wv_top.proofs.Weaving.{weaves_cut, weaves_unopened, weaves_opened}
use Rattle.wv_top.proofs.rules.weave_reading.Goals as goal

pub returns-in_err-opening-in-None : goal.returns-in_err-opening-in-None
returns-in_err-opening-in-None c = λ files reading.
    let p = err_from_is_err_and c.from_residual.result c.from_residual.ensures.1 in
    rw (p.1, p.2)
    (weaves_unopened files c.args.reading.now.folder c.args.side reading.read (subst (EndsAt files) c.in-None.is reading.cut) c.in_err-opening-in-None.field-0.0 c.in_err-opening-in-None.ensures.broken)

pub returns-in_ok-opening-in-None : goal.returns-in_ok-opening-in-None
returns-in_ok-opening-in-None c = λ files reading.
    let answer = c.weave.ensures in
    weaves_opened files c.args.reading.now.folder c.args.side reading.read (subst (EndsAt files) c.in-None.is reading.cut) c.weave.result c.in_ok-opening-in-None.ensures.opened answer.kept answer.woven answer.means answer.broken

pub returns-in-Some : goal.returns-in-Some
returns-in-Some c = λ files reading.
    weaves_cut files c.args.reading.now.folder c.args.side c.in-Some.cut c.opening_cut.result reading.read (subst (EndsAt files) c.in-Some.is reading.cut) c.opening_cut.ensures.broken
