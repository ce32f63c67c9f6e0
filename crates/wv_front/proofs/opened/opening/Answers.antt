use Rattle.std.proofs.lemmas.Result.{err_from_is_err_and}
use Rattle.wv_mod.specs.FirstBroken.{IsKept, IsFirstBreak}
use Rattle.wv_front.specs.Opening.{PassesAt, HasTooMuch, Everywhere, IsOpened, IsFirstUnopened, IsBrokenFault}
use Rattle.wv_front.proofs.Openings.{err-weaker, ok-weaker, unlisted-refused, bad-refused, game-right, much-refused, all-kept}
use Rattle.wv_front.proofs.opened.opening.Goals as goal

pub returns-in_err-game-clause-broken : goal.returns-in_err-game-clause-broken
returns-in_err-game-clause-broken c =
    let p = err_from_is_err_and c.from_residual.result c.from_residual.ensures.1 in
    let folder = c.args.folder.now in
    rw (p.1, p.2) (unlisted-refused Everywhere (PassesAt folder) folder c.in_err-game.field-0.0 c.in_err-game.ensures.broken)

pub returns-in_err-right_game-clause-broken : goal.returns-in_err-right_game-clause-broken
returns-in_err-right_game-clause-broken c =
    let p = err_from_is_err_and c.from_residual-in_err-right_game.result c.from_residual-in_err-right_game.ensures.1 in
    let folder = c.args.folder.now in
    rw (p.1, p.2)
    (bad-refused Everywhere (PassesAt folder) folder c.in_ok-game.ensures.jars c.in_ok-game.ensures.listed c.in_ok-game.game.now c.in_ok-game.ensures.content tt c.in_err-right_game.field-0.0 c.in_err-right_game.ensures.broken)

pub returns-clause-opened : goal.returns-clause-opened
returns-clause-opened c =
    let folder = c.args.folder.now in
    let right = game-right Everywhere folder c.in_ok-game.game.now c.in_ok-game.ensures.content c.in_ok-right_game.ensures.kept in
    ok-weaker c.within_limits.result (IsKept (HasTooMuch (PassesAt folder))) (IsOpened folder)
    (all-kept Everywhere (PassesAt folder) folder c.in_ok-game.ensures.jars c.in_ok-game.ensures.listed right) c.within_limits.ensures.kept

pub returns-clause-broken : goal.returns-clause-broken
returns-clause-broken c =
    let folder = c.args.folder.now in
    let right = game-right Everywhere folder c.in_ok-game.game.now c.in_ok-game.ensures.content c.in_ok-right_game.ensures.kept in
    err-weaker c.within_limits.result (IsBrokenFault (IsFirstBreak (HasTooMuch (PassesAt folder)))) (IsBrokenFault (IsFirstUnopened folder))
    (much-refused Everywhere (PassesAt folder) folder c.in_ok-game.ensures.jars c.in_ok-game.ensures.listed right) c.within_limits.ensures.broken
