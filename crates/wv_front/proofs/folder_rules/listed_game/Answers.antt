use Rattle.std.proofs.lemmas.Result.{err_from_is_err_and}
use Rattle.wv_mod.specs.FirstBroken.{IsFirstBreak}
use Rattle.wv_front.specs.Opening.{IsBrokenFault, IsFirstUnlisted, LacksGame}
use Rattle.wv_front.proofs.Openings.{err-weaker, jar-unlisted, game-unlisted_too}
use Rattle.wv_front.proofs.folder_rules.listed_game.Goals as goal

pub returns-in_err-no_jar-clause-broken : goal.returns-in_err-no_jar-clause-broken
returns-in_err-no_jar-clause-broken c =
    let p = err_from_is_err_and c.from_residual.result c.from_residual.ensures.1 in
    rw (p.1, p.2) (jar-unlisted c.args.folder.now c.in_err-no_jar.field-0.0 c.in_err-no_jar.ensures.broken)

pub returns-clause-broken : goal.returns-clause-broken
returns-clause-broken c =
    err-weaker c.game_content.result (IsBrokenFault (IsFirstBreak (LacksGame c.args.folder.now))) (IsBrokenFault (IsFirstUnlisted c.args.folder.now))
    (game-unlisted_too c.args.folder.now c.in_ok-no_jar.ensures.kept) c.game_content.ensures.broken
