use Rattle.std.proofs.lemmas.Result.{err_from_is_err_and}
use Rattle.wv_resolve.specs.Presence.{game_path}
use Rattle.wv_front.specs.Opening.{IsBeforeCut, IsCutAt}
use Rattle.wv_front.proofs.Openings.{unlisted-refused, bad-refused, game-right, game-uncounted, before-told, not_before-told}
use Rattle.wv_front.proofs.opened.rules_before.Goals as goal
use Rattle.wv_front.proofs.opened.rules_before.Goals.{then-lt+in_ok-right_game, else-lt}

pub returns-in_err-game-clause-broken : goal.returns-in_err-game-clause-broken
returns-in_err-game-clause-broken c =
    let p = err_from_is_err_and c.from_residual.result c.from_residual.ensures.1 in
    let cut = c.args.cut.now in
    rw (p.1, p.2) (unlisted-refused (IsBeforeCut cut) (IsCutAt cut) c.args.folder.now c.in_err-game.field-0.0 c.in_err-game.ensures.broken)

pub returns-in_err-right_game-clause-broken : goal.returns-in_err-right_game-clause-broken
returns-in_err-right_game-clause-broken c =
    let p = err_from_is_err_and c.from_residual-in_err-right_game.result c.from_residual-in_err-right_game.ensures.1 in
    let cut = c.args.cut.now in
    let before : IsBeforeCut cut game_path = before-told game_path c.as_str.result.now cut.path c.as_str.ensures c.lt.result c.lt.ensures c.if-lt.true in
    rw (p.1, p.2)
    (bad-refused (IsBeforeCut cut) (IsCutAt cut) c.args.folder.now c.in_ok-game.ensures.jars c.in_ok-game.ensures.listed c.in_ok-game.game.now c.in_ok-game.ensures.content before c.in_err-right_game.field-0.0 c.in_err-right_game.ensures.broken)

pub returns-clause-game : goal.returns-clause-game
returns-clause-game c = elim c.if-lt.branch [
  | then-lt+in_ok-right_game w ↦ game-right (IsBeforeCut c.args.cut.now) c.args.folder.now c.in_ok-game.game.now c.in_ok-game.ensures.content w.in_ok-right_game.ensures.kept
  | else-lt w ↦ game-uncounted (IsBeforeCut c.args.cut.now) c.args.folder.now
      (not_before-told game_path c.as_str.result.now c.args.cut.now.path c.as_str.ensures c.lt.result c.lt.ensures w.if-lt.false)
]
