use Rattle.wv_mod.proofs.Games.{game_kept}
use Rattle.wv_mod.proofs.laws.no_game_is_broken.Goals as goal

pub returns : goal.returns
returns c = game_kept
