use Rattle.wv_mod.proofs.Games.{same_game}
use Rattle.wv_mod.proofs.laws.one_game.Goals as goal

pub returns : goal.returns
returns c = same_game
