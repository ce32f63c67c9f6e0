use Rattle.wv_mod.proofs.Games.{same_refusal}
use Rattle.wv_mod.proofs.laws.one_game_refusal.Goals as goal

pub returns : goal.returns
returns c = same_refusal
