use Rattle.wv_resolve.proofs.OneMods.{one-mods}
use Rattle.wv_resolve.proofs.laws.one_description.Goals as goal

pub returns : goal.returns
returns c = one-mods
