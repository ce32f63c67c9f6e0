use Rattle.wv_model.proofs.Runs as Law
use Rattle.wv_model.proofs.simulation.ends_alike.Goals as goal

pub returns : goal.returns
returns g c = let law = g.S.Simulation in Law.ends_alike law.first law.second
