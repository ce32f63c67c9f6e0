use Rattle.wv_model.specs.Corresponds.{steps_for_one}
use Rattle.wv_model.proofs.Corresponds.{corresponds}
use Rattle.wv_model.proofs.simulation.correspond.Goals as goal

pub returns : goal.returns
returns g c =
    let law = g.S.Simulation in
    λ n s t r. corresponds steps_for_one law.first law.second law.related law.simulates n s t r law.first_grows law.second_grows
