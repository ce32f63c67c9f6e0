use Rattle.wv_model.specs.Corresponds.{steps_for_one}
use Rattle.wv_model.proofs.Corresponds.{follows}
use Rattle.wv_model.proofs.simulation.keeps_pace.Goals as goal

pub returns : goal.returns
returns g c =
    let law = g.S.Simulation in
    λ n s t r going. follows steps_for_one law.first law.second law.related law.simulates n s t going r
