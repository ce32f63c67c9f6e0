use Rattle.wv_model.specs.Corresponds.{steps_for_one}
use Rattle.wv_model.proofs.Turns as Law
use Rattle.wv_model.proofs.frames.turns_agree.Goals as goal

pub returns : goal.returns
returns g c =
    let law = g.S.FrameSimulation in
    Law.turns_agree steps_for_one law.rules law.first law.second law.relation law.laws
