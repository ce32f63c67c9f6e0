use Rattle.std.proofs.Common.{arith}
use Rattle.wv_model.specs.Corresponds.{steps_for_one}
use Rattle.wv_model.proofs.Lift.{lifts}
use Rattle.wv_model.proofs.frames.states_simulate.Goals as goal

pub returns : goal.returns
returns g c =
    let law = g.S.FrameSimulation in
    lifts steps_for_one law.rules law.first law.second law.relation law.laws (omega arith)
