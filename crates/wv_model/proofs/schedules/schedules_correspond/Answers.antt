use Rattle.wv_model.specs.Corresponds.{steps_for_one}
use Rattle.wv_model.proofs.EverySchedule as Law
use Rattle.wv_model.proofs.schedules.schedules_correspond.Goals as goal

pub returns : goal.returns
returns g c =
    let law = g.S.ThreadSimulation in
    Law.schedules_correspond steps_for_one law.first law.second law.related law.simulates
