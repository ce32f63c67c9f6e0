use Rattle.std.proofs.Common.{arith}
use Rattle.wv_model.specs.Corresponds.{steps_for_one}
use Rattle.wv_model.proofs.ThreadsLift as Law
use Rattle.wv_model.proofs.schedules.threads_correspond.Goals as goal

pub returns : goal.returns
returns g c =
    let law = g.S.ThreadFrames in
    Law.threads_correspond steps_for_one law.rules law.first law.second law.relation law.laws (omega arith)
