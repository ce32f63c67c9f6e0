use Rattle.wv_model.proofs.Lift.{machine_grows}
use Rattle.wv_model.proofs.step.steps_only_add.Goals as goal

pub returns : goal.returns
returns g c = let law = g.M.Framed in machine_grows law.rules law.control
