use Rattle.wv_model.proofs.Limit.{frames_fit}
use Rattle.wv_model.proofs.step.frames_stay_within_limit.Goals as goal

pub returns : goal.returns
returns g c = let law = g.M.Framed in frames_fit law.rules law.control
