use Rattle.wv_model.proofs.Runs.{longer_shows, longer_stays}
use Rattle.wv_model.proofs.machine.longer_run_keeps.Goals as goal

pub returns-clause-shown : goal.returns-clause-shown
returns-clause-shown g c = let law = g.M.Growing in λ n more s. longer_shows law.machine law.grows n more s

pub returns-clause-ended : goal.returns-clause-ended
returns-clause-ended g c = let law = g.M.Growing in λ n more s e h. longer_stays law.machine n more s e h
