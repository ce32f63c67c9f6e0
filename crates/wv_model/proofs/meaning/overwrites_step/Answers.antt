use Rattle.wv_model.proofs.FirstMeaning.{written_follow, written_steps, start_related}
use Rattle.wv_model.proofs.Lockstep.{shared_alike}
use Rattle.wv_model.proofs.meaning.overwrites_step.Goals as goal

pub returns-clause-starts : goal.returns-clause-starts
returns-clause-starts c = start_related

pub returns-clause-shared : goal.returns-clause-shared
returns-clause-shared c = shared_alike

pub returns-clause-steps : goal.returns-clause-steps
returns-clause-steps c = written_steps

pub returns-clause-follows : goal.returns-clause-follows
returns-clause-follows c = written_follow
