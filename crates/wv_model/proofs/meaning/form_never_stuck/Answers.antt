use Rattle.wv_model.proofs.FirstMeaning.{hook_goes_on}
use Rattle.wv_model.proofs.PlainSafety.{goes_on, narrower}
use Rattle.wv_model.proofs.meaning.form_never_stuck.Goals as goal

pub returns-clause-plain : goal.returns-clause-plain
returns-clause-plain c = goes_on

pub returns-clause-hooked : goal.returns-clause-hooked
returns-clause-hooked c = hook_goes_on

pub returns-clause-narrower : goal.returns-clause-narrower
returns-clause-narrower c = narrower
