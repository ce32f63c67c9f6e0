use Rattle.wv_form.proofs.OneForm.{formed-not_refused}
use Rattle.wv_form.proofs.laws.form_or_refused.Goals as goal

pub returns : goal.returns
returns c = formed-not_refused
