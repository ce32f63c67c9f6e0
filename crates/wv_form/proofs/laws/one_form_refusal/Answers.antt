use Rattle.wv_form.proofs.OneForm.{one-refusal}
use Rattle.wv_form.proofs.laws.one_form_refusal.Goals as goal

pub returns : goal.returns
returns c = one-refusal
