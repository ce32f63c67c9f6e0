use Rattle.wv_form.proofs.OneTarget.{target-told, without-note}
use Rattle.wv_form.proofs.kinds.target_name.Goals as goal

pub returns-in-Some : goal.returns-in-Some
returns-in-Some c =
    target-told c.args.class.now c.in-Some.descriptor.now c.target_text.result (rw c.in-Some.is at c.target_of.ensures) c.target_text.ensures

pub returns-in-None : goal.returns-in-None
returns-in-None c = without-note c.args.class.now (rw c.in-None.is at c.target_of.ensures)
