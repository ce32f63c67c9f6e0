use Rattle.wv_form.proofs.OneTarget.{target-of}
use Rattle.wv_form.proofs.kinds.target_text.Goals as goal

pub returns-in-Some : goal.returns-in-Some
returns-in-Some c =
    target-of c.args.descriptor.now c.in-Some.name.now c.text_of_name.result (rw c.units.ensures at c.in-Some.ensures) c.text_of_name.ensures
