use Rattle.std.proofs.Common.{◌∙◌}
use Rattle.wv_classes.proofs.Spelling.{spelled, unspelled}
use Rattle.wv_classes.proofs.checking.is_text_of.Goals as goal

pub returns-in-Ok : goal.returns-in-Ok
returns-in-Ok c =
    spelled c.args.name.now c.args.text.now c.as_str.result.now c.eq.result
    (rw (c.in-Ok.is, c.units.ensures) at c.in_ok-spelled.ensures.unpaired)
    (c.as_str.ensures.value ∙ (rw (c.in-Ok.is, c.units.ensures) at c.in_ok-spelled.ensures.chars))
    (rw c.as_str-in-Ok.ensures at c.eq.ensures)

pub returns-in-Err : goal.returns-in-Err
returns-in-Err c =
    unspelled c.args.name.now c.args.text.now (rw (c.in-Err.is, c.units.ensures) at c.in_ok-spelled.ensures.unpaired)
