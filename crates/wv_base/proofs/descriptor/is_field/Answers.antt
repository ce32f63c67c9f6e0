use Rattle.std.proofs.Common.{length, eq-eqb, ap, ◌∙◌, sym}
use Rattle.std.proofs.lemmas.Bool.{eqb-true}
use Rattle.std.proofs.lemmas.List.{nil_from_length}
use Rattle.wv_base.proofs.MethodTypes.{ends_field, is_ended, no_field}
use Rattle.wv_base.proofs.descriptor.is_field.Goals as goal

pub returns-in-Some : goal.returns-in-Some
returns-in-Some c =
    let read = c.in-Some.ensures in (
      λ empty. ends_field c.args.units.now c.in-Some.field-0-0 c.in-Some.rest.now read (nil_from_length c.in-Some.rest.now (eqb-true (length c.in-Some.rest.now) 0 (sym c.is_empty.ensures ∙ empty))),
      λ is. c.is_empty.ensures ∙ eq-eqb (length c.in-Some.rest.now) 0 (ap length (is_ended c.args.units.now c.in-Some.field-0-0 c.in-Some.rest.now read is)),
    )

pub returns-in-None : goal.returns-in-None
returns-in-None c = (λ yes. absurd cc, λ is. absurd (no_field c.args.units.now c.in-None.ensures is))
