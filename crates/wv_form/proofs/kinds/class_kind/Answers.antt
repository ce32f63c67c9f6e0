use Rattle.std.proofs.Common.{refl}
use Rattle.wv_form.proofs.OneTarget.{target-is}
use Rattle.wv_form.proofs.kinds.class_kind.Goals as goal

pub returns-in_ok-target_text-in-Some : goal.returns-in_ok-target_text-in-Some
returns-in_ok-target_text-in-Some c = (
  refl,
  c.in_ok-is_thin-2.ensures.0 c.if-not-branch.false,
  target-is c.args.class.now c.in-Some.descriptor.now c.in_ok-target_text-in-Some.field-0 (rw c.in-Some.is at c.target_of.ensures) c.in_ok-target_text-in-Some.ensures,
)

pub returns-in-None : goal.returns-in-None
returns-in-None c =
    let mixin = c.in_ok-is_thin-2.ensures.0 c.if-not-branch.false in
    absurd ((rw c.in-None.is at c.target_of.ensures) mixin.1.notes.0 mixin.1.notes.1)
