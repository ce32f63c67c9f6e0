use Rattle.std.proofs.Common.{[], ◌∷◌, append_assoc, ap, ◌∙◌, ◌++◌}
use Rattle.wv_class.specs.Needs.{value_constants}
use Rattle.wv_class.proofs.needed.push_value.Goals as goal

pub returns-in_ok-push-2 : goal.returns-in_ok-push-2
returns-in_ok-push-2 c = rw (ap value_constants c.in-Some.is, c.in_ok-push-2.ensures.ok, c.in_ok-push.ensures.ok, c.in_ok-text.ensures, c.in_ok-copy.ensures) (append_assoc c.args.out.now _ _)
