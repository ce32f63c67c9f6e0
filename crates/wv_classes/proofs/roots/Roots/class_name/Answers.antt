use Rattle.std.proofs.Common.{codes, sym, ◌∙◌}
use Rattle.wv_classes.proofs.Behind.{stripped-end, outside-none, named}
use Rattle.wv_classes.proofs.roots.Roots.class_name.Goals as goal

pub returns-in_err-behind : goal.returns-in_err-behind
returns-in_err-behind c = λ folder side roots.
    rw c.from_residual.ensures (outside-none folder side c.args.path.now ((rw c.in_err-behind.was at c.behind.ensures) folder side roots))

pub returns : goal.returns
returns c = λ folder side roots.
    let rest = c.in_ok-behind.field-0.now in
    named folder side c.args.path.now rest c.strip_suffix.result (sym c.is_read.ensures ∙ c.if-not-is_read.false) (c.in_ok-behind.ensures folder side roots)
    (stripped-end (codes ".class") rest c.strip_suffix.result c.strip_suffix.ensures.cases)
