use Rattle.std.proofs.Common.{ap, sym, subst}
use Rattle.std.specs.List.{AllByRecursion}
use Rattle.std.proofs.lemmas.Result.{err_from_is_err_and}
use Rattle.wv_pool.specs.Numbers.{Named}
use Rattle.wv_class.specs.Needs.{code_constants}
use Rattle.wv_class.proofs.Layouts.{layout_same, body_breaks}
use Rattle.wv_class.proofs.limits.layout_of.Goals as goal

pub returns-in_err-layout-clause-cause : goal.returns-in_err-layout-clause-cause
returns-in_err-layout-clause-cause c =
    let p = err_from_is_err_and c.from_residual.result c.from_residual.ensures.1 in
    let named = subst (λ b. AllByRecursion (Named c.args.pool.now) (code_constants b)) c.in-Some.is c.requires.named in
    rw (p.1, p.2, c.in-Some.is) (body_breaks c.args.pool.now c.layout.new.pool c.in-Some.body c.entries-entries.ensures.sound named c.in_err-layout.field-0.0 c.in_err-layout.ensures.cause)

pub returns-clause-same : goal.returns-clause-same
returns-clause-same c =
    let named = subst (λ b. AllByRecursion (Named c.args.pool.now) (code_constants b)) c.in-Some.is c.requires.named in
    layout_same c.args.pool.now c.layout.new.pool c.in-Some.body c.entries-entries.ensures.sound named c.in_ok-layout.ensures.entered

pub returns-clause-laid : goal.returns-clause-laid
returns-clause-laid c =
    let named = subst (λ b. AllByRecursion (Named c.args.pool.now) (code_constants b)) c.in-Some.is c.requires.named in
    let same = layout_same c.args.pool.now c.layout.new.pool c.in-Some.body c.entries-entries.ensures.sound named c.in_ok-layout.ensures.entered in
    rw (c.in-Some.is, ← same) c.in_ok-layout.ensures.laid
