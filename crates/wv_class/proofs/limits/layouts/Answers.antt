use Rattle.std.proofs.Common.{sym, subst, ◌∙◌}
use Rattle.std.specs.List.{AllByRecursion}
use Rattle.std.proofs.lemmas.Result.{err_from_is_err_and}
use Rattle.wv_base.specs.declared.class_file.Member.{Member}
use Rattle.wv_pool.specs.Numbers.{Named}
use Rattle.wv_code.proofs.Lists.{AllByRecursion-at}
use Rattle.wv_class.specs.Needs.{member_needs}
use Rattle.wv_class.proofs.Layouts.{one_laid, first_breaks}
use Rattle.wv_class.proofs.NeededParts.{class_methods, code_all}
use Rattle.wv_class.proofs.limits.layouts.Goals as goal

pub layout_of-requires-clause-named : goal.layout_of-requires-clause-named
layout_of-requires-clause-named c =
    let l = c.loop-method in
    let class = c.args.class.now in
    let within = rw c.as_slice-method-items.ensures at c.loop-method-test.true in
    let is = rw c.as_slice-method-items.ensures at c.method-item.is in
    let needs =
    AllByRecursion-at (λ (m : Member). AllByRecursion (Named c.args.pool.now) (member_needs m)) class.methods l.method-index c.method-item.result within (class_methods (Named c.args.pool.now) class c.requires.named) in
    let own = subst (λ (m : Member). AllByRecursion (Named c.args.pool.now) (member_needs m)) (sym is) needs in
    rw l.invariant.same (code_all (Named c.args.pool.now) c.method-item.result own)

pub returns-in_err-layout_of-clause-cause : goal.returns-in_err-layout_of-clause-cause
returns-in_err-layout_of-clause-cause c =
    let l = c.loop-method in
    let p = err_from_is_err_and c.from_residual-in_err-layout_of.result c.from_residual-in_err-layout_of.ensures.1 in
    let within = rw c.as_slice-method-items.ensures at c.loop-method-test.true in
    let is = rw c.as_slice-method-items.ensures at c.method-item.is in
    rw (p.1, p.2) (first_breaks c.args.pool.now c.args.class.now.methods l.found.items l.method-index c.method-item.result within is l.invariant.laid c.in_err-layout_of.field-0.0
    (rw (← l.invariant.same) c.in_err-layout_of.ensures.cause))

pub loop-method-preserved : goal.loop-method-preserved
loop-method-preserved c =
    let l = c.loop-method in
    let within = rw c.as_slice-method-items.ensures at c.loop-method-test.true in
    let is = rw c.as_slice-method-items.ensures at c.method-item.is in
    record {
      same = c.in_ok-layout_of.ensures.same ∙ l.invariant.same;
      laid = rw c.in_ok-push.ensures.items (one_laid c.args.pool.now c.args.class.now.methods l.found.items l.method-index c.method-item.result within is l.invariant.laid c.in_ok-layout_of.field-0 (rw (← l.invariant.same) c.in_ok-layout_of.ensures.laid));
    }
