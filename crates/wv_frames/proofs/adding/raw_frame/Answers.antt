use Rattle.std.proofs.Common.{◌≡◌, List, Some, ap, subst, ◌∙◌}
use Rattle.std.proofs.lemmas.Result.{err_from_is_err_and}
use Rattle.wv_base.specs.declared.frame.VType.{VType}
use Rattle.wv_pool.specs.Adding.{AreTooMany, Grows}
use Rattle.wv_frames.specs.Whole.{types_of}
use Rattle.wv_frames.specs.Writing.{types_need}
use Rattle.wv_frames.proofs.PoolGrowth.{grows_then, too_many_then, too_many_more, types_kept, full_found}
use Rattle.wv_frames.proofs.adding.raw_frame.Goals as goal

pub returns-in_err-locals-clause-full : goal.returns-in_err-locals-clause-full
returns-in_err-locals-clause-full c =
    let p = err_from_is_err_and c.from_residual.result c.from_residual.ensures.1 in
    rw (p.1, p.2) (λ full. too_many_more c.args.pool.now (types_need c.args.frame.now.stack) (types_need c.args.frame.now.locals) (subst (λ (ks : List VType). AreTooMany c.args.pool.now (types_need ks)) c.as_slice.ensures (c.in_err-locals.ensures.full full)))

pub returns-in_err-stack-clause-full : goal.returns-in_err-stack-clause-full
returns-in_err-stack-clause-full c =
    let p = err_from_is_err_and c.from_residual-in_err-stack.result c.from_residual-in_err-stack.ensures.1 in
    let one : Grows c.args.pool.now (types_need c.args.frame.now.locals) c.raw_types.new.pool = subst (λ (ks : List VType). Grows c.args.pool.now (types_need ks) c.raw_types.new.pool) c.as_slice.ensures c.in_ok-locals.ensures.grows in
    rw (p.1, p.2) (λ full. too_many_then c.args.pool.now c.raw_types.new.pool (types_need c.args.frame.now.locals) (types_need c.args.frame.now.stack) one (subst (λ (ks : List VType). AreTooMany c.raw_types.new.pool (types_need ks)) c.as_slice-2.ensures (c.in_err-stack.ensures.full full)))

pub returns-clause-found : goal.returns-clause-found
returns-clause-found c = λ before.
    let locals : types_of c.raw_types.new.pool c.in_ok-locals.locals ≡ Some c.args.frame.now.locals = c.in_ok-locals.ensures.found ∙ ap (λ (ks : List VType). Some ks) c.as_slice.ensures in
    let stack : types_of c.raw_types-2.new.pool c.in_ok-stack.stack ≡ Some c.args.frame.now.stack = c.in_ok-stack.ensures.found ∙ ap (λ (ks : List VType). Some ks) c.as_slice-2.ensures in
    full_found c.raw_types-2.new.pool c.args.delta c.in_ok-locals.locals c.in_ok-stack.stack c.args.frame.now before (types_kept c.raw_types.new.pool c.raw_types-2.new.pool c.in_ok-locals.locals c.args.frame.now.locals c.in_ok-stack.ensures.kept locals) stack c.requires.2

pub returns-clause-grows : goal.returns-clause-grows
returns-clause-grows c =
    let one : Grows c.args.pool.now (types_need c.args.frame.now.locals) c.raw_types.new.pool = subst (λ (ks : List VType). Grows c.args.pool.now (types_need ks) c.raw_types.new.pool) c.as_slice.ensures c.in_ok-locals.ensures.grows in
    let two : Grows c.raw_types.new.pool (types_need c.args.frame.now.stack) c.raw_types-2.new.pool = subst (λ (ks : List VType). Grows c.raw_types.new.pool (types_need ks) c.raw_types-2.new.pool) c.as_slice-2.ensures c.in_ok-stack.ensures.grows in
    grows_then c.args.pool.now c.raw_types.new.pool c.raw_types-2.new.pool (types_need c.args.frame.now.locals) (types_need c.args.frame.now.stack) one two
