use Rattle.std.proofs.Common.{◌≡◌, ◌++◌, ◌∷◌, [], ◌+◌, List, length, take, drop, ap, sym, subst, ◌∙◌, refl, arith}
use Rattle.std.proofs.lemmas.List.{take_more, append-nil, length-append}
use Rattle.std.proofs.lemmas.Result.{err_from_is_err_and}
use Rattle.wv_base.specs.declared.constant.Const.{Const}
use Rattle.wv_pool.specs.Adding.{AreTooMany, Grows}
use Rattle.wv_pool.proofs.Entire.{split_at, AllByRecursion-push}
use Rattle.wv_pool.proofs.Lacking.{keeps_then, grows_start}
use Rattle.wv_frames.specs.Spelling.{IsType}
use Rattle.wv_frames.specs.Whole.{types_of}
use Rattle.wv_frames.specs.Writing.{type_needs, types_need}
use Rattle.wv_frames.proofs.WholeFrames.{types_more}
use Rattle.wv_frames.proofs.PoolGrowth.{grows_then, too_many_then, too_many_more, types_kept, types_need-more, types_need-split}
use Rattle.wv_frames.proofs.adding.raw_types.Goals as goal

pub loop-kind-init : goal.loop-kind-init
loop-kind-init c = rw c.new-raw.ensures (record { found = refl; types = tt; len = refl; kept = ([], sym (append-nil c.args.pool.now)); grows = grows_start c.args.pool.now })

pub returns-in_err-raw_type-clause-full : goal.returns-in_err-raw_type-clause-full
returns-in_err-raw_type-clause-full c =
    let p = err_from_is_err_and c.from_residual.result c.from_residual.ensures.1 in
    let parts : c.args.kinds.now ≡ take c.loop-kind.kind-index c.args.kinds.now ++ c.kind-item.result ∷ drop (c.loop-kind.kind-index + 1) c.args.kinds.now = rw c.kind-item.is (split_at c.args.kinds.now c.loop-kind.kind-index c.kind-item.result c.loop-kind-test.true) in
    let needs = types_need-split c.args.kinds.now (take c.loop-kind.kind-index c.args.kinds.now) (drop (c.loop-kind.kind-index + 1) c.args.kinds.now) c.kind-item.result parts in
    rw (p.1, p.2) (λ full. subst (AreTooMany c.args.pool.now) (sym needs) (too_many_more c.args.pool.now (types_need (drop (c.loop-kind.kind-index + 1) c.args.kinds.now)) (type_needs c.kind-item.result ++ types_need (take c.loop-kind.kind-index c.args.kinds.now))
    (too_many_then c.args.pool.now c.loop-kind.pool (types_need (take c.loop-kind.kind-index c.args.kinds.now)) (type_needs c.kind-item.result) c.loop-kind.invariant.grows (c.in_err-raw_type.ensures.full full))))

pub loop-kind-preserved : goal.loop-kind-preserved
loop-kind-preserved c =
    let front = take c.loop-kind.kind-index c.args.kinds.now in
    let raw = c.in_ok-raw_type.field-0 in
    record {
      found = rw (take_more c.args.kinds.now c.loop-kind.kind-index c.kind-item.result c.loop-kind-test.true, ← c.kind-item.is)
          (ap (types_of c.raw_type.new.pool) c.in_ok-push.ensures.ok
          ∙ types_more c.raw_type.new.pool c.loop-kind.raw front raw c.kind-item.result (types_kept c.loop-kind.pool c.raw_type.new.pool c.loop-kind.raw front c.in_ok-raw_type.ensures.kept c.loop-kind.invariant.found) c.in_ok-raw_type.ensures.found.1);
      types = rw c.in_ok-push.ensures.ok (AllByRecursion-push IsType c.loop-kind.raw raw c.loop-kind.invariant.types c.in_ok-raw_type.ensures.found.0);
      len = omega (arith, ap length c.in_ok-push.ensures.ok, length-append c.loop-kind.raw (raw ∷ []), c.loop-kind.invariant.len);
      kept = keeps_then c.args.pool.now c.loop-kind.pool c.raw_type.new.pool c.loop-kind.invariant.kept c.in_ok-raw_type.ensures.kept;
      grows = rw (take_more c.args.kinds.now c.loop-kind.kind-index c.kind-item.result c.loop-kind-test.true, ← c.kind-item.is)
          (subst (λ (cs : List Const). Grows c.args.pool.now cs c.raw_type.new.pool) (sym (types_need-more front c.kind-item.result))
          (grows_then c.args.pool.now c.loop-kind.pool c.raw_type.new.pool (types_need front) (type_needs c.kind-item.result) c.loop-kind.invariant.grows c.in_ok-raw_type.ensures.grows));
    }
