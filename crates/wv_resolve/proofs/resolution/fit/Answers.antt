use Rattle.std.proofs.Common.{◌∙◌, subst, ap, flat_map, List}
use Rattle.std.proofs.lemmas.Result.{err_from_is_err_and}
use Rattle.wv_resolve.specs.Presence.{Presence, present_ids}
use Rattle.wv_resolve.specs.Holding.{Holds, source_presences}
use Rattle.wv_resolve.proofs.Fitting.{unfit-twice, unfit-unmet, unfit-met, fits}
use Rattle.wv_resolve.proofs.resolution.fit.Goals as goal

pub returns-in_err-present-clause-fault : goal.returns-in_err-present-clause-fault
returns-in_err-present-clause-fault c =
    let p = err_from_is_err_and c.from_residual-in_err-present.result c.from_residual-in_err-present.ensures.1 in
    rw (p.1, p.2)
    (unfit-twice c.args.builtin.now c.args.loaded.now _ c.in_err-present.field-0.0 (ap (flat_map source_presences) c.as_slice.ensures.value ∙ c.in_ok-sources.ensures.present) c.in_err-present.ensures.twice)

pub returns-in_err-check-clause-fault : goal.returns-in_err-check-clause-fault
returns-in_err-check-clause-fault c =
    let p = err_from_is_err_and c.from_residual-in_err-check.result c.from_residual-in_err-check.ensures.1 in
    let h = subst (λ (list : List Presence). Holds list c.in_ok-present.present) (ap (flat_map source_presences) c.as_slice.ensures.value ∙ c.in_ok-sources.ensures.present) c.in_ok-present.ensures.holds in
    rw (p.1, p.2)
    (unfit-unmet c.args.builtin.now c.args.loaded.now c.in_err-check.field-0.0 h.distinct (c.in_err-check.ensures.fault (present_ids c.args.builtin.now c.args.loaded.now) h))

pub returns-clause-fitting : goal.returns-clause-fitting
returns-clause-fitting c =
    let h = subst (λ (list : List Presence). Holds list c.in_ok-present.present) (ap (flat_map source_presences) c.as_slice.ensures.value ∙ c.in_ok-sources.ensures.present) c.in_ok-present.ensures.holds in
    fits c.args.builtin.now c.args.loaded.now c.check-2.result h.distinct (c.in_ok-check.ensures.keep (present_ids c.args.builtin.now c.args.loaded.now) h) (c.check-2.ensures.keep (present_ids c.args.builtin.now c.args.loaded.now) h)

pub returns-clause-fault : goal.returns-clause-fault
returns-clause-fault c =
    let h = subst (λ (list : List Presence). Holds list c.in_ok-present.present) (ap (flat_map source_presences) c.as_slice.ensures.value ∙ c.in_ok-sources.ensures.present) c.in_ok-present.ensures.holds in
    unfit-met c.args.builtin.now c.args.loaded.now c.check-2.result h.distinct (c.in_ok-check.ensures.keep (present_ids c.args.builtin.now c.args.loaded.now) h) (c.check-2.ensures.fault (present_ids c.args.builtin.now c.args.loaded.now) h)
