use Rattle.std.proofs.Common.{subst, sym, drop, take, flat_map, List, ◌+◌}
use Rattle.std.proofs.lemmas.Result.{err_from_is_err_and}
use Rattle.wv_resolve.specs.Presence.{Presence}
use Rattle.wv_resolve.specs.Holding.{Holds, source_presences}
use Rattle.wv_resolve.proofs.Lists.{flat-more, flat-cut}
use Rattle.wv_resolve.proofs.Twice.{twice-more}
use Rattle.wv_resolve.proofs.present.Present.read.Goals as goal

pub returns-in_err-add_source-clause-twice : goal.returns-in_err-add_source-clause-twice
returns-in_err-add_source-clause-twice c =
    let p = err_from_is_err_and c.from_residual.result c.from_residual.ensures.1 in
    let done = flat_map source_presences (take c.loop-source.source-index c.args.sources.now) in
    rw (p.1, p.2)
    (twice-more _ (flat_map source_presences (drop (c.loop-source.source-index + 1) c.args.sources.now)) _ c.in_err-add_source.field-0.0
    (flat-cut source_presences c.args.sources.now c.loop-source.source-index c.source-item.result c.loop-source-test.true c.source-item.is)
    (c.in_err-add_source.ensures.twice done c.loop-source.invariant))

pub loop-source-preserved : goal.loop-source-preserved
loop-source-preserved c =
    subst (λ (list : List Presence). Holds list c.add_source.new.self) (sym (flat-more source_presences c.args.sources.now c.loop-source.source-index c.source-item.result c.loop-source-test.true c.source-item.is))
    (c.in_ok-add_source.ensures.holds (flat_map source_presences (take c.loop-source.source-index c.args.sources.now)) c.loop-source.invariant)
