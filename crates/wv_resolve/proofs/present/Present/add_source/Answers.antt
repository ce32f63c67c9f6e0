use Rattle.std.proofs.Common.{List, ◌++◌, ◌+◌, subst, sym, drop, map}
use Rattle.std.proofs.lemmas.Result.{err_from_is_err_and}
use Rattle.wv_resolve.specs.Presence.{Presence}
use Rattle.wv_resolve.specs.Holding.{Holds, source_presence, source_presences}
use Rattle.wv_resolve.proofs.Twice.{twice-more, provided-more, provided-all, provided-cut, own-first}
use Rattle.wv_resolve.proofs.present.Present.add_source.Goals as goal

pub returns-in_err-add-clause-twice : goal.returns-in_err-add-clause-twice
returns-in_err-add-clause-twice c =
    let p = err_from_is_err_and c.from_residual.result c.from_residual.ensures.1 in
    λ list h. rw (p.1, p.2)
    (twice-more _ (map (source_presence c.args.source.now) c.args.source.now.provides.now) (list ++ source_presences c.args.source.now) c.in_err-add.field-0.0
    (own-first list c.args.source.now)
    (c.in_err-add.ensures.twice list h))

pub returns-in_err-add-2-clause-twice : goal.returns-in_err-add-2-clause-twice
returns-in_err-add-2-clause-twice c =
    let p = err_from_is_err_and c.from_residual-in_err-add-2.result c.from_residual-in_err-add-2.ensures.1 in
    λ list h. rw (p.1, p.2)
    (twice-more _ (map (source_presence c.args.source.now) (drop (c.loop-id.id-index + 1) c.args.source.now.provides.now)) (list ++ source_presences c.args.source.now) c.in_err-add-2.field-0.0
    (provided-cut list c.args.source.now c.loop-id.id-index c.id-item.result c.loop-id-test.true c.id-item.is)
    (c.in_err-add-2.ensures.twice _ (c.loop-id.invariant list h)))

pub loop-id-preserved : goal.loop-id-preserved
loop-id-preserved c = λ list h.
    subst (λ (all : List Presence). Holds all c.add-in-loop-id.new.self) (sym (provided-more list c.args.source.now c.loop-id.id-index c.id-item.result c.loop-id-test.true c.id-item.is))
    (c.in_ok-add-2.ensures.holds _ (c.loop-id.invariant list h))

pub returns-clause-holds : goal.returns-clause-holds
returns-clause-holds c = λ list h.
    subst (λ (all : List Presence). Holds all c.loop-id.self) (provided-all list c.args.source.now c.loop-id.id-index c.loop-id-test.false) (c.loop-id.invariant list h)
