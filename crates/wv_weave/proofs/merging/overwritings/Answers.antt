use Rattle.std.proofs.Common.{ℕ, arith}
use Rattle.std.proofs.lemmas.Result.{err_from_is_err_and}
use Rattle.wv_resolve.proofs.Entries.{first-at}
use Rattle.wv_weave.specs.Overwrites.{FindsAll, IsFirstLacking, LacksOne}
use Rattle.wv_weave.proofs.Edits.{edits-all, edits-init, edits-next, found-all}
use Rattle.wv_weave.proofs.FrontFaults.{fault-weaker}
use Rattle.wv_weave.proofs.WeaveClauses.{edits-long}
use Rattle.wv_weave.proofs.merging.overwritings.Goals as goal

pub loop-mixin-init : goal.loop-mixin-init
loop-mixin-init c = (edits-init c.args.classes.now c.in_ok-edits.edits.items c.in_ok-edits.ensures, tt)

pub index_mut-requires : goal.index_mut-requires
index_mut-requires c =
    let stands = c.in_ok-place.ensures.edit.3.0 in
    let long = edits-long c.args.classes.now _ c.loop-mixin.edits.items c.loop-mixin.invariant.0 in
    let count = c.loop-mixin.edits.ok.0 in
    omega arith

pub returns-in_err-place-clause-lacking : goal.returns-in_err-place-clause-lacking
returns-in_err-place-clause-lacking c =
    let classes = c.args.classes.now in
    let mixins = c.args.mixins.now in
    let mixin = c.mixin-item.result in
    let p = err_from_is_err_and c.from_residual-in_err-place.result c.from_residual-in_err-place.ensures.1 in
    rw (p.1, p.2) (fault-weaker (λ broken. LacksOne classes broken mixin) (IsFirstLacking classes mixins)
    (λ broken lacks. (mixin, first-at (FindsAll classes) (LacksOne classes broken) mixins c.loop-mixin.mixin-index mixin c.loop-mixin-test.true c.mixin-item.is c.loop-mixin.invariant.1 lacks))
    c.in_err-place.field-0.0 c.in_err-place.ensures.lacking)

pub loop-mixin-preserved : goal.loop-mixin-preserved
loop-mixin-preserved c =
    edits-next c.args.classes.now c.args.mixins.now c.loop-mixin.mixin-index c.mixin-item.result c.loop-mixin.edits.items c.in_ok-place.place c.in_ok-place.overwriting
    c.requires.formed.distinct c.loop-mixin-test.true c.mixin-item.is c.in_ok-place.ensures.edit c.in_ok-place.ensures.found c.loop-mixin.invariant

pub returns-clause-edits : goal.returns-clause-edits
returns-clause-edits c = edits-all c.args.classes.now c.args.mixins.now c.loop-mixin.mixin-index c.loop-mixin.edits.items c.loop-mixin-test.false c.loop-mixin.invariant.0

pub returns-clause-found : goal.returns-clause-found
returns-clause-found c = found-all c.args.classes.now c.args.mixins.now c.loop-mixin.mixin-index c.loop-mixin-test.false c.loop-mixin.invariant.1
