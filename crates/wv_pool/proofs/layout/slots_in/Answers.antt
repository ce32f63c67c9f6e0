use Rattle.std.proofs.Common.{false}
use Rattle.std.proofs.lemmas.Result.{err_from_is_err_and}
use Rattle.wv_pool.specs.Reading.{slots_in}
use Rattle.wv_pool.proofs.Loop.{goes_on, ends, is_done}
use Rattle.wv_pool.proofs.layout.slots_in.Goals as goal

pub returns-in_err-entry : goal.returns-in_err-entry
returns-in_err-entry c =
    let p = err_from_is_err_and c.from_residual.result c.from_residual.ensures.1 in
    rw (p.1, p.2) (ends c.in_err-entry.field-0.0 c.loop-place.entries.items c.loop-place.wide c.args.count c.loop-place.place c.loop-place.rest.now (slots_in false c.args.count c.args.bytes.now) c.loop-place-test.true c.in_err-entry.ensures c.loop-place.invariant)

pub loop-place-preserved : goal.loop-place-preserved
loop-place-preserved c =
    rw (c.in_ok-push.ensures.items, c.is_wide-wide.ensures) (goes_on c.loop-place.entries.items c.loop-place.wide c.args.count c.loop-place.place c.loop-place.rest.now c.in_ok-entry.entry c.in_ok-entry.after.now (slots_in false c.args.count c.args.bytes.now) c.loop-place-test.true c.in_ok-entry.ensures c.loop-place.invariant)

pub returns : goal.returns
returns c = is_done c.loop-place.entries.items c.loop-place.wide c.args.count c.loop-place.place c.loop-place.rest.now (slots_in false c.args.count c.args.bytes.now) c.loop-place-test.false c.loop-place.invariant
