use Rattle.std.proofs.Common.{◌≡◌, ◌<◌, ◌⊎◌}
use Rattle.wv_code.specs.Breaks.{Starts, NamesClass}
use Rattle.wv_code.proofs.LeastPlaces.{asked}
use Rattle.wv_code.proofs.RangePlaces.{range_least}
use Rattle.wv_code.proofs.range_break.range_break.Goals as goal

pub returns : goal.returns
returns c =
    range_least c.args.pool.now c.args.offsets.now c.args.len c.args.range c.args.base c.lesser-3.ensures c.lesser.ensures c.lesser-2.ensures
    (asked (Starts c.args.offsets.now c.args.range.start × (c.args.range.start < c.args.range.end)) c.unless-start.ensures c.is_start.ensures)
    (asked (Starts c.args.offsets.now c.args.range.end ⊎ (c.args.range.end ≡ c.args.len)) c.unless-end.ensures c.is_end.ensures)
    (asked (Starts c.args.offsets.now c.args.range.handler) c.unless-handler.ensures (rw c.from.ensures at c.starts.ensures))
    (asked ((c.args.range.catch ≡ 0) ⊎ NamesClass c.args.pool.now c.args.range.catch) c.unless-catch.ensures c.is_catch.ensures)
