use Rattle.std.proofs.Common.{◌+◌, ℕ, ap}
use Rattle.wv_code.specs.Breaks.{Starts, delta_place}
use Rattle.wv_code.proofs.LeastPlaces.{asked}
use Rattle.wv_code.proofs.InsnPlaces.{either_behind, asked_behind}
use Rattle.wv_code.proofs.frame_break.frame_break.Goals as goal

pub returns : goal.returns
returns c =
    either_behind c.args.base c.lesser.ensures
    (asked_behind (Starts c.args.code.now.offsets c.args.at) c.args.base (delta_place c.args.frame.now) (c.args.base + c.delta_place.result) (ap (λ (z : ℕ). c.args.base + z) c.delta_place.ensures.place)
    (asked (Starts c.args.code.now.offsets c.args.at) c.unless-stands.ensures (rw c.as_slice.ensures at c.starts.ensures)))
    c.made_break.ensures
