use Rattle.std.proofs.Common.{◌+◌, ℕ, ap}
use Rattle.std.specs.Int.{w32}
use Rattle.std.proofs.lemmas.Int.{to_z-of_z}
use Rattle.wv_code.specs.Breaks.{Lands}
use Rattle.wv_code.proofs.LeastPlaces.{asked}
use Rattle.wv_code.proofs.InsnPlaces.{lookup_least}
use Rattle.wv_code.proofs.insn_break.lookup_break.Goals as goal

pub returns : goal.returns
returns c = λ pool.
    lookup_least pool c.args.offsets.now c.args.at c.args.base (c.args.base + c.switch_place.result) c.args.other c.args.cases.now
    (ap (λ (z : ℕ). c.args.base + z) c.switch_place.ensures) c.lesser.ensures
    (asked (Lands c.args.offsets.now c.args.at c.args.other) c.unless-elsewhere.ensures (rw (to_z-of_z w32 c.args.other c.ranges.other) at c.lands.ensures))
    c.cases_break-cases.ensures
