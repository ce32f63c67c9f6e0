use Rattle.std.proofs.Common.{get_or, pos, SFits, rules}
use Rattle.std.proofs.lemmas.Int.{to_z-of_z}
use Rattle.std.specs.Int.{w32}
use Rattle.wv_code.proofs.Landings.{land_on}
use Rattle.wv_code.proofs.target.landings.Goals as goal

pub loop-distance-preserved : goal.loop-distance-preserved
loop-distance-preserved c =
    let distance = get_or c.args.distances.now c.loop-distance.distance-index (pos 0) in
    let fits : SFits w32 distance = search rules in
    rw c.in_ok-push.ensures.ok
    (land_on c.args.offsets.now c.args.at c.args.distances.now c.loop-distance.distance-index (pos 0) c.loop-distance.found c.landing.result c.loop-distance-test.true c.loop-distance.invariant (rw (to_z-of_z w32 distance fits) at c.landing.ensures))
