use Rattle.std.proofs.Common.{◌+◌, ◌++◌, ◌∷◌, [], take, ℤ, SFits, sym, subst, rules}
use Rattle.std.proofs.lemmas.Int.{to_z-of_z}
use Rattle.std.specs.Int.{w32}
use Rattle.wv_code.specs.Meaning.{AllLead}
use Rattle.wv_code.proofs.Leading.{leads_on}
use Rattle.wv_code.proofs.writing.distances.Goals as goal

pub loop-to-preserved : goal.loop-to-preserved
loop-to-preserved c =
    let fits : SFits w32 c.distance.result = search rules in
    let e = to_z-of_z w32 c.distance.result fits in
    rw c.in_ok-push.ensures.ok (subst (λ (z : ℤ). AllLead c.args.offsets.now c.args.at (c.loop-to.found ++ z ∷ []) (take (c.loop-to.to-index + 1) c.args.targets.now)) (sym e)
    (leads_on c.args.offsets.now c.args.at c.loop-to.found c.args.targets.now c.loop-to.to-index c.distance.result c.loop-to-test.true c.loop-to.invariant c.distance.ensures.leads))
