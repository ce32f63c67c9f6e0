use Rattle.std.specs.Int.{w32}
use Rattle.std.proofs.lemmas.Int.{to_z-of_z}
use Rattle.wv_code.proofs.NamedOperands.{through, lands_some, lands_none}
use Rattle.wv_code.proofs.demand.lands.Goals as goal

pub returns-in-Some : goal.returns-in-Some
returns-in-Some c = through c.starts.ensures (lands_some c.args.offsets.now c.args.at c.in-Some.to c.args.distance _ (to_z-of_z w32 c.args.distance c.ranges.distance) c.in-Some.ensures)

pub returns-in-None : goal.returns-in-None
returns-in-None c = ((λ t. absurd cc), (λ l. absurd (lands_none c.args.offsets.now c.args.at c.args.distance _ (to_z-of_z w32 c.args.distance c.ranges.distance) c.type_inv.offsets c.in-None.ensures l)))
