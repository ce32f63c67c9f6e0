use Rattle.std.proofs.Common.{arith}
use Rattle.wv_pool.proofs.Parts.{are_units}
use Rattle.wv_pool.proofs.add.are_units.Goals as goal

pub returns : goal.returns
returns c = are_units c.args.units.now (λ i. omega (arith, c.type_inv.units i))
