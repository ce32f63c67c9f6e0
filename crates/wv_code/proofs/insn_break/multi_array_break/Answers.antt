use Rattle.std.proofs.Common.{sym}
use Rattle.wv_code.specs.Operands.{HasDimensions}
use Rattle.wv_code.proofs.LeastPlaces.{asked}
use Rattle.wv_code.proofs.InsnPlaces.{multi_some, multi_none}
use Rattle.wv_code.proofs.insn_break.multi_array_break.Goals as goal

pub returns-in-Some : goal.returns-in-Some
returns-in-Some c = λ offsets at.
    multi_some c.args.pool.now c.args.number c.args.base offsets at c.args.dimensions c.in-Some.name.now (sym c.in-Some.ensures)
    (asked (HasDimensions c.in-Some.name.now c.args.dimensions) c.unless.ensures c.has_dimensions.ensures)

pub returns-in-None : goal.returns-in-None
returns-in-None c = λ offsets at. multi_none c.args.pool.now c.args.number c.args.base offsets at c.args.dimensions (sym c.in-None.ensures)
