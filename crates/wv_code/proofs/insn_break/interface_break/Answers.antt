use Rattle.std.proofs.Common.{◌≡◌}
use Rattle.wv_code.specs.Operands.{IsCountOf}
use Rattle.wv_code.proofs.LeastPlaces.{asked}
use Rattle.wv_code.proofs.InsnPlaces.{interface_some, interface_none, is_zero}
use Rattle.wv_code.proofs.insn_break.interface_break.Goals as goal

pub returns-in-Some : goal.returns-in-Some
returns-in-Some c = λ offsets at.
    interface_some c.args.pool.now c.args.number c.args.base offsets at c.args.count c.args.zero c.in-Some.descriptor.now c.in-Some.ensures.found c.lesser.ensures
    (asked (IsCountOf c.in-Some.descriptor.now c.args.count) c.unless.ensures c.is_count_of.ensures)
    (asked (c.args.zero ≡ 0) c.unless-last.ensures (is_zero c.args.zero))

pub returns-in-None : goal.returns-in-None
returns-in-None c = λ offsets at.
    interface_none c.args.pool.now c.args.number c.args.base offsets at c.args.count c.args.zero c.in-None.ensures.none c.lesser-in-None.ensures
    (asked (c.args.zero ≡ 0) c.unless-last.ensures (is_zero c.args.zero))
