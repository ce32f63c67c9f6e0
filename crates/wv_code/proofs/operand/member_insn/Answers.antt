use Rattle.std.proofs.Common.{◌≡◌, Some}
use Rattle.wv_base.specs.declared.constant.Const.TheVariants as constants
use Rattle.wv_pool.specs.Constants.{constant_of}
use Rattle.wv_code.proofs.Operands.{field_means, method_means}
use Rattle.wv_code.proofs.operand.member_insn.Goals as goal

pub returns-in-Some-Field : goal.returns-in-Some-Field
returns-in-Some-Field c = λ offsets at.
    let named : constant_of c.args.pool.now c.args.number ≡ Some (constants.Field c.in-Some-Field.member) = cc (c.in_ok-member.ensures) in
    rw c.reference.ensures (field_means c.args.pool.now offsets at c.args.op c.args.number c.in-Some-Field.member c.requires named)

pub returns-in-Some-Method : goal.returns-in-Some-Method
returns-in-Some-Method c = λ offsets at.
    let named : constant_of c.args.pool.now c.args.number ≡ Some (constants.Method c.in-Some-Method.member c.in-Some-Method.interface) = cc (c.in_ok-member.ensures) in
    rw c.reference-in-Some-Method.ensures (method_means c.args.pool.now offsets at c.args.op c.args.number c.in-Some-Method.member c.in-Some-Method.interface c.requires named)
