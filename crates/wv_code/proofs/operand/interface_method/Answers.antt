use Rattle.std.proofs.Common.{◌≡◌, true, Some}
use Rattle.wv_base.specs.declared.constant.Const.TheVariants as constants
use Rattle.wv_pool.specs.Constants.{constant_of}
use Rattle.wv_code.proofs.Operands.{method_descriptor}
use Rattle.wv_code.proofs.operand.interface_method.Goals as goal

pub returns-clause-method : goal.returns-clause-method
returns-clause-method c =
    let named : constant_of c.args.pool.now c.args.number ≡ Some (constants.Method c.in-Some-Method-default-true.reference true) = cc (c.in_ok-reference.ensures) in
    method_descriptor c.args.pool.now c.args.number c.in-Some-Method-default-true.reference c.entries-entries.ensures.sound named
