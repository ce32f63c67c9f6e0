use Rattle.std.proofs.Common.{rules, tests}
use Rattle.std.specs.Prelude.{IsTrue}
use Rattle.wv_class.proofs.FormedMethods.{method_is}
use Rattle.wv_class.proofs.formed_method.is_formed_method.Goals as goal

pub returns-in_ok-has_formed_attributes : goal.returns-in_ok-has_formed_attributes
returns-in_ok-has_formed_attributes c =
    let head : IsTrue c.in_ok-has_formed_head.field-0 = search (rules, tests) in
    method_is c.args.pool.now c.args.method.now c.in_ok-has_formed_attributes.field-0 (c.in_ok-has_formed_head.ensures.0 head) c.in_ok-has_formed_attributes.ensures
