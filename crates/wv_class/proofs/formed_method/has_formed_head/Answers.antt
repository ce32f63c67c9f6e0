use Rattle.std.proofs.Common.{◌≡◌, None, rules, tests}
use Rattle.std.specs.Prelude.{IsTrue}
use Rattle.wv_class.proofs.FormedMethods.{head_is}
use Rattle.wv_class.proofs.formed_method.has_formed_head.Goals as goal

pub returns : goal.returns
returns c =
    let value : c.args.method.now.value ≡ None = search (rules, tests) in
    let narrow : IsTrue c.is_narrow.result = search (rules, tests) in
    let initializer : IsTrue c.is_formed_initializer.result = search (rules, tests) in
    head_is c.args.method.now c.is_named.result value (c.is_narrow.ensures.0 narrow) (c.is_formed_initializer.ensures.0 initializer) c.is_named.ensures
