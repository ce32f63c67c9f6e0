use Rattle.std.proofs.Common.{[], ◌∷◌}
use Rattle.wv_base.specs.declared.constant.Const.TheVariants as constants
use Rattle.wv_pool.proofs.Lacking.{adds_failed}
use Rattle.wv_pool.proofs.Parts.{class_sound, class_named}
use Rattle.wv_pool.proofs.pool.Pool.add_class.Goals as goal

pub returns-in_err-text : goal.returns-in_err-text
returns-in_err-text c = adds_failed c.args.self.now c.add_text.new.self (constants.Class c.args.name.now ∷ []) (constants.Utf8 c.args.name.now ∷ []) (constants.Utf8 c.args.name.now) (constants.Class c.args.name.now) c.in_err-text.field-0.0 c.from_residual.result c.from_residual.ensures.1 c.in_err-text.ensures

pub put-requires-clause-sound : goal.put-requires-clause-sound
put-requires-clause-sound c = class_sound c.add_text.new.self c.in_ok-text.text c.args.name.now c.in_ok-text.ensures.1.names c.requires.1

pub put-requires-clause-named : goal.put-requires-clause-named
put-requires-clause-named c = rw c.in_ok-copy.ensures (class_named c.add_text.new.self c.in_ok-text.text c.args.name.now c.in_ok-text.ensures.1.names)
