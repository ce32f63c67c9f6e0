use Rattle.std.proofs.Common.{[], ◌∷◌, Ok, Err}
use Rattle.wv_base.specs.declared.constant.Const.TheVariants as constants
use Rattle.wv_pool.proofs.Lacking.{adds_failed, adds_then, later}
use Rattle.wv_pool.proofs.Parts.{pair_sound, pair_named}
use Rattle.wv_pool.proofs.pool.Pool.add_pair.Goals as goal

pub returns-in_err-add_text : goal.returns-in_err-add_text
returns-in_err-add_text c =
    let x = c.args.name.now in
    let y = c.args.descriptor.now in
    adds_failed c.args.self.now c.add_text.new.self (constants.NameAndType x y ∷ constants.Utf8 y ∷ []) (constants.Utf8 x ∷ []) (constants.Utf8 x) (constants.NameAndType x y) c.in_err-add_text.field-0.0 c.from_residual.result c.from_residual.ensures.1 c.in_err-add_text.ensures

pub returns-in_err-add_text-2 : goal.returns-in_err-add_text-2
returns-in_err-add_text-2 c =
    let x = c.args.name.now in
    let y = c.args.descriptor.now in
    let both = adds_then c.args.self.now c.add_text.new.self c.add_text-2.new.self (constants.Utf8 x ∷ []) (constants.Utf8 y ∷ []) (constants.Utf8 x) (constants.Utf8 y) c.in_ok-add_text.field-0 (Err c.in_err-add_text-2.field-0.0) c.in_ok-add_text.ensures c.in_err-add_text-2.ensures in
    adds_failed c.args.self.now c.add_text-2.new.self (constants.NameAndType x y ∷ []) (constants.Utf8 y ∷ constants.Utf8 x ∷ []) (constants.Utf8 y) (constants.NameAndType x y) c.in_err-add_text-2.field-0.0 c.from_residual-in_err-add_text-2.result c.from_residual-in_err-add_text-2.ensures.1 both

pub put-requires-clause-sound : goal.put-requires-clause-sound
put-requires-clause-sound c =
    let x = c.args.name.now in
    let y = c.args.descriptor.now in
    let first = later c.add_text.new.self c.add_text-2.new.self c.in_ok-add_text.field-0 (constants.Utf8 x) c.in_ok-add_text-2.ensures.0 c.in_ok-add_text.ensures.1.names in
    pair_sound c.add_text-2.new.self c.in_ok-add_text.field-0 c.in_ok-add_text-2.field-0 x y first c.in_ok-add_text-2.ensures.1.names c.requires.text.2 c.requires.descriptor

pub put-requires-clause-named : goal.put-requires-clause-named
put-requires-clause-named c =
    let x = c.args.name.now in
    let y = c.args.descriptor.now in
    let first = later c.add_text.new.self c.add_text-2.new.self c.in_ok-add_text.field-0 (constants.Utf8 x) c.in_ok-add_text-2.ensures.0 c.in_ok-add_text.ensures.1.names in
    rw (c.in_ok-copy.ensures, c.in_ok-copy-2.ensures) (pair_named c.add_text-2.new.self c.in_ok-add_text.field-0 c.in_ok-add_text-2.field-0 x y first c.in_ok-add_text-2.ensures.1.names)

pub returns : goal.returns
returns c =
    let x = c.args.name.now in
    let y = c.args.descriptor.now in
    let both = adds_then c.args.self.now c.add_text.new.self c.add_text-2.new.self (constants.Utf8 x ∷ []) (constants.Utf8 y ∷ []) (constants.Utf8 x) (constants.Utf8 y) c.in_ok-add_text.field-0 (Ok c.in_ok-add_text-2.field-0) c.in_ok-add_text.ensures c.in_ok-add_text-2.ensures in
    adds_then c.args.self.now c.add_text-2.new.self c.put.new.self (constants.Utf8 y ∷ constants.Utf8 x ∷ []) (constants.NameAndType x y ∷ []) (constants.Utf8 y) (constants.NameAndType x y) c.in_ok-add_text-2.field-0 c.put.result both (rw (c.in_ok-copy.ensures, c.in_ok-copy-2.ensures) at c.put.ensures)
