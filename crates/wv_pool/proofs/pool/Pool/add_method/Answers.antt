use Rattle.std.proofs.Common.{[], ◌∷◌, Ok, Err}
use Rattle.wv_base.specs.declared.constant.Const.TheVariants as constants
use Rattle.wv_pool.specs.Adding.{class_needs, pair_needs, member_needs}
use Rattle.wv_pool.proofs.Lacking.{adds_failed, adds_then, later}
use Rattle.wv_pool.proofs.Parts.{method_sound, method_named, interface_named}
use Rattle.wv_pool.proofs.pool.Pool.add_method.Goals as goal

pub returns-in_err-class : goal.returns-in_err-class
returns-in_err-class c =
    let m = c.args.member.now in
    adds_failed c.args.self.now c.add_class.new.self (constants.Method m c.args.interface ∷ pair_needs m.name m.descriptor) (class_needs m.owner) (constants.Class m.owner) (constants.Method m c.args.interface) c.in_err-class.field-0.0 c.from_residual.result c.from_residual.ensures.1 c.in_err-class.ensures

pub returns-in_err-name_and_type : goal.returns-in_err-name_and_type
returns-in_err-name_and_type c =
    let m = c.args.member.now in
    let both = adds_then c.args.self.now c.add_class.new.self c.add_pair.new.self (class_needs m.owner) (pair_needs m.name m.descriptor) (constants.Class m.owner) (constants.NameAndType m.name m.descriptor) c.in_ok-class.class (Err c.in_err-name_and_type.field-0.0) c.in_ok-class.ensures c.in_err-name_and_type.ensures in
    adds_failed c.args.self.now c.add_pair.new.self (constants.Method m c.args.interface ∷ []) (member_needs m) (constants.NameAndType m.name m.descriptor) (constants.Method m c.args.interface) c.in_err-name_and_type.field-0.0 c.from_residual-in_err-name_and_type.result c.from_residual-in_err-name_and_type.ensures.1 both

pub put-requires-clause-sound : goal.put-requires-clause-sound
put-requires-clause-sound c =
    let m = c.args.member.now in
    let class = later c.add_class.new.self c.add_pair.new.self c.in_ok-class.class (constants.Class m.owner) c.in_ok-name_and_type.ensures.0 c.in_ok-class.ensures.1.names in
    method_sound c.add_pair.new.self c.in_ok-class.class c.in_ok-name_and_type.name_and_type m class c.in_ok-name_and_type.ensures.1.names c.requires.1.1 c.requires.1.2

pub put-requires-clause-named : goal.put-requires-clause-named
put-requires-clause-named c =
    let m = c.args.member.now in
    let class = later c.add_class.new.self c.add_pair.new.self c.in_ok-class.class (constants.Class m.owner) c.in_ok-name_and_type.ensures.0 c.in_ok-class.ensures.1.names in
    rw (c.in_ok-reference.ensures, c.if-interface.true) (interface_named c.add_pair.new.self c.in_ok-class.class c.in_ok-name_and_type.name_and_type m class c.in_ok-name_and_type.ensures.1.names)

pub put-requires-else-interface-clause-sound : goal.put-requires-else-interface-clause-sound
put-requires-else-interface-clause-sound c =
    let m = c.args.member.now in
    let class = later c.add_class.new.self c.add_pair.new.self c.in_ok-class.class (constants.Class m.owner) c.in_ok-name_and_type.ensures.0 c.in_ok-class.ensures.1.names in
    method_sound c.add_pair.new.self c.in_ok-class.class c.in_ok-name_and_type.name_and_type m class c.in_ok-name_and_type.ensures.1.names c.requires.1.1 c.requires.1.2

pub put-requires-else-interface-clause-named : goal.put-requires-else-interface-clause-named
put-requires-else-interface-clause-named c =
    let m = c.args.member.now in
    let class = later c.add_class.new.self c.add_pair.new.self c.in_ok-class.class (constants.Class m.owner) c.in_ok-name_and_type.ensures.0 c.in_ok-class.ensures.1.names in
    rw (c.in_ok-reference.ensures, c.if-interface.false) (method_named c.add_pair.new.self c.in_ok-class.class c.in_ok-name_and_type.name_and_type m class c.in_ok-name_and_type.ensures.1.names)

pub returns-then-interface : goal.returns-then-interface
returns-then-interface c =
    let m = c.args.member.now in
    let both = adds_then c.args.self.now c.add_class.new.self c.add_pair.new.self (class_needs m.owner) (pair_needs m.name m.descriptor) (constants.Class m.owner) (constants.NameAndType m.name m.descriptor) c.in_ok-class.class (Ok c.in_ok-name_and_type.name_and_type) c.in_ok-class.ensures c.in_ok-name_and_type.ensures in
    adds_then c.args.self.now c.add_pair.new.self c.put.new.self (member_needs m) (constants.Method m c.args.interface ∷ []) (constants.NameAndType m.name m.descriptor) (constants.Method m c.args.interface) c.in_ok-name_and_type.name_and_type c.put.result both (rw c.in_ok-reference.ensures at c.put.ensures)

pub returns : goal.returns
returns c =
    let m = c.args.member.now in
    let both = adds_then c.args.self.now c.add_class.new.self c.add_pair.new.self (class_needs m.owner) (pair_needs m.name m.descriptor) (constants.Class m.owner) (constants.NameAndType m.name m.descriptor) c.in_ok-class.class (Ok c.in_ok-name_and_type.name_and_type) c.in_ok-class.ensures c.in_ok-name_and_type.ensures in
    adds_then c.args.self.now c.add_pair.new.self c.put-else-interface.new.self (member_needs m) (constants.Method m c.args.interface ∷ []) (constants.NameAndType m.name m.descriptor) (constants.Method m c.args.interface) c.in_ok-name_and_type.name_and_type c.put-else-interface.result both (rw c.in_ok-reference.ensures at c.put-else-interface.ensures)
