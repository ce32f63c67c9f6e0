use Rattle.std.proofs.Common.{[], ◌∷◌}
use Rattle.wv_base.specs.declared.constant.Const.TheVariants as constants
use Rattle.wv_base.specs.Descriptor.{IsMethodDescriptor}
use Rattle.wv_pool.specs.Adding.{handled, pair_needs, member_needs}
use Rattle.wv_pool.proofs.Lacking.{adds_failed, adds_then}
use Rattle.wv_pool.proofs.Parts.{text_there, string_named, type_named, method_pair, dynamic_named, handle_sound, handle_named}
use Rattle.wv_pool.proofs.pool.Pool.add_parts.Goals as goal

pub returns-in_err-text-in-String : goal.returns-in_err-text-in-String
returns-in_err-text-in-String c =
    rw c.in-String.is (adds_failed c.args.self.now c.add_text-in-String.new.self (constants.String c.in-String.text ∷ []) (constants.Utf8 c.in-String.text ∷ []) (constants.Utf8 c.in-String.text) (constants.String c.in-String.text) c.in_err-text-in-String.field-0.0 c.from_residual.result c.from_residual.ensures.1 c.in_err-text-in-String.ensures)

pub put-requires-in-String-clause-sound : goal.put-requires-in-String-clause-sound
put-requires-in-String-clause-sound c =
    (text_there c.add_text-in-String.new.self c.in_ok-text-in-String.text c.in-String.text (λ _. Unit {0}) c.in_ok-text-in-String.ensures.1.names tt, tt)

pub put-requires-in-String-clause-named : goal.put-requires-in-String-clause-named
put-requires-in-String-clause-named c =
    rw c.in-String.is (string_named c.add_text-in-String.new.self c.in_ok-text-in-String.text c.in-String.text c.in_ok-text-in-String.ensures.1.names)

pub returns-in_err-reference-in-MethodHandle : goal.returns-in_err-reference-in-MethodHandle
returns-in_err-reference-in-MethodHandle c =
    rw c.in-MethodHandle.is (adds_failed c.args.self.now c.add_handled.new.self (constants.MethodHandle c.in-MethodHandle.kind c.in-MethodHandle.reference c.in-MethodHandle.interface ∷ []) (handled c.in-MethodHandle.kind c.in-MethodHandle.reference c.in-MethodHandle.interface ∷ member_needs c.in-MethodHandle.reference) (handled c.in-MethodHandle.kind c.in-MethodHandle.reference c.in-MethodHandle.interface) (constants.MethodHandle c.in-MethodHandle.kind c.in-MethodHandle.reference c.in-MethodHandle.interface) c.in_err-reference-in-MethodHandle.field-0.0 c.from_residual-in_err-reference-in-MethodHandle.result c.from_residual-in_err-reference-in-MethodHandle.ensures.1 c.in_err-reference-in-MethodHandle.ensures)

pub put-requires-in-MethodHandle-clause-sound : goal.put-requires-in-MethodHandle-clause-sound
put-requires-in-MethodHandle-clause-sound c =
    handle_sound c.add_handled.new.self c.in-MethodHandle.kind c.in_ok-reference-in-MethodHandle.reference c.in-MethodHandle.reference c.in-MethodHandle.interface (rw c.in-MethodHandle.is at c.requires) c.in_ok-reference-in-MethodHandle.ensures.1.names

pub put-requires-in-MethodHandle-clause-named : goal.put-requires-in-MethodHandle-clause-named
put-requires-in-MethodHandle-clause-named c =
    rw c.in-MethodHandle.is (handle_named c.add_handled.new.self c.in-MethodHandle.kind c.in_ok-reference-in-MethodHandle.reference c.in-MethodHandle.reference c.in-MethodHandle.interface (rw c.in-MethodHandle.is at c.requires) c.in_ok-reference-in-MethodHandle.ensures.1.names)

pub returns-in_ok-reference-in-MethodHandle : goal.returns-in_ok-reference-in-MethodHandle
returns-in_ok-reference-in-MethodHandle c =
    rw c.in-MethodHandle.is (adds_then c.args.self.now c.add_handled.new.self c.put-in-MethodHandle.new.self (handled c.in-MethodHandle.kind c.in-MethodHandle.reference c.in-MethodHandle.interface ∷ member_needs c.in-MethodHandle.reference) (constants.MethodHandle c.in-MethodHandle.kind c.in-MethodHandle.reference c.in-MethodHandle.interface ∷ []) (handled c.in-MethodHandle.kind c.in-MethodHandle.reference c.in-MethodHandle.interface) (constants.MethodHandle c.in-MethodHandle.kind c.in-MethodHandle.reference c.in-MethodHandle.interface) c.in_ok-reference-in-MethodHandle.reference c.put-in-MethodHandle.result c.in_ok-reference-in-MethodHandle.ensures (rw c.in-MethodHandle.is at c.put-in-MethodHandle.ensures))

pub returns-in_err-descriptor-in-MethodType : goal.returns-in_err-descriptor-in-MethodType
returns-in_err-descriptor-in-MethodType c =
    rw c.in-MethodType.is (adds_failed c.args.self.now c.add_text-in-MethodType.new.self (constants.MethodType c.in-MethodType.descriptor ∷ []) (constants.Utf8 c.in-MethodType.descriptor ∷ []) (constants.Utf8 c.in-MethodType.descriptor) (constants.MethodType c.in-MethodType.descriptor) c.in_err-descriptor-in-MethodType.field-0.0 c.from_residual-in_err-descriptor-in-MethodType.result c.from_residual-in_err-descriptor-in-MethodType.ensures.1 c.in_err-descriptor-in-MethodType.ensures)

pub put-requires-in-MethodType-clause-sound : goal.put-requires-in-MethodType-clause-sound
put-requires-in-MethodType-clause-sound c =
    let allowed = rw c.in-MethodType.is at c.requires in (text_there c.add_text-in-MethodType.new.self c.in_ok-descriptor-in-MethodType.descriptor c.in-MethodType.descriptor IsMethodDescriptor c.in_ok-descriptor-in-MethodType.ensures.1.names allowed.1, tt)

pub put-requires-in-MethodType-clause-named : goal.put-requires-in-MethodType-clause-named
put-requires-in-MethodType-clause-named c =
    rw c.in-MethodType.is (type_named c.add_text-in-MethodType.new.self c.in_ok-descriptor-in-MethodType.descriptor c.in-MethodType.descriptor c.in_ok-descriptor-in-MethodType.ensures.1.names)

pub returns-in_ok-descriptor-in-MethodType : goal.returns-in_ok-descriptor-in-MethodType
returns-in_ok-descriptor-in-MethodType c =
    rw c.in-MethodType.is (adds_then c.args.self.now c.add_text-in-MethodType.new.self c.put-in-MethodType.new.self (constants.Utf8 c.in-MethodType.descriptor ∷ []) (constants.MethodType c.in-MethodType.descriptor ∷ []) (constants.Utf8 c.in-MethodType.descriptor) (constants.MethodType c.in-MethodType.descriptor) c.in_ok-descriptor-in-MethodType.descriptor c.put-in-MethodType.result c.in_ok-descriptor-in-MethodType.ensures (rw c.in-MethodType.is at c.put-in-MethodType.ensures))

pub returns-in_err-name_and_type-in-InvokeDynamic : goal.returns-in_err-name_and_type-in-InvokeDynamic
returns-in_err-name_and_type-in-InvokeDynamic c =
    rw c.in-InvokeDynamic.is (adds_failed c.args.self.now c.add_pair-in-InvokeDynamic.new.self (constants.InvokeDynamic c.in-InvokeDynamic.bootstrap c.in-InvokeDynamic.name c.in-InvokeDynamic.descriptor ∷ []) (pair_needs c.in-InvokeDynamic.name c.in-InvokeDynamic.descriptor) (constants.NameAndType c.in-InvokeDynamic.name c.in-InvokeDynamic.descriptor) (constants.InvokeDynamic c.in-InvokeDynamic.bootstrap c.in-InvokeDynamic.name c.in-InvokeDynamic.descriptor) c.in_err-name_and_type-in-InvokeDynamic.field-0.0 c.from_residual-in_err-name_and_type-in-InvokeDynamic.result c.from_residual-in_err-name_and_type-in-InvokeDynamic.ensures.1 c.in_err-name_and_type-in-InvokeDynamic.ensures)

pub put-requires-in-InvokeDynamic-clause-sound : goal.put-requires-in-InvokeDynamic-clause-sound
put-requires-in-InvokeDynamic-clause-sound c =
    let allowed = rw c.in-InvokeDynamic.is at c.requires in (tt, method_pair c.add_pair-in-InvokeDynamic.new.self c.in_ok-name_and_type-in-InvokeDynamic.name_and_type c.in-InvokeDynamic.name c.in-InvokeDynamic.descriptor c.in_ok-name_and_type-in-InvokeDynamic.ensures.1.names allowed.1 allowed.2)

pub put-requires-in-InvokeDynamic-clause-named : goal.put-requires-in-InvokeDynamic-clause-named
put-requires-in-InvokeDynamic-clause-named c =
    rw c.in-InvokeDynamic.is (dynamic_named c.add_pair-in-InvokeDynamic.new.self c.in-InvokeDynamic.bootstrap c.in_ok-name_and_type-in-InvokeDynamic.name_and_type c.in-InvokeDynamic.name c.in-InvokeDynamic.descriptor c.in_ok-name_and_type-in-InvokeDynamic.ensures.1.names)

pub returns-in_ok-name_and_type-in-InvokeDynamic : goal.returns-in_ok-name_and_type-in-InvokeDynamic
returns-in_ok-name_and_type-in-InvokeDynamic c =
    rw c.in-InvokeDynamic.is (adds_then c.args.self.now c.add_pair-in-InvokeDynamic.new.self c.put-in-InvokeDynamic.new.self (pair_needs c.in-InvokeDynamic.name c.in-InvokeDynamic.descriptor) (constants.InvokeDynamic c.in-InvokeDynamic.bootstrap c.in-InvokeDynamic.name c.in-InvokeDynamic.descriptor ∷ []) (constants.NameAndType c.in-InvokeDynamic.name c.in-InvokeDynamic.descriptor) (constants.InvokeDynamic c.in-InvokeDynamic.bootstrap c.in-InvokeDynamic.name c.in-InvokeDynamic.descriptor) c.in_ok-name_and_type-in-InvokeDynamic.name_and_type c.put-in-InvokeDynamic.result c.in_ok-name_and_type-in-InvokeDynamic.ensures (rw c.in-InvokeDynamic.is at c.put-in-InvokeDynamic.ensures))
