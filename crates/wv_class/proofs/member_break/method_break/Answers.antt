use Rattle.std.specs.Prelude.{IsTrue}
use Rattle.wv_base.specs.Names.{is_method_name}
use Rattle.wv_base.specs.Descriptor.{IsMethodDescriptor}
use Rattle.wv_pool.specs.References.{IsText}
use Rattle.wv_code.proofs.LeastPlaces.{asked}
use Rattle.wv_class.proofs.Lengths.{member_attributes}
use Rattle.wv_class.proofs.Members.{method_least}
use Rattle.wv_class.proofs.member_break.method_break.Goals as goal

pub member_attributes_break-requires-clause-spelled : goal.member_attributes_break-requires-clause-spelled
member_attributes_break-requires-clause-spelled c = member_attributes c.args.pool.now c.args.method.now c.requires.spelled

pub returns : goal.returns
returns c =
    let pool = c.args.pool.now in
    let m = c.args.method.now in
    λ before there. method_least pool c.args.class before m c.args.base c.lesser-3.ensures c.lesser.ensures c.lesser-2.ensures (c.whole_break-whole.ensures before there)
    (asked (IsText pool m.name (λ text. IsTrue (is_method_name text))) c.unless-name.ensures c.has_method_name.ensures) (asked (IsText pool m.descriptor IsMethodDescriptor) c.unless-descriptor.ensures c.has_method_descriptor.ensures)
    c.in_ok-attributes.ensures
