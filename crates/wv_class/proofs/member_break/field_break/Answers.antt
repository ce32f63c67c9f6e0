use Rattle.std.specs.Prelude.{IsTrue}
use Rattle.wv_base.specs.Names.{is_unqualified}
use Rattle.wv_base.specs.Descriptor.{IsFieldDescriptor}
use Rattle.wv_pool.specs.References.{IsText}
use Rattle.wv_code.proofs.LeastPlaces.{asked}
use Rattle.wv_class.proofs.Lengths.{member_attributes}
use Rattle.wv_class.proofs.Members.{field_least}
use Rattle.wv_class.proofs.member_break.field_break.Goals as goal

pub member_attributes_break-requires-clause-spelled : goal.member_attributes_break-requires-clause-spelled
member_attributes_break-requires-clause-spelled c = member_attributes c.args.pool.now c.args.field.now c.requires.spelled

pub returns : goal.returns
returns c =
    let pool = c.args.pool.now in
    let m = c.args.field.now in
    λ before there. field_least pool c.args.class before m c.args.base c.args.again there c.lesser-3.ensures c.lesser.ensures c.lesser-2.ensures c.unless-again.ensures
    (asked (IsText pool m.name (λ text. IsTrue (is_unqualified text))) c.unless-name.ensures c.has_field_name.ensures) (asked (IsText pool m.descriptor IsFieldDescriptor) c.unless-descriptor.ensures c.has_field_descriptor.ensures)
    c.in_ok-attributes.ensures
