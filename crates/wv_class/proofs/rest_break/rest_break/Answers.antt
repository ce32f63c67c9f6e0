use Rattle.std.proofs.Common.{arith}
use Rattle.wv_code.proofs.LeastPlaces.{asked}
use Rattle.wv_class.specs.Breaks.{NamesPlainClass}
use Rattle.wv_class.proofs.RestPlaces.{rest_fields, rest_methods, rest_attributes, rest_within, head_least, rest_least}
use Rattle.wv_class.proofs.rest_break.rest_break.Goals as goal

pub members_len-requires-clause-spelled : goal.members_len-requires-clause-spelled
members_len-requires-clause-spelled c = (c.args.pool.now, rw c.as_slice-fields.ensures (rest_fields c.args.pool.now c.requires.spelled.0 c.args.rest.now c.requires.spelled.1 c.requires.spelled.3))

pub members_len-requires-clause-room : goal.members_len-requires-clause-room
members_len-requires-clause-room c = rw c.as_slice-fields.ensures (omega (arith, c.requires.spelled.2, rest_within c.args.pool.now c.requires.spelled.0 c.args.rest.now c.requires.spelled.1 c.requires.spelled.3))

pub overflow_add-methods_place : goal.overflow_add-methods_place
overflow_add-methods_place c = let fields = rw c.as_slice-fields.ensures at c.members_len.ensures in omega (arith, c.requires.spelled.2, rest_within c.args.pool.now c.requires.spelled.0 c.args.rest.now c.requires.spelled.1 c.requires.spelled.3, c.len.ensures, fields)

pub overflow_add-methods_place-2 : goal.overflow_add-methods_place-2
overflow_add-methods_place-2 c = let fields = rw c.as_slice-fields.ensures at c.members_len.ensures in omega (arith, c.requires.spelled.2, rest_within c.args.pool.now c.requires.spelled.0 c.args.rest.now c.requires.spelled.1 c.requires.spelled.3, c.len.ensures, fields)

pub members_len-requires-2-clause-spelled : goal.members_len-requires-2-clause-spelled
members_len-requires-2-clause-spelled c = (c.args.pool.now, rw c.as_slice-methods.ensures (rest_methods c.args.pool.now c.requires.spelled.0 c.args.rest.now c.requires.spelled.1 c.requires.spelled.3))

pub members_len-requires-2-clause-room : goal.members_len-requires-2-clause-room
members_len-requires-2-clause-room c = rw c.as_slice-methods.ensures (omega (arith, c.requires.spelled.2, rest_within c.args.pool.now c.requires.spelled.0 c.args.rest.now c.requires.spelled.1 c.requires.spelled.3))

pub overflow_add-attributes_place : goal.overflow_add-attributes_place
overflow_add-attributes_place c = let fields = rw c.as_slice-fields.ensures at c.members_len.ensures in let methods = rw c.as_slice-methods.ensures at c.members_len-2.ensures in omega (arith, c.requires.spelled.2, rest_within c.args.pool.now c.requires.spelled.0 c.args.rest.now c.requires.spelled.1 c.requires.spelled.3, c.len.ensures, fields, methods)

pub overflow_add-attributes_place-2 : goal.overflow_add-attributes_place-2
overflow_add-attributes_place-2 c = let fields = rw c.as_slice-fields.ensures at c.members_len.ensures in let methods = rw c.as_slice-methods.ensures at c.members_len-2.ensures in omega (arith, c.requires.spelled.2, rest_within c.args.pool.now c.requires.spelled.0 c.args.rest.now c.requires.spelled.1 c.requires.spelled.3, c.len.ensures, fields, methods)

pub fields_break-requires-clause-spelled : goal.fields_break-requires-clause-spelled
fields_break-requires-clause-spelled c = rw c.as_slice-fields.ensures (rest_fields c.args.pool.now c.requires.spelled.0 c.args.rest.now c.requires.spelled.1 c.requires.spelled.3)

pub fields_break-requires-clause-room : goal.fields_break-requires-clause-room
fields_break-requires-clause-room c = rw c.as_slice-fields.ensures (omega (arith, c.requires.spelled.2, rest_within c.args.pool.now c.requires.spelled.0 c.args.rest.now c.requires.spelled.1 c.requires.spelled.3, c.len.ensures))

pub methods_break-requires-clause-spelled : goal.methods_break-requires-clause-spelled
methods_break-requires-clause-spelled c = rw c.as_slice-methods.ensures (rest_methods c.args.pool.now c.requires.spelled.0 c.args.rest.now c.requires.spelled.1 c.requires.spelled.3)

pub methods_break-requires-clause-room : goal.methods_break-requires-clause-room
methods_break-requires-clause-room c = let fields = rw c.as_slice-fields.ensures at c.members_len.ensures in rw c.as_slice-methods.ensures (omega (arith, c.requires.spelled.2, rest_within c.args.pool.now c.requires.spelled.0 c.args.rest.now c.requires.spelled.1 c.requires.spelled.3, c.len.ensures, fields))

pub class_attributes_break-attribute-requires-clause-spelled : goal.class_attributes_break-attribute-requires-clause-spelled
class_attributes_break-attribute-requires-clause-spelled c = rw c.as_slice-attributes.ensures (rest_attributes c.args.pool.now c.requires.spelled.0 c.args.rest.now c.requires.spelled.1 c.requires.spelled.3)

pub class_attributes_break-attribute-requires-clause-low : goal.class_attributes_break-attribute-requires-clause-low
class_attributes_break-attribute-requires-clause-low c = let fields = rw c.as_slice-fields.ensures at c.members_len.ensures in let methods = rw c.as_slice-methods.ensures at c.members_len-2.ensures in omega (arith, c.requires.spelled.2, rest_within c.args.pool.now c.requires.spelled.0 c.args.rest.now c.requires.spelled.1 c.requires.spelled.3, c.len.ensures, fields, methods)

pub returns : goal.returns
returns c =
    let pool = c.args.pool.now in
    let rest = c.args.rest.now in
    let base = c.args.base in
    let fields = rw c.as_slice-fields.ensures at c.members_len.ensures in
    let methods = rw c.as_slice-methods.ensures at c.members_len-2.ensures in
    rest_least pool rest base _ _ _ (omega (arith, c.len.ensures)) (omega (arith, c.len.ensures, fields)) (omega (arith, c.len.ensures, fields, methods)) c.lesser-4.ensures c.lesser-2.ensures c.lesser-3.ensures
    (head_least pool rest base c.lesser-head.ensures c.lesser.ensures (asked (NamesPlainClass pool rest.class) c.unless-class.ensures c.names_plain_class.ensures)
    (asked (NamesPlainClass pool rest.superclass) c.unless-superclass.ensures c.names_plain_class-2.ensures) (rw c.as_slice.ensures at c.interfaces_break-interface.ensures))
    (rw c.as_slice-fields.ensures at c.in_ok-field.ensures) (rw c.as_slice-methods.ensures at c.in_ok-method.ensures) (rw c.as_slice-attributes.ensures at c.class_attributes_break-attribute.ensures)
