use Rattle.wv_class.proofs.Exits.{fails}
use Rattle.wv_class.proofs.ClassTexts.{numbers_stop, interfaces_stop, fields_stop, methods_stop, attributes_stop, rest_takes}
use Rattle.wv_class.proofs.layout.rest_at.Goals as goal

pub returns-in_err-head : goal.returns-in_err-head
returns-in_err-head c = fails c.args.bytes.now c.args.bytes.now (numbers_stop c.args.pool.now c.args.bytes.now) c.from_residual.result c.in_err-head.field-0.0 c.from_residual.ensures.1 c.in_err-head.ensures

pub returns-in_err-interfaces : goal.returns-in_err-interfaces
returns-in_err-interfaces c = fails c.in_ok-head.rest.now c.args.bytes.now (interfaces_stop c.args.pool.now c.args.bytes.now c.in_ok-head.head c.in_ok-head.rest.now c.in_ok-head.ensures) c.from_residual-in_err-interfaces.result c.in_err-interfaces.field-0.0 c.from_residual-in_err-interfaces.ensures.1 c.in_err-interfaces.ensures

pub returns-in_err-fields : goal.returns-in_err-fields
returns-in_err-fields c = fails c.in_ok-interfaces.rest.now c.args.bytes.now (fields_stop c.args.pool.now c.args.bytes.now c.in_ok-head.head c.in_ok-head.rest.now c.in_ok-head.ensures c.in_ok-interfaces.interfaces c.in_ok-interfaces.rest.now c.in_ok-interfaces.ensures) c.from_residual-in_err-fields.result c.in_err-fields.field-0.0 c.from_residual-in_err-fields.ensures.1 c.in_err-fields.ensures

pub returns-in_err-methods : goal.returns-in_err-methods
returns-in_err-methods c = fails c.in_ok-fields.rest.now c.args.bytes.now (methods_stop c.args.pool.now c.args.bytes.now c.in_ok-head.head c.in_ok-head.rest.now c.in_ok-head.ensures c.in_ok-interfaces.interfaces c.in_ok-interfaces.rest.now c.in_ok-interfaces.ensures c.in_ok-fields.fields c.in_ok-fields.rest.now c.in_ok-fields.ensures) c.from_residual-in_err-methods.result c.in_err-methods.field-0.0 c.from_residual-in_err-methods.ensures.1 c.in_err-methods.ensures

pub returns-in_err-attributes : goal.returns-in_err-attributes
returns-in_err-attributes c = fails c.in_ok-methods.rest.now c.args.bytes.now (attributes_stop c.args.pool.now c.args.bytes.now c.in_ok-head.head c.in_ok-head.rest.now c.in_ok-head.ensures c.in_ok-interfaces.interfaces c.in_ok-interfaces.rest.now c.in_ok-interfaces.ensures c.in_ok-fields.fields c.in_ok-fields.rest.now c.in_ok-fields.ensures c.in_ok-methods.methods c.in_ok-methods.rest.now c.in_ok-methods.ensures) c.from_residual-in_err-attributes.result c.in_err-attributes.field-0.0 c.from_residual-in_err-attributes.ensures.1 c.in_err-attributes.ensures

pub returns : goal.returns
returns c = rest_takes c.args.pool.now c.args.bytes.now c.in_ok-head.head c.in_ok-head.rest.now c.in_ok-head.ensures c.in_ok-interfaces.interfaces c.in_ok-interfaces.rest.now c.in_ok-interfaces.ensures c.in_ok-fields.fields c.in_ok-fields.rest.now c.in_ok-fields.ensures c.in_ok-methods.methods c.in_ok-methods.rest.now c.in_ok-methods.ensures c.in_ok-attributes.attributes c.in_ok-attributes.rest.now c.in_ok-attributes.ensures
