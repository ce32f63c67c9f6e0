use Rattle.wv_class.proofs.Exits.{fails}
use Rattle.wv_class.proofs.MemberReads.{head_stops, attributes_stop, member_takes}
use Rattle.wv_class.proofs.member.member_at.Goals as goal

pub returns-in_err-head : goal.returns-in_err-head
returns-in_err-head c = fails c.args.bytes.now c.args.bytes.now (head_stops c.args.pool.now c.args.place c.args.bytes.now) c.from_residual.result c.in_err-head.field-0.0 c.from_residual.ensures.1 c.in_err-head.ensures

pub returns-in_err-attributes : goal.returns-in_err-attributes
returns-in_err-attributes c =
    fails c.in_ok-head.rest.now c.args.bytes.now (λ left s. attributes_stop c.args.pool.now c.args.place c.args.bytes.now c.in_ok-head.head c.in_ok-head.rest.now left c.in_ok-head.ensures s)
    c.from_residual-in_err-attributes.result c.in_err-attributes.field-0.0 c.from_residual-in_err-attributes.ensures.1 c.in_err-attributes.ensures

pub returns : goal.returns
returns c = member_takes c.args.pool.now c.args.place c.args.bytes.now c.in_ok-head.head c.in_ok-head.rest.now c.in_ok-attributes.attributes c.in_ok-attributes.rest.now c.in_ok-head.ensures c.in_ok-attributes.ensures
