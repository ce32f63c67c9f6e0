use Rattle.wv_class.proofs.Exits.{fails}
use Rattle.wv_class.proofs.Shorts.{first_of_three, second_of_three, third_of_three}
use Rattle.wv_class.proofs.number.three_at.Goals as goal

pub returns-in_err-first : goal.returns-in_err-first
returns-in_err-first c = fails c.args.bytes.now c.args.bytes.now (first_of_three c.args.bytes.now) c.from_residual.result c.in_err-first.field-0.0 c.from_residual.ensures.1 c.in_err-first.ensures

pub returns-in_err-second : goal.returns-in_err-second
returns-in_err-second c =
    fails c.in_ok-first.rest.now c.args.bytes.now (λ left s. second_of_three c.args.bytes.now c.in_ok-first.rest.now c.in_ok-first.first left c.in_ok-first.ensures s) c.from_residual-in_err-second.result c.in_err-second.field-0.0 c.from_residual-in_err-second.ensures.1 c.in_err-second.ensures

pub returns-in_err-third : goal.returns-in_err-third
returns-in_err-third c =
    fails c.in_ok-second.rest.now c.args.bytes.now (λ left s. third_of_three c.args.bytes.now c.in_ok-first.rest.now c.in_ok-second.rest.now c.in_ok-first.first c.in_ok-second.second left c.in_ok-first.ensures c.in_ok-second.ensures s) c.from_residual-in_err-third.result c.in_err-third.field-0.0 c.from_residual-in_err-third.ensures.1 c.in_err-third.ensures
