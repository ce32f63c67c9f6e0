use Rattle.std.proofs.Common.{◌-◌, ◌/◌, arith}
use Rattle.wv_class.proofs.Exits.{fails}
use Rattle.wv_class.proofs.PlainContents.{thrown_count_stops, thrown_stops, thrown_takes}
use Rattle.wv_class.proofs.content.exceptions_in.Goals as goal

pub returns-in_err-count : goal.returns-in_err-count
returns-in_err-count c = λ pool.
    fails c.args.bytes.now c.args.bytes.now (thrown_count_stops pool ((c.args.len - 2) / 2) c.args.len (omega (arith, c.requires.most)) (omega (arith, c.requires.even, c.requires.least)) c.args.bytes.now) c.from_residual.result c.in_err-count.field-0.0 c.from_residual.ensures.1 c.in_err-count.ensures

pub returns-in_err-numbers : goal.returns-in_err-numbers
returns-in_err-numbers c = λ pool.
    fails c.in_ok-count.rest.now c.args.bytes.now (λ left s. thrown_stops pool ((c.args.len - 2) / 2) c.args.len (omega (arith, c.requires.most)) (omega (arith, c.requires.even, c.requires.least)) c.args.bytes.now c.in_ok-count.count c.in_ok-count.rest.now left c.in_ok-count.ensures s)
    c.from_residual-in_err-numbers.result c.in_err-numbers.field-0.0 c.from_residual-in_err-numbers.ensures.1 c.in_err-numbers.ensures

pub returns : goal.returns
returns c = λ pool.
    thrown_takes pool ((c.args.len - 2) / 2) c.args.len (omega (arith, c.requires.most)) (omega (arith, c.requires.even, c.requires.least)) c.args.bytes.now c.in_ok-count.count c.in_ok-count.rest.now c.in_ok-numbers.numbers c.in_ok-numbers.rest.now c.in_ok-count.ensures c.in_ok-numbers.ensures
