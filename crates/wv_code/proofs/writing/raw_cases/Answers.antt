use Rattle.std.specs.Prelude.{pos}
use Rattle.wv_code.proofs.Leading.{cases_on}
use Rattle.wv_code.proofs.writing.raw_cases.Goals as goal

pub loop-case-preserved : goal.loop-case-preserved
loop-case-preserved c =
    rw c.in_ok-push.ensures.ok (cases_on c.args.offsets.now c.args.at c.loop-case.found c.args.cases.now c.loop-case.case-index c.raw_case.result (record { key = pos 0; to = 0 }) c.loop-case-test.true c.loop-case.invariant c.raw_case.ensures.key c.raw_case.ensures.leads)
