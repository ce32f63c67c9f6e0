use Rattle.std.proofs.Common.{arith}
use Rattle.wv_code.proofs.Leading.{case_lengths}
use Rattle.wv_code.proofs.writing.lookup.Goals as goal

pub returns-clause-encodable : goal.returns-clause-encodable
returns-clause-encodable c = omega (arith, case_lengths c.args.offsets.now c.args.at c.in_ok-cases.cases c.args.cases.now c.in_ok-cases.ensures, c.requires.fits)
