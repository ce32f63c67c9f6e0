use Rattle.std.proofs.Common.{arith}
use Rattle.std.proofs.lemmas.Bool.Decides.{nat_tests}
use Rattle.wv_code.proofs.NamedOperands.{is_count, no_count}
use Rattle.wv_code.proofs.demand.is_count_of.Goals as goal

pub returns-then-words-lt255 : goal.returns-then-words-lt255
returns-then-words-lt255 c = rw c.from.ensures (is_count c.args.descriptor.now c.in-Some.words c.args.count c.in-Some.ensures.found)

pub returns-else-words-lt255 : goal.returns-else-words-lt255
returns-else-words-lt255 c = ((λ t. absurd (grind (arith, nat_tests))), (λ is. absurd (no_count c.args.descriptor.now c.in-Some.words c.args.count c.in-Some.ensures.found c.if-words-lt255.false (omega arith) is)))
