use Rattle.std.proofs.Common.{arith}
use Rattle.wv_code.proofs.Stands.{targets_few}
use Rattle.wv_code.proofs.size.size.Goals as goal

pub overflow_mul-result : goal.overflow_mul-result
overflow_mul-result c =
    let formed = rw c.in-Table.is at c.requires.1 in
    omega (arith, c.len.ensures, targets_few c.in-Table.low _ formed.3 formed.4)

pub overflow_add-result : goal.overflow_add-result
overflow_add-result c =
    let formed = rw c.in-Table.is at c.requires.1 in
    omega (arith, c.len.ensures, c.switch_len.ensures, targets_few c.in-Table.low _ formed.3 formed.4)

pub returns-in-Table-clause-some : goal.returns-in-Table-clause-some
returns-in-Table-clause-some c =
    let formed = rw c.in-Table.is at c.requires.1 in
    omega (arith, c.len.ensures, c.switch_len.ensures, targets_few c.in-Table.low _ formed.3 formed.4)
