use Rattle.std.proofs.Common.{arith}
use Rattle.wv_code.specs.Least.{Broken}
use Rattle.wv_code.specs.Breaks.{NamesClass}
use Rattle.wv_code.proofs.LeastPlaces.{asked}
use Rattle.wv_class.specs.Breaks.{IsValueOf}
use Rattle.wv_class.proofs.Places.{behind_broken, list_behind}
use Rattle.wv_class.proofs.content_break.content_break.Goals as goal

pub returns-in_ok-is_value_of-in-ConstantValue : goal.returns-in_ok-is_value_of-in-ConstantValue
returns-in_ok-is_value_of-in-ConstantValue c =
    let asks = IsValueOf c.args.pool.now c.args.member.now c.in-ConstantValue.number in
    rw c.in-ConstantValue.is (behind_broken asks c.args.base 0 c.args.base (omega arith) (asked asks c.unless.ensures c.in_ok-is_value_of-in-ConstantValue.ensures))

pub returns-in-Exceptions : goal.returns-in-Exceptions
returns-in-Exceptions c =
    let numbers = c.in-Exceptions.numbers in
    rw c.in-Exceptions.is (list_behind (λ _. 2) c.args.base 2 numbers (λ k number. Broken (NamesClass c.args.pool.now number) 0) (rw c.as_slice.ensures at c.exceptions_break.ensures))
