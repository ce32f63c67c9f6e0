use Rattle.wv_pool.proofs.Behind.{class_is}
use Rattle.wv_code.proofs.raw_range.catch_number.Goals as goal

pub returns-in_ok-copy-in-Some : goal.returns-in_ok-copy-in-Some
returns-in_ok-copy-in-Some c =
    rw c.in-Some.is (class_is c.args.pool.now c.number_of.result c.in-Some.name (rw c.in_ok-copy-in-Some.ensures at c.number_of.ensures.names))
