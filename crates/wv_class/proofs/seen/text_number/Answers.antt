use Rattle.std.proofs.Common.{sym}
use Rattle.wv_class.proofs.SeenKeys.{text_number_is}
use Rattle.wv_class.proofs.seen.text_number.Goals as goal

pub returns-in_ok-copy-in-Some : goal.returns-in_ok-copy-in-Some
returns-in_ok-copy-in-Some c =
    text_number_is c.args.pool.now c.args.number c.in-Some.text.now c.number_of.result (sym c.in-Some.ensures) (rw c.in_ok-copy-in-Some.ensures at c.number_of.ensures.found) (rw c.in_ok-copy-in-Some.ensures at c.number_of.ensures.none)
