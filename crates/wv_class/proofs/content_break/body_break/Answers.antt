use Rattle.std.proofs.Common.{arith}
use Rattle.wv_class.proofs.CodePlaces.{first_near, body_found, body_sound}
use Rattle.wv_class.proofs.content_break.body_break.Goals as goal

pub overflow_add-result : goal.overflow_add-result
overflow_add-result c =
    let first = rw c.in-Some.is at c.in_ok-at.ensures.found in
    omega (arith, c.requires.low, first_near c.args.pool.now c.args.frame.now c.args.raw.now c.requires.spelled.0 c.in-Some.at c.requires.spelled.2 c.requires.spelled.1 first)

pub returns-in-Some : goal.returns-in-Some
returns-in-Some c = body_found c.args.pool.now c.args.frame.now c.args.raw.now c.args.base c.in-Some.at (rw c.in-Some.is at c.in_ok-at.ensures.found)

pub returns-in-None : goal.returns-in-None
returns-in-None c = body_sound c.args.pool.now c.args.frame.now c.args.raw.now c.args.base (rw c.in-None.is at c.in_ok-at.ensures.none)
