use Rattle.std.proofs.Common.{arith}
use Rattle.wv_code.proofs.TablePlaces.{whole_least, named_least, named_small}
use Rattle.wv_code.proofs.reference.named_break.Goals as goal
use Rattle.wv_code.proofs.reference.named_break.Goals.{in-Ok, in-Err-Reference, in-Err}

pub overflow_add-result : goal.overflow_add-result
overflow_add-result c =
    omega (arith, c.requires.low, named_small c.args.pool.now c.args.first.now c.args.frames.now c.in-Err-Reference.at c.requires.small (rw c.in-Err-Reference.field-0-is at c.in-Err-Reference.ensures.fault))

pub returns : goal.returns
returns c =
    elim c.match-whole_frames.branch [
      | in-Ok w ↦ rw w.result-is (whole_least c.args.pool.now c.args.first.now c.args.frames.now c.args.base _ w.in-Ok.ensures.found)
      | in-Err-Reference w ↦ rw w.result-is (named_least c.args.pool.now c.args.first.now c.args.frames.now c.args.base w.in-Err-Reference.at (rw w.in-Err-Reference.field-0-is at w.in-Err-Reference.ensures.fault))
      | in-Err w ↦ rw w.result-is tt
    ]
