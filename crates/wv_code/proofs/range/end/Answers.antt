use Rattle.std.proofs.Common.{arith}
use Rattle.wv_code.proofs.Ranges.{few}
use Rattle.wv_code.proofs.range.end.Goals as goal

pub overflow_cast-result : goal.overflow_cast-result
overflow_cast-result c = omega (arith, few c.args.offsets.now c.args.len c.requires.ascend c.requires.within)
