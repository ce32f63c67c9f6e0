use Rattle.std.proofs.Common.{arith}
use Rattle.wv_class.proofs.Lengths.{ranges_len}
use Rattle.wv_class.proofs.len.code_len.Goals as goal

pub loop-attribute-init : goal.loop-attribute-init
loop-attribute-init c = record {
  len = omega (arith, c.len.ensures, ranges_len c.args.raw.now.ranges);
  small = omega (arith, c.len.ensures, c.requires.2.small, c.requires.2.few_ranges);
}
