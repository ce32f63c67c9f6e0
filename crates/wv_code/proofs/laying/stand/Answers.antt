use Rattle.std.proofs.Common.{refl, arith}
use Rattle.wv_code.proofs.Stands.{stands_on, is_large}
use Rattle.wv_code.proofs.laying.stand.Goals as goal

pub loop-insn-init : goal.loop-insn-init
loop-insn-init c = record { stand = rw c.new-offsets.ensures refl; small = omega arith }

pub returns-then-at-gt-MOST-clause-large : goal.returns-then-at-gt-MOST-clause-large
returns-then-at-gt-MOST-clause-large c = λ _. is_large c.args.pool.now c.args.insns.now c.loop-insn.insn-index c.insn-item.result c.loop-insn.offsets c.loop-insn.at c.size-at.result c.loop-insn-test.true c.loop-insn.invariant.stand (rw (← c.insn-item.is) c.size-at.ensures.taken) c.if-at-gt-MOST.true

pub loop-insn-preserved : goal.loop-insn-preserved
loop-insn-preserved c = record {
  stand = rw c.in_ok-push.ensures.ok (stands_on c.args.pool.now c.args.insns.now c.loop-insn.insn-index c.insn-item.result c.loop-insn.offsets c.loop-insn.at c.size-at.result c.loop-insn-test.true c.loop-insn.invariant.stand (rw (← c.insn-item.is) c.size-at.ensures.taken));
  small = omega arith;
}
