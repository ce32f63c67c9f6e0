use Rattle.std.proofs.Common.{subst}
use Rattle.wv_insn.specs.declared.raw.Raw.{Raw}
use Rattle.wv_code.specs.Least.{IsLeastOf}
use Rattle.wv_code.specs.Checking.{InsnAtBreaks}
use Rattle.wv_code.proofs.LeastPlaces.{items_more}
use Rattle.wv_code.proofs.insn_break.insns_break.Goals as goal

pub loop-index-preserved : goal.loop-index-preserved
loop-index-preserved c =
    items_more (InsnAtBreaks c.args.pool.now c.as_slice-offsets.result.now) c.as_slice-insns.result.now c.loop-index.index c.index-insns-index.result c.loop-index-test.true c.lesser-first.ensures c.loop-index.invariant
    (subst (λ (r : Raw). IsLeastOf (InsnAtBreaks c.args.pool.now c.as_slice-offsets.result.now c.loop-index.index r) c.insn_break.result) c.index-insns-index.is c.insn_break.ensures)
