use Rattle.std.specs.Prelude.{pos, slice_index_or, FitsSigned}
use Rattle.std.specs.Int.{w32}
use Rattle.std.proofs.lemmas.Int.{to_z-of_z}
use Rattle.wv_code.specs.Breaks.{Lands}
use Rattle.wv_code.specs.Checking.{TargetBreaks}
use Rattle.wv_code.proofs.Lists.{AllByRecursion-at}
use Rattle.wv_code.proofs.LeastPlaces.{items_none, items_more, items_all, asked}
use Rattle.wv_code.proofs.insn_break.targets_break.Goals as goal

pub loop-k-init : goal.loop-k-init
loop-k-init c = items_none (TargetBreaks c.args.offsets.now c.args.at c.args.base)

pub loop-k-preserved : goal.loop-k-preserved
loop-k-preserved c =
    items_more (TargetBreaks c.args.offsets.now c.args.at c.args.base) c.args.distances.now c.loop-k.k (pos 0) c.loop-k-test.true c.lesser-first.ensures c.loop-k.invariant
    (asked (Lands c.args.offsets.now c.args.at (slice_index_or c.args.distances.now c.loop-k.k (pos 0))) c.unless.ensures
    (rw (to_z-of_z w32 (slice_index_or c.args.distances.now c.loop-k.k (pos 0)) (AllByRecursion-at (FitsSigned w32) c.args.distances.now c.loop-k.k (pos 0) c.loop-k-test.true c.requires.typed)) at c.lands.ensures))

pub returns : goal.returns
returns c = items_all (TargetBreaks c.args.offsets.now c.args.at c.args.base) c.args.distances.now c.loop-k.k c.loop-k-test.false c.loop-k.invariant
