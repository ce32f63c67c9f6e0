use Rattle.wv_merge.proofs.ChangedForm.{woven_formed}
use Rattle.wv_merge.proofs.ChangedLimits.{woven_within}
use Rattle.wv_merge.proofs.overwriting.written.Goals as goal

pub write_class-requires : goal.write_class-requires
write_class-requires c = woven_formed c.requires.0 c.requires.1 c.args.class.now c.requires.2

pub unreachable-requires : goal.unreachable-requires
unreachable-requires c = let e = woven_within c.requires.0 c.requires.1 c.args.class.now c.requires.2 _ c.in-Err-PoolLarge.ensures.limit in cc

pub unreachable-requires-in-Err-CodeLarge : goal.unreachable-requires-in-Err-CodeLarge
unreachable-requires-in-Err-CodeLarge c = let e = woven_within c.requires.0 c.requires.1 c.args.class.now c.requires.2 _ c.in-Err-CodeLarge.ensures.limit in cc

pub unreachable-requires-in-Err-BranchFar : goal.unreachable-requires-in-Err-BranchFar
unreachable-requires-in-Err-BranchFar c = let e = woven_within c.requires.0 c.requires.1 c.args.class.now c.requires.2 _ c.in-Err-BranchFar.ensures.limit in cc
