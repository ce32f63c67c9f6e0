use Rattle.wv_merge.proofs.thin.target_of.Goals as goal

pub returns : goal.returns
returns c = rw c.as_slice.ensures at c.one_target.ensures
