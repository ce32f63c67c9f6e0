use Rattle.wv_weave.proofs.ListedGrowth.{last-list}
use Rattle.wv_weave.proofs.listed.ListedNames.add_listed.Goals as goal

pub returns : goal.returns
returns c =
    last-list c.args.config.now c.args.self.now c.add.new.self c.add-2.new.self c.add-3.new.self c.add-3.result
    (rw c.as_slice.ensures at c.in_ok-add.ensures)
    (rw c.as_slice-2.ensures at c.in_ok-add-2.ensures)
    (rw c.as_slice-3.ensures at c.add-3.ensures)
