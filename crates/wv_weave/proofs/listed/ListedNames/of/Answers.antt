use Rattle.wv_weave.proofs.ListedGrowth.{all-listed}
use Rattle.wv_weave.proofs.listed.ListedNames.of.Goals as goal

pub returns : goal.returns
returns c =
    all-listed c.args.configs.now (record { names = c.new.result }) c.add_all.new.self c.add_all-2.new.self c.new.ensures.empty
    (rw c.as_slice.ensures.value at c.in_ok-add_all.ensures)
    (rw c.as_slice-2.ensures.value at c.in_ok-add_all-2.ensures)
