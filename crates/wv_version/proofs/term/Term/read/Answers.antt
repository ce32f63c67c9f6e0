use Rattle.wv_version.proofs.Signs.{signed-none}
use Rattle.wv_version.proofs.term.Term.read.Goals as goal

pub returns-in-None-clause-none : goal.returns-in-None-clause-none
returns-in-None-clause-none c =
    signed-none c.args.text.now c.in-Some-split.rest.now c.in-Some-split.relation c.in-Some-split.ensures (rw c.in-None.is at c.in_ok-version.ensures.none)
