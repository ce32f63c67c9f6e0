use Rattle.wv_resolve.proofs.Table.{keeps-depends, keeps-breaks}
use Rattle.wv_resolve.proofs.kind.Kind.keeps.Goals as goal

pub returns-in-Depends : goal.returns-in-Depends
returns-in-Depends c = λ list h. rw c.in-Depends.is (keeps-depends list c.args.dependency.now c.meets.result (c.meets.ensures list h))

pub returns-in-Breaks : goal.returns-in-Breaks
returns-in-Breaks c = λ list h. rw c.in-Breaks.is (keeps-breaks list c.args.dependency.now c.meets-in-Breaks.result (c.meets-in-Breaks.ensures list h))
