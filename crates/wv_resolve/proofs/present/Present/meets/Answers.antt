use Rattle.wv_resolve.proofs.Table.{met-under}
use Rattle.wv_resolve.proofs.present.Present.meets.Goals as goal

pub returns-in-Some : goal.returns-in-Some
returns-in-Some c = λ list h. met-under list c.args.self.now c.args.dependency.now c.in-Some.source c.meets_one.result h c.in-Some.ensures c.meets_one.ensures
