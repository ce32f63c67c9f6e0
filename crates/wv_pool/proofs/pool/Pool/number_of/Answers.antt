use Rattle.wv_pool.specs.Index.{number_in}
use Rattle.wv_pool.proofs.Putting.{some_least, none_named}
use Rattle.wv_pool.proofs.pool.Pool.number_of.Goals as goal

pub returns-clause-found : goal.returns-clause-found
returns-clause-found c = rw (← c.self.view_is) (some_least c.self.inside.entries.items (number_in c.self.inside.index) c.args.constant.now c.number_of.result c.self.invariant.1 c.number_of.ensures)

pub returns-clause-none : goal.returns-clause-none
returns-clause-none c = rw (← c.self.view_is) (none_named c.self.inside.entries.items (number_in c.self.inside.index) c.args.constant.now c.number_of.result c.self.invariant.1 c.number_of.ensures)
