use Rattle.wv_pool.specs.Adding.{needs}
use Rattle.wv_pool.proofs.Lacking.{adds_keeps, later, grown, passed}
use Rattle.wv_pool.proofs.pool.Pool.add.Goals as goal

pub returns-clause-older : goal.returns-clause-older
returns-clause-older c = λ n d. later c.args.self.now c.add_parts.new.self n d (adds_keeps c.args.self.now c.add_parts.new.self (needs c.args.constant.now) c.args.constant.now c.add_parts.result c.add_parts.ensures)

pub returns-clause-grows : goal.returns-clause-grows
returns-clause-grows c = grown c.args.self.now c.add_parts.new.self (needs c.args.constant.now) c.args.constant.now c.add_parts.result c.add_parts.ensures

pub returns-clause-full : goal.returns-clause-full
returns-clause-full c = passed c.args.self.now c.add_parts.new.self (needs c.args.constant.now) c.args.constant.now c.add_parts.result c.add_parts.ensures
