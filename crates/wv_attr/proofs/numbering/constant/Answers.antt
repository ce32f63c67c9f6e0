use Rattle.wv_attr.proofs.PoolGrowth.{constant_added, found_map}
use Rattle.wv_attr.proofs.numbering.constant.Goals as goal

pub returns-clause-names : goal.returns-clause-names
returns-clause-names c = found_map c.add.result (λ n least. least.names) c.add.ensures.least

pub returns-clause-grows : goal.returns-clause-grows
returns-clause-grows c = found_map c.add.result (λ n grown alone. constant_added c.args.pool.now c.add.new.self c.args.value.now (λ there. (c.add.ensures.same there).0) grown alone) c.add.ensures.grows
