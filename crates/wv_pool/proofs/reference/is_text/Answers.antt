use Rattle.wv_pool.specs.References.{text_of}
use Rattle.wv_pool.specs.Facts.{facts_of}
use Rattle.wv_pool.proofs.FactTables.{agree, some_facts, no_facts}
use Rattle.wv_pool.proofs.reference.is_text.Goals as goal

pub returns-in-Some : goal.returns-in-Some
returns-in-Some c =
    let s = some_facts (text_of c.args.pool.now c.args.number) (facts_of c.args.facts.now c.args.number) c.in-Some.facts (agree c.args.pool.now c.args.facts.now c.args.number c.requires) c.in-Some.ensures in
    rw s.1 (c.meet.ensures s.0 s.2)

pub returns-in-None : goal.returns-in-None
returns-in-None c =
    let s = no_facts (text_of c.args.pool.now c.args.number) (facts_of c.args.facts.now c.args.number) (agree c.args.pool.now c.args.facts.now c.args.number c.requires) c.in-None.ensures in
    rw s (λ t. absurd cc, λ t. absurd t)
