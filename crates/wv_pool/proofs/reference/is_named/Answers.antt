use Rattle.wv_pool.specs.References.{text_of}
use Rattle.wv_pool.specs.Facts.{facts_of}
use Rattle.wv_pool.proofs.FactTables.{agree, some_facts, no_facts}
use Rattle.wv_pool.proofs.reference.is_named.Goals as goal

pub returns-in-Some-facts_of : goal.returns-in-Some-facts_of
returns-in-Some-facts_of c =
    let s = some_facts (text_of c.args.pool.now c.in-Some.name) (facts_of c.args.facts.now c.in-Some.name) c.in-Some-facts_of.facts (agree c.args.pool.now c.args.facts.now c.in-Some.name c.requires) c.in-Some-facts_of.ensures in
    rw (← c.in-Some.ensures, s.1) (c.meet.ensures s.0 s.2)

pub returns-in-None-facts_of : goal.returns-in-None-facts_of
returns-in-None-facts_of c =
    let s = no_facts (text_of c.args.pool.now c.in-Some.name) (facts_of c.args.facts.now c.in-Some.name) (agree c.args.pool.now c.args.facts.now c.in-Some.name c.requires) c.in-None-facts_of.ensures in
    rw (← c.in-Some.ensures, s) (λ t. tt, λ t. cc)
