use Rattle.wv_class.proofs.MemberMeanings.{code_ready, body_meant}
use Rattle.wv_class.proofs.member_of.body_and_kept.Goals as goal

pub body_in-requires : goal.body_in-requires
body_in-requires c =
    let start = c.in_ok-first.ensures in
    code_ready c.args.pool.now c.args.class c.args.raw c.in_ok-first.first c.in_ok-code.code c.requires (c.in_ok-code.ensures.code c.requires.one_code) start.found start.start start.only

pub returns-clause-body : goal.returns-clause-body
returns-clause-body c =
    body_meant c.args.pool.now c.args.class c.args.raw c.in_ok-first.first c.in_ok-code.code c.in_ok-body.body (c.in_ok-code.ensures.code c.requires.one_code) c.in_ok-first.ensures.found c.in_ok-body.ensures
