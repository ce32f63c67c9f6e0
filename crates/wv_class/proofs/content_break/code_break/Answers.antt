use Rattle.wv_class.proofs.CodePlaces.{started_result, unstarted}
use Rattle.wv_class.proofs.content_break.code_break.Goals as goal

pub returns-in-Some : goal.returns-in-Some
returns-in-Some c =
    started_result c.args.pool.now c.args.class c.args.method.now c.args.raw.now c.args.base c.in-Some.frame c.body_break.result (rw c.in-Some.is at c.in_ok-frame.ensures.found) c.body_break.ensures

pub returns-in-None : goal.returns-in-None
returns-in-None c =
    let none = rw c.in-None.is at c.in_ok-frame.ensures.only in
    unstarted c.args.pool.now c.args.class c.args.method.now c.args.raw.now c.args.base (λ frame starts. let never = none frame starts in cc)
