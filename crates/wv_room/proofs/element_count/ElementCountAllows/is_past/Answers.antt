use Rattle.std.proofs.Common.{◌<◌, arith}
use Rattle.std.proofs.lemmas.Bool.{ltb-true}
use Rattle.wv_room.specs.Counts.{elements_with}
use Rattle.wv_room.proofs.Growth.{least_elements, past_elements}
use Rattle.wv_room.proofs.element_count.ElementCountAllows.is_past.Goals as goal

pub returns-in-Some : goal.returns-in-Some
returns-in-Some c = λ t n le fill.
    let large : c.args.self.now.room < least_elements (elements_with c.args.self.now.kind c.args.value c.args.self.now.besides) =
    rw (← c.in-Some.ensures.all) (omega (arith, ltb-true _ _ t, c.least.ensures, c.from.ensures)) in
    past_elements c.args.self.now.kind c.args.value n c.args.self.now.room c.args.self.now.besides large le fill

pub returns-in-None : goal.returns-in-None
returns-in-None c = λ t n le fill.
    past_elements c.args.self.now.kind c.args.value n c.args.self.now.room c.args.self.now.besides (omega (arith, c.in-None.ensures.many)) le fill
