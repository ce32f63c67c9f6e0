use Rattle.std.proofs.Common.{ℕ, List, ◌+◌, ◌-◌, length, Ok, ap, sym, ◌∙◌, arith}
use Rattle.std.proofs.lemmas.List.{take_rest}
use Rattle.wv_frames.proofs.Counting.{counted, not_counted, count_short, count_small}
use Rattle.wv_frames.proofs.room.count_at.Goals as goal

pub returns-then-size-lt2-clause-gives : goal.returns-then-size-lt2-clause-gives
returns-then-size-lt2-clause-gives c = count_short c.args.kind c.args.besides c.args.missing c.args.bytes.now c.if-size-lt2.true

pub overflow_cast-result : goal.overflow_cast-result
overflow_cast-result c = let small = count_small c.args.kind c.args.besides c.args.bytes.now c.in-Ok.count c.in-Ok.ensures.within (λ i. omega (arith, c.type_inv.bytes i)) c.in-Ok.ensures.spelled in omega (arith, small)

pub returns-in-Ok-clause-gives : goal.returns-in-Ok-clause-gives
returns-in-Ok-clause-gives c =
    counted c.args.kind c.args.besides c.args.missing (length c.args.bytes.now + c.args.missing - 2) c.args.bytes.now c.in-Ok.count c.in-Ok.ensures.within (omega (arith, c.if-size-lt2.false)) (λ i. omega (arith, c.type_inv.bytes i)) c.in-Ok.ensures.spelled c.in-Ok.ensures.allowed ∙ ap (λ (r : List ℕ). Ok (c.in-Ok.count, r)) (sym (take_rest c.args.bytes.now 2))

pub returns-in-Err-clause-gives : goal.returns-in-Err-clause-gives
returns-in-Err-clause-gives c = not_counted c.args.kind c.args.besides c.args.missing (length c.args.bytes.now + c.args.missing - 2) c.args.bytes.now c.in-Err.place (omega (arith, c.if-size-lt2.false)) c.in-Err.ensures.fault
