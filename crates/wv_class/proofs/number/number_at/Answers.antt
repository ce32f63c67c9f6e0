use Rattle.std.proofs.Common.{◌≡◌, ℕ, List, length, take, drop, ◌-◌, sym, ap, subst, ◌∙◌, arith}
use Rattle.std.proofs.lemmas.List.{length-drop}
use Rattle.std.proofs.Math.Seq.{take-length}
use Rattle.wv_code.proofs.Numbers.{are_bytes}
use Rattle.wv_class.specs.Numbers.{SpellsAllowed}
use Rattle.wv_class.specs.Reading.{Taken}
use Rattle.wv_class.proofs.Allowed.{allowed_taken, allowed_stops}
use Rattle.wv_class.proofs.number.number_at.Goals as goal

pub returns-in-Ok : goal.returns-in-Ok
returns-in-Ok g c = λ n lt is.
    let rest : take (length c.args.bytes.now - c.args.width) (drop c.args.width c.args.bytes.now) ≡ drop c.args.width c.args.bytes.now =
    ap (λ (k : ℕ). take k (drop c.args.width c.args.bytes.now)) (sym (length-drop c.args.width c.args.bytes.now)) ∙ take-length (drop c.args.width c.args.bytes.now) in
    subst (λ (z : List ℕ). Taken (SpellsAllowed c.args.width (g.A.Allows.allows c.args.allowed.now)) c.args.bytes.now c.in-Ok.number z) (sym rest)
    (allowed_taken c.args.width (g.A.Allows.allows c.args.allowed.now) c.args.bytes.now c.in-Ok.number (are_bytes c.args.bytes.now (λ i. omega (arith, c.type_inv.bytes i))) c.in-Ok.ensures.within c.in-Ok.ensures.spelled c.in-Ok.ensures.allowed)

pub returns-in-Err : goal.returns-in-Err
returns-in-Err g c = λ n lt is.
    allowed_stops c.args.width (g.A.Allows.allows c.args.allowed.now) c.args.bytes.now c.in-Err.place n (are_bytes c.args.bytes.now (λ i. omega (arith, c.type_inv.bytes i))) lt is c.in-Err.ensures.fault
