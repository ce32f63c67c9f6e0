use Rattle.std.proofs.Common.{◌≡◌, ℕ, length, ◌-◌, ◌^◌, ◌<◌, List, take, drop, Ok, sym, ap, subst, ◌∙◌, arith}
use Rattle.std.proofs.lemmas.List.{length-drop}
use Rattle.std.proofs.Math.Seq.{take-length}
use Rattle.wv_code.proofs.Numbers.{are_bytes, number_found, number_stops, number_short}
use Rattle.wv_code.proofs.number.number_at.Goals as goal

pub returns-in-Ok-clause-gives : goal.returns-in-Ok-clause-gives
returns-in-Ok-clause-gives g c = λ test is.
    let rest : take (length c.args.bytes.now - c.args.width) (drop c.args.width c.args.bytes.now) ≡ drop c.args.width c.args.bytes.now =
    ap (λ (k : ℕ). take k (drop c.args.width c.args.bytes.now)) (sym (length-drop c.args.width c.args.bytes.now)) ∙ take-length (drop c.args.width c.args.bytes.now) in
    number_found (g.A.Allows.allows c.args.allowed.now) test (λ n. (is n).0) c.args.width c.args.bytes.now (are_bytes c.args.bytes.now (λ i. omega (arith, c.type_inv.bytes i))) c.in-Ok.ensures.within c.in-Ok.number c.in-Ok.ensures.spelled c.in-Ok.ensures.allowed
    ∙ ap (λ (z : List ℕ). Ok (c.in-Ok.number, z)) (sym rest)

pub returns-in-Err-clause-gives : goal.returns-in-Err-clause-gives
returns-in-Err-clause-gives g c = λ test is. number_stops (g.A.Allows.allows c.args.allowed.now) test (λ n. (is n).0) (λ n. (is n).1) c.args.width c.args.bytes.now (are_bytes c.args.bytes.now (λ i. omega (arith, c.type_inv.bytes i))) c.in-Err.place c.in-Err.ensures.fault

pub returns-in-Ok-clause-small : goal.returns-in-Ok-clause-small
returns-in-Ok-clause-small g c = subst (λ (k : ℕ). k < 256 ^ c.args.width) (sym c.in-Ok.ensures.spelled) (number_short c.args.width c.args.bytes.now (are_bytes c.args.bytes.now (λ i. omega (arith, c.type_inv.bytes i))) c.in-Ok.ensures.within)
