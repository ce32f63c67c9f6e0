use Rattle.std.proofs.Common.{◌≡◌, ℕ, zero, suc, ◌<◌, false, nat_eq, length, sym, ◌∙◌, arith}
use Rattle.std.proofs.lemmas.Bool.{eqb-true}
use Rattle.wv_class.proofs.ClassFiles.{one_layout, whole_is, none_whole, none_stopped, more_fault, stopped_fault}
use Rattle.wv_class.proofs.layout.read_layout.Goals as goal

more_than_none : (n : ℕ) → nat_eq n 0 ≡ false → 0 < n
more_than_none zero e = absurd cc
more_than_none (suc n) e = omega arith

pub returns-in-Ok-clause-found : goal.returns-in-Ok-clause-found
returns-in-Ok-clause-found c =
    let none = eqb-true (length c.in-Ok.rest.now) 0 (sym c.is_empty.ensures ∙ c.if-is_empty.true) in
    whole_is c.args.bytes.now c.in-Ok.class.0 c.in-Ok.rest.now none c.in-Ok.ensures.reads

pub returns-in-Ok-clause-only : goal.returns-in-Ok-clause-only
returns-in-Ok-clause-only c =
    let none = eqb-true (length c.in-Ok.rest.now) 0 (sym c.is_empty.ensures ∙ c.if-is_empty.true) in
    λ other is. one_layout c.in-Ok.class.0 other c.args.bytes.now (whole_is c.args.bytes.now c.in-Ok.class.0 c.in-Ok.rest.now none c.in-Ok.ensures.reads) is

pub returns-in-Ok-2-clause-only : goal.returns-in-Ok-2-clause-only
returns-in-Ok-2-clause-only c =
    let some = more_than_none (length c.in-Ok.rest.now) (sym c.is_empty.ensures ∙ c.if-is_empty.false) in
    λ other is. absurd (none_whole c.args.bytes.now c.in-Ok.class.0 c.in-Ok.rest.now some c.in-Ok.ensures.reads other is)

pub returns-in-Ok-2-clause-fault : goal.returns-in-Ok-2-clause-fault
returns-in-Ok-2-clause-fault c =
    let some = more_than_none (length c.in-Ok.rest.now) (sym c.is_empty.ensures ∙ c.if-is_empty.false) in
    more_fault c.args.bytes.now c.in-Ok.class.0 c.in-Ok.rest.now some c.in-Ok.ensures.reads

pub returns-in-Err-Left-clause-only : goal.returns-in-Err-Left-clause-only
returns-in-Err-Left-clause-only c =
    let stopped = rw c.in-Err-Left.field-0-is at c.in-Err-Left.ensures.reads in
    λ other is. absurd (none_stopped c.args.bytes.now c.in-Err-Left.left stopped other is)

pub returns-in-Err-Left-clause-fault : goal.returns-in-Err-Left-clause-fault
returns-in-Err-Left-clause-fault c =
    let stopped = rw c.in-Err-Left.field-0-is at c.in-Err-Left.ensures.reads in
    (stopped_fault c.args.bytes.now c.in-Err-Left.left stopped).1
