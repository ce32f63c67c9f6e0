use Rattle.std.proofs.Common.{arith, refl}
use Rattle.wv_pool.proofs.Faults.{layout_fault}
use Rattle.wv_pool.proofs.PoolReads.{was_read, one_read, none_read, left_within}
use Rattle.wv_pool.proofs.reading.read_layout.Goals as goal

pub overflow_sub-result : goal.overflow_sub-result
overflow_sub-result c = (was_read c.args.bytes.now c.in-Ok.entries.items c.in-Ok.rest.now (λ i. omega (arith, c.type_inv.bytes i)) c.in-Ok.ensures).within

pub overflow_sub-result-in-Err-Left : goal.overflow_sub-result-in-Err-Left
overflow_sub-result-in-Err-Left c = left_within c.args.bytes.now c.in-Err-Left.left (λ i. omega (arith, c.type_inv.bytes i)) (rw c.in-Err-Left.field-0-is at c.in-Err-Left.ensures)

pub returns-in-Ok-clause-found : goal.returns-in-Ok-clause-found
returns-in-Ok-clause-found c =
    let r = was_read c.args.bytes.now c.in-Ok.entries.items c.in-Ok.rest.now (λ i. omega (arith, c.type_inv.bytes i)) c.in-Ok.ensures in
    (r.layout, r.taken)

pub returns-in-Ok-clause-only : goal.returns-in-Ok-clause-only
returns-in-Ok-clause-only c = λ pool rest is starts.
    let r = was_read c.args.bytes.now c.in-Ok.entries.items c.in-Ok.rest.now (λ i. omega (arith, c.type_inv.bytes i)) c.in-Ok.ensures in
    let same = one_read c.args.bytes.now c.in-Ok.entries.items pool c.in-Ok.rest.now rest c.in-Ok.ensures is starts in
    rw (← same) (refl, r.len)

pub returns-in-Err-Left-clause-only : goal.returns-in-Err-Left-clause-only
returns-in-Err-Left-clause-only c = λ pool rest is starts. none_read c.args.bytes.now c.in-Err-Left.left pool rest (rw c.in-Err-Left.field-0-is at c.in-Err-Left.ensures) is starts

pub returns-in-Err-Left-clause-fault : goal.returns-in-Err-Left-clause-fault
returns-in-Err-Left-clause-fault c = layout_fault c.args.bytes.now c.in-Err-Left.left (λ i. omega (arith, c.type_inv.bytes i)) (rw c.in-Err-Left.field-0-is at c.in-Err-Left.ensures)
