use Rattle.std.proofs.Common.{◌+◌, length, arith}
use Rattle.wv_code.proofs.ContentAnswers.{room_of, was_content, one_content, no_content, content_fault}
use Rattle.wv_code.proofs.content.read_layout.Goals as goal

pub overflow_sub-result : goal.overflow_sub-result
overflow_sub-result c = (content_fault c.args.pool.now c.args.missing c.args.bytes.now c.in-Err-Left.left (λ i. omega (arith, c.type_inv.bytes i)) (room_of (length c.args.bytes.now + c.args.missing) c.if-bytes-missing-lt-LEAST.false c.requires) (rw c.in-Err-Left.field-0-is at c.in-Err-Left.ensures)).0

pub returns-in-Ok-clause-found : goal.returns-in-Ok-clause-found
returns-in-Ok-clause-found c = was_content c.args.pool.now c.args.missing c.args.bytes.now (c.in-Ok.raw, c.in-Ok.field-0-1.now) (λ i. omega (arith, c.type_inv.bytes i)) (room_of (length c.args.bytes.now + c.args.missing) c.if-bytes-missing-lt-LEAST.false c.requires) c.in-Ok.ensures

pub returns-in-Ok-clause-only : goal.returns-in-Ok-clause-only
returns-in-Ok-clause-only c = λ raw is none. one_content c.args.pool.now c.args.missing c.args.bytes.now (c.in-Ok.raw, c.in-Ok.field-0-1.now) raw c.in-Ok.ensures none is

pub returns-in-Err-Left-clause-only : goal.returns-in-Err-Left-clause-only
returns-in-Err-Left-clause-only c = λ raw is none. absurd (no_content c.args.pool.now c.args.missing c.args.bytes.now c.in-Err-Left.left raw (rw c.in-Err-Left.field-0-is at c.in-Err-Left.ensures) none is)

pub returns-in-Err-Left-clause-fault : goal.returns-in-Err-Left-clause-fault
returns-in-Err-Left-clause-fault c = (content_fault c.args.pool.now c.args.missing c.args.bytes.now c.in-Err-Left.left (λ i. omega (arith, c.type_inv.bytes i)) (room_of (length c.args.bytes.now + c.args.missing) c.if-bytes-missing-lt-LEAST.false c.requires) (rw c.in-Err-Left.field-0-is at c.in-Err-Left.ensures)).1
