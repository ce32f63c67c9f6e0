use Rattle.std.proofs.Common.{arith}
use Rattle.wv_frames.proofs.TableReads.{was_read, only_read, none_read, layout_fault}
use Rattle.wv_frames.proofs.reading.read_layout.Goals as goal

pub overflow_sub-result : goal.overflow_sub-result
overflow_sub-result c = (layout_fault c.args.missing c.args.bytes.now c.in-Err-Left.left (λ i. omega (arith, c.type_inv.bytes i)) c.requires (rw c.in-Err-Left.field-0-is at c.in-Err-Left.ensures.gives)).0

pub returns-in-Ok-clause-found : goal.returns-in-Ok-clause-found
returns-in-Ok-clause-found c = was_read c.args.missing c.args.bytes.now _ (λ i. omega (arith, c.type_inv.bytes i)) c.in-Ok.ensures.gives

pub returns-in-Ok-clause-only : goal.returns-in-Ok-clause-only
returns-in-Ok-clause-only c = λ raw is spelled none. only_read c.args.missing c.args.bytes.now _ raw c.in-Ok.ensures.gives is spelled none

pub returns-in-Err-Left-clause-only : goal.returns-in-Err-Left-clause-only
returns-in-Err-Left-clause-only c = λ raw is spelled none. none_read c.args.missing c.args.bytes.now c.in-Err-Left.left raw (rw c.in-Err-Left.field-0-is at c.in-Err-Left.ensures.gives) is spelled none

pub returns-in-Err-Left-clause-fault : goal.returns-in-Err-Left-clause-fault
returns-in-Err-Left-clause-fault c = (layout_fault c.args.missing c.args.bytes.now c.in-Err-Left.left (λ i. omega (arith, c.type_inv.bytes i)) c.requires (rw c.in-Err-Left.field-0-is at c.in-Err-Left.ensures.gives)).1
