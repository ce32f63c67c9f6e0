use Rattle.std.proofs.Common.{◌≡◌, ◌+◌, drop, Ok, Err, ap, sym, ◌∙◌, arith}
use Rattle.std.proofs.lemmas.List.{take_rest, get_or-drop}
use Rattle.wv_insn.specs.Reading.{instruction_at}
use Rattle.wv_insn.proofs.Faults.{read_stands, reads_one, none_stands, past_end, first_fault}
use Rattle.wv_insn.proofs.reading.decode.Goals as goal

pub returns-then-code-at-clause-fault : goal.returns-then-code-at-clause-fault
returns-then-code-at-clause-fault c = past_end c.args.code.now c.args.at (omega arith)

-- what was read behind the offset
read : (c : goal.In-Ok) → instruction_at c.args.at (drop c.args.at c.args.code.now) ≡ Ok (c.in-Ok.raw, c.in-Ok.rest.now)
read c = ap (instruction_at c.args.at) (sym (take_rest c.args.code.now c.args.at)) ∙ c.in-Ok.ensures

stopped : (c : goal.In-Err-At) → instruction_at c.args.at (drop c.args.at c.args.code.now) ≡ Err c.in-Err-At.left
stopped c = ap (instruction_at c.args.at) (sym (take_rest c.args.code.now c.args.at)) ∙ rw c.in-Err-At.field-0-is at c.in-Err-At.ensures

pub overflow_sub-result : goal.overflow_sub-result
overflow_sub-result c = rw take_rest (read_stands c.args.code.now c.args.at (c.in-Ok.raw, c.in-Ok.rest.now) (omega arith) (λ i. rw get_or-drop (omega (arith, c.type_inv.code (c.args.at + i)))) (read c)).0

pub returns-in-Ok-clause-found : goal.returns-in-Ok-clause-found
returns-in-Ok-clause-found c = rw take_rest (read_stands c.args.code.now c.args.at (c.in-Ok.raw, c.in-Ok.rest.now) (omega arith) (λ i. rw get_or-drop (omega (arith, c.type_inv.code (c.args.at + i)))) (read c)).1

pub returns-in-Ok-clause-only : goal.returns-in-Ok-clause-only
returns-in-Ok-clause-only c = λ r len s. rw take_rest (reads_one c.args.code.now c.args.at (c.in-Ok.raw, c.in-Ok.rest.now) r len (read c) s)

pub overflow_sub-result-in-Err-At : goal.overflow_sub-result-in-Err-At
overflow_sub-result-in-Err-At c = rw c.in-Err-At.field-0-is (first_fault c.args.code.now c.args.at c.in-Err-At.left (omega arith) (λ i. rw get_or-drop (omega (arith, c.type_inv.code (c.args.at + i)))) (stopped c)).0

pub returns-in-Err-At-clause-only : goal.returns-in-Err-At-clause-only
returns-in-Err-At-clause-only c = λ r len s. absurd (none_stands c.args.code.now c.args.at c.in-Err-At.left r len (stopped c) s)

pub returns-in-Err-At-clause-fault : goal.returns-in-Err-At-clause-fault
returns-in-Err-At-clause-fault c = rw c.in-Err-At.field-0-is (first_fault c.args.code.now c.args.at c.in-Err-At.left (omega arith) (λ i. rw get_or-drop (omega (arith, c.type_inv.code (c.args.at + i)))) (stopped c)).1
