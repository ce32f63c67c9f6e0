use Rattle.std.proofs.Common.{arith}
use Rattle.std.proofs.lemmas.Result.{on_ok_weaker}
use Rattle.wv_class.proofs.PutMembers.{name_named, descriptor_named, value_parts, code_parts, exceptions_parts, notes_parts, member_put}
use Rattle.wv_class.proofs.member_writing.put_member.Goals as goal

pub put_text-requires : goal.put_text-requires
put_text-requires c = rw c.in_ok-copy.ensures (name_named c.args.pool.now c.args.member.now c.requires.writable.named)

pub put_text-requires-2 : goal.put_text-requires-2
put_text-requires-2 c = rw c.in_ok-copy-2.ensures (descriptor_named c.args.pool.now c.args.member.now c.requires.writable.named)

pub put_value-requires : goal.put_value-requires
put_value-requires c = value_parts c.args.pool.now c.args.member.now c.requires.writable.named

pub put_code-requires-clause-named : goal.put_code-requires-clause-named
put_code-requires-clause-named c = code_parts c.args.pool.now c.args.member.now c.requires.writable.named

pub put_exceptions-requires-clause-named : goal.put_exceptions-requires-clause-named
put_exceptions-requires-clause-named c = rw (c.in_ok-put_code.ensures.same, c.as_slice.ensures) (exceptions_parts c.args.pool.now c.args.member.now c.requires.writable.named)

pub put_others-requires-clause-named : goal.put_others-requires-clause-named
put_others-requires-clause-named c = rw (c.in_ok-put_code.ensures.same, c.as_slice-notes.ensures) (notes_parts c.args.pool.now c.args.member.now c.requires.writable.named)

pub returns-clause-written : goal.returns-clause-written
returns-clause-written c =
    let pool = c.args.pool.now in
    let m = c.args.member.now in
    let same = c.in_ok-put_code.ensures.same in
    on_ok_weaker c.put_others.result
    (member_put pool m c.args.out.now c.put_number.new.out c.put_text.new.out c.put_text-2.new.out c.put_number-2.new.out c.put_value.new.out c.put_code.new.out c.put_exceptions.new.out c.put_others.new.out
    (let fits = c.bits.type_inv in omega (arith, c.bits.ensures, fits)) c.requires.writable.few (rw c.bits.ensures at c.in_ok-put_number.ensures)
    (rw c.in_ok-copy.ensures at c.in_ok-put_text.ensures) (rw c.in_ok-copy-2.ensures at c.in_ok-put_text-2.ensures) (rw c.attribute_count.ensures at c.in_ok-put_number-2.ensures)
    c.in_ok-put_value.ensures c.in_ok-put_code.ensures.written (rw (same, c.as_slice.ensures) at c.in_ok-put_exceptions.ensures))
    (rw (same, c.as_slice-notes.ensures, c.as_slice-2.ensures) at c.put_others.ensures.written)
