use Rattle.std.proofs.Common.{◌≡◌, ◌∙◌, Err, arith, rules}
use Rattle.wv_merge.proofs.TypingChecks.{checks_end, stop_tells}
use Rattle.wv_merge.proofs.typing.check_typing.Goals as goal

pub returns-in_err-apply : goal.returns-in_err-apply
returns-in_err-apply c =
    let e : c.from_residual.result ≡ Err c.in_err-apply.field-0.0 = search rules in
    rw e (stop_tells c.in_err-apply.field-0.0 c.args.max_stack c.loop-insn.stack c.apply.new.self c.args.insns.now c.loop-insn.insn-index c.insn-item.result (omega arith) c.insn-item.is c.loop-insn.invariant (c.in_err-apply.ensures {u = tt}))

pub returns : goal.returns
returns c =
    c.loop-insn.invariant ∙ checks_end c.args.max_stack c.loop-insn.stack c.args.insns.now c.loop-insn.insn-index c.loop-insn-test.false
