use Rattle.std.proofs.lemmas.Result.{err_from_is_err_and}
use Rattle.wv_code.specs.Entering.{short_constant, short_constants}
use Rattle.wv_code.proofs.Entered.{nothing, kept_on, puts, one_more, with_one, with_none, is_full}
use Rattle.wv_code.proofs.entering.enter_constants.Goals as goal
use Rattle.wv_code.proofs.entering.enter_constants.Goals.{in-Some+in_ok-add, in_default}

pub loop-insn-init : goal.loop-insn-init
loop-insn-init c = nothing c.args.pool.now

pub returns-in_err-add-clause-older : goal.returns-in_err-add-clause-older
returns-in_err-add-clause-older c = λ n d h. c.in_err-add.ensures.older n d (c.loop-insn.invariant.older n d h)

pub returns-in_err-add-clause-kept : goal.returns-in_err-add-clause-kept
returns-in_err-add-clause-kept c = kept_on c.args.pool.now c.loop-insn.pool c.add.new.self c.loop-insn.invariant.kept c.in_err-add.ensures.kept

pub returns-in_err-add-clause-full : goal.returns-in_err-add-clause-full
returns-in_err-add-clause-full c =
    let p = err_from_is_err_and c.from_residual.result c.from_residual.ensures.1 in
    rw (p.1, p.2) (λ e. is_full short_constant c.args.pool.now c.loop-insn.pool c.args.insns.now c.loop-insn.insn-index c.insn-item.result c.in-Some.constant.now c.loop-insn-test.true c.loop-insn.invariant.entered
    (rw (← c.insn-item.is) c.in-Some.ensures) (c.in_err-add.ensures.full e))

pub loop-insn-preserved : goal.loop-insn-preserved
loop-insn-preserved c =
    elim c.match-short_constant.branch [
      | in-Some+in_ok-add w ↦
          rw (w.pool-is, with_one short_constant c.args.insns.now c.loop-insn.insn-index c.insn-item.result w.in-Some.constant.now c.loop-insn-test.true (rw (← c.insn-item.is) w.in-Some.ensures))
          (one_more c.args.pool.now c.loop-insn.pool w.add.new.self (short_constants (lib.ListN.take c.loop-insn.insn-index c.args.insns.now)) w.in-Some.constant.now c.loop-insn.invariant
          w.in_ok-add.ensures.older w.in_ok-add.ensures.kept
          (puts c.loop-insn.pool w.in-Some.constant.now w.add.new.self (λ named. (w.in_ok-add.ensures.same named).0) w.in_ok-add.ensures.grows) (w.in_ok-add.field-0, w.in_ok-add.ensures.least.names))
      | in_default w ↦
          rw (w.pool-is, with_none short_constant c.args.insns.now c.loop-insn.insn-index c.insn-item.result c.loop-insn-test.true (rw (← c.insn-item.is) w.in_default.ensures)) c.loop-insn.invariant
    ]
