use Rattle.std.proofs.lemmas.Result.{err_from_is_err_and}
use Rattle.wv_code.specs.Constants.{constants_in}
use Rattle.wv_code.specs.Formed.{IsFormed}
use Rattle.wv_code.proofs.Lists.{AllByRecursion-at}
use Rattle.wv_code.proofs.Entered.{nothing, kept_on, one_or_none, is_full}
use Rattle.wv_code.proofs.writing.enter_all.Goals as goal

pub loop-insn-init : goal.loop-insn-init
loop-insn-init c = nothing c.args.pool.now

pub enter-requires : goal.enter-requires
enter-requires c = rw c.insn-item.is (AllByRecursion-at (IsFormed c.requires.0) c.args.insns.now c.loop-insn.insn-index c.insn-item.result c.loop-insn-test.true c.requires.1).0

pub returns-in_err-enter-clause-older : goal.returns-in_err-enter-clause-older
returns-in_err-enter-clause-older c = λ n d h. c.in_err-enter.ensures.older n d (c.loop-insn.invariant.older n d h)

pub returns-in_err-enter-clause-kept : goal.returns-in_err-enter-clause-kept
returns-in_err-enter-clause-kept c = kept_on c.args.pool.now c.loop-insn.pool c.enter.new.pool c.loop-insn.invariant.kept c.in_err-enter.ensures.kept

pub returns-in_err-enter-clause-full : goal.returns-in_err-enter-clause-full
returns-in_err-enter-clause-full c =
    let p = err_from_is_err_and c.from_residual.result c.from_residual.ensures.1 in
    rw (p.1, p.2) (λ e. let found = c.in_err-enter.ensures.full e in
    is_full constants_in c.args.pool.now c.loop-insn.pool c.args.insns.now c.loop-insn.insn-index c.insn-item.result found.0 c.loop-insn-test.true c.loop-insn.invariant.entered (rw (← c.insn-item.is) found.1) found.2)

pub loop-insn-preserved : goal.loop-insn-preserved
loop-insn-preserved c =
    one_or_none constants_in c.args.pool.now c.loop-insn.pool c.enter.new.pool c.args.insns.now c.loop-insn.insn-index c.insn-item.result c.loop-insn-test.true c.loop-insn.invariant c.in_ok-enter.ensures.older c.in_ok-enter.ensures.kept
    (rw (← c.insn-item.is) c.in_ok-enter.ensures.puts)
