use Rattle.std.proofs.Common.{◌≡◌, [], drop}
use Rattle.wv_merge.specs.Checking.{checks}
use Rattle.wv_merge.proofs.typing.check_typing.Given as goal

abbrev pub invariant-loop-insn : goal.invariant-loop-insn
invariant-loop-insn l = checks l.max_stack [] l.insns ≡ checks l.max_stack l.stack (drop l.insn-index l.insns)
