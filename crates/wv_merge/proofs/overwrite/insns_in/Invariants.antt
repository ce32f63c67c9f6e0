use Rattle.std.proofs.Common.{◌≡◌, map, take}
use Rattle.wv_merge.specs.Renaming.{insn_read}
use Rattle.wv_merge.proofs.overwrite.insns_in.Given as goal

abbrev pub invariant-loop-insn : goal.invariant-loop-insn
invariant-loop-insn l = l.read ≡ map (insn_read l.renaming) (take l.insn-index l.insns)
