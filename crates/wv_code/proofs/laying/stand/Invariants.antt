use Rattle.std.proofs.Common.{◌≤◌, take}
use Rattle.wv_code.specs.Laying.{Stand}
use Rattle.wv_code.proofs.laying.stand.Given as goal

abbrev pub invariant-loop-insn : goal.invariant-loop-insn
invariant-loop-insn l = record {
  stand : Stand l.pool 0 (take l.insn-index l.insns) l.offsets l.at;
  small : l.at ≤ 65535;
}
