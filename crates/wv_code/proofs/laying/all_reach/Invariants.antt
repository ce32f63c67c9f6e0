use Rattle.std.proofs.Common.{◌≡◌, ℕ, ◌<◌, Some}
use Rattle.std.specs.Prelude.{slice_get, slice_index}
use Rattle.wv_base.specs.declared.insn.Insn.{Insn}
use Rattle.wv_code.specs.Laying.{Reaches}
use Rattle.wv_code.proofs.laying.all_reach.Given as goal

abbrev pub invariant-loop-index : goal.invariant-loop-index
invariant-loop-index l = (k : ℕ) (i : Insn) → k < l.index → slice_get l.insns k ≡ Some i → Reaches l.offsets (slice_index l.offsets k) i
