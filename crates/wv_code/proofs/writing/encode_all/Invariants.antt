use Rattle.wv_code.proofs.Written.{Encoded}
use Rattle.wv_code.proofs.writing.encode_all.Given as goal

abbrev pub invariant-loop-index : goal.invariant-loop-index
invariant-loop-index l = Encoded l.pool l.insns l.offsets l.layout.len l.index l.code
