use Rattle.std.proofs.Common.{ℕ, take, drop}
use Rattle.wv_attr.specs.Writing.{AreOrdered}
use Rattle.wv_attr.proofs.Ordered.{AreOf}
use Rattle.wv_attr.proofs.writing.run_len.Given as goal

abbrev pub invariant-loop-index : goal.invariant-loop-index
invariant-loop-index l = record {
  here : AreOf l.place (take l.index l.notes);
  behind : (limit : ℕ) → AreOrdered l.place limit l.notes → AreOrdered l.place limit (drop l.index l.notes);
}
