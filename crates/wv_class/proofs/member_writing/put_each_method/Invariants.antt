use Rattle.std.proofs.Common.{◌≡◌, take}
use Rattle.wv_class.specs.Appending.{Appends, WritesEach, WritesMember}
use Rattle.wv_class.proofs.member_writing.put_each_method.Given as goal

abbrev pub invariant-loop-index : goal.invariant-loop-index
invariant-loop-index l = record {
  same : l.pool ≡ l.initial.pool;
  put : Appends (WritesEach (WritesMember l.initial.pool) (take l.index l.methods)) l.initial.out l.out;
}
