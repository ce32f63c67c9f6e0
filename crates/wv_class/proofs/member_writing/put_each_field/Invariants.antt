use Rattle.std.proofs.Common.{◌≡◌, take}
use Rattle.wv_class.specs.Appending.{Appends, WritesEach, WritesMember}
use Rattle.wv_class.proofs.member_writing.put_each_field.Given as goal

abbrev pub invariant-loop-field : goal.invariant-loop-field
invariant-loop-field l = record {
  same : l.pool ≡ l.initial.pool;
  put : Appends (WritesEach (WritesMember l.initial.pool) (take l.field-index l.fields)) l.initial.out l.out;
}
