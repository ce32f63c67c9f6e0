use Rattle.std.proofs.Common.{◌≡◌, ◌++◌, ◌-◌}
use Rattle.wv_attr.specs.Writing.{AreOrdered, by_place, lists_pieces}
use Rattle.wv_attr.proofs.writing.put_lists.Given as goal

abbrev pub invariant-loop-place : goal.invariant-loop-place
invariant-loop-place l = record {
  ordered : AreOrdered l.place l.count l.rest;
  read : l.out.items ++ lists_pieces (by_place l.place (l.count - l.place) l.rest) ≡ l.initial.out.items ++ lists_pieces (by_place 0 l.count l.initial.rest);
}
