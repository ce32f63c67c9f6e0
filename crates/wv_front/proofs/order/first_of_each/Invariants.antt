use Rattle.std.proofs.Common.{◌≡◌, length, take}
use Rattle.wv_front.specs.Naming.{AreFirsts}
use Rattle.wv_front.proofs.FirstEach.{HasSeen}
use Rattle.wv_front.proofs.order.first_of_each.Given as goal

-- of the namings so far these are the first of each class
abbrev pub invariant-loop-naming : goal.invariant-loop-naming
invariant-loop-naming l = record {
  so_far : l.yielded ≡ take (length l.yielded) l.fn.namings.items;
  firsts : AreFirsts l.yielded l.mixins.items;
  seen : HasSeen l.seen l.mixins.items;
}
