use Rattle.std.proofs.Common.{◌+◌, ◌-◌, ◌*◌, ◌≤◌, List, length}
use Rattle.std.specs.List.{AllByRecursion}
use Rattle.wv_attr.specs.declared.mark.Mark.{Mark}
use Rattle.wv_attr.specs.References.{IsSound}
use Rattle.wv_attr.specs.Fronts.{ValuesFront, PairsFront}
use Rattle.wv_attr.specs.Meanings.{AreValues, ArePairs}
use Rattle.wv_attr.proofs.naming.+naming.Given as goal

abbrev pub decreases-value : goal.decreases-value
decreases-value l = 2 * length l.parts.now

abbrev pub decreases-values : goal.decreases-values
decreases-values l = 2 * length l.parts.now + 1

abbrev pub decreases-annotation : goal.decreases-annotation
decreases-annotation l = 2 * length l.parts.now

abbrev pub decreases-pair : goal.decreases-pair
decreases-pair l = 2 * length l.parts.now

abbrev pub decreases-pairs : goal.decreases-pairs
decreases-pairs l = 2 * length l.parts.now + 1

abbrev pub invariant-values-loop-alloc : goal.invariant-values-loop-alloc
invariant-values-loop-alloc l = record {
  more : (rest : List Mark) × ValuesFront (l.count - length l.found.items) l.rest rest;
  all : (rest : List Mark) → ValuesFront l.count l.initial.rest rest → ValuesFront (l.count - length l.found.items) l.rest rest;
  few : length l.found.items ≤ l.count;
  read : AreValues l.pool l.found.items l.initial.rest l.rest;
  sound : AllByRecursion (IsSound l.pool) l.rest;
  shorter : length l.rest ≤ length l.initial.rest;
}

abbrev pub decreases-values-loop-alloc : goal.decreases-values-loop-alloc
decreases-values-loop-alloc l = l.count - length l.found.items

abbrev pub invariant-pairs-loop-alloc : goal.invariant-pairs-loop-alloc
invariant-pairs-loop-alloc l = record {
  more : (rest : List Mark) × PairsFront (l.count - length l.found.items) l.rest rest;
  all : (rest : List Mark) → PairsFront l.count l.initial.rest rest → PairsFront (l.count - length l.found.items) l.rest rest;
  few : length l.found.items ≤ l.count;
  read : ArePairs l.pool l.found.items l.initial.rest l.rest;
  sound : AllByRecursion (IsSound l.pool) l.rest;
  shorter : length l.rest ≤ length l.initial.rest;
}

abbrev pub decreases-pairs-loop-alloc : goal.decreases-pairs-loop-alloc
decreases-pairs-loop-alloc l = l.count - length l.found.items
