use Rattle.std.proofs.Common.{◌-◌, ◌≤◌, List, length}
use Rattle.std.specs.List.{AllByRecursion}
use Rattle.wv_attr.specs.declared.mark.Mark.{Mark}
use Rattle.wv_attr.specs.References.{IsSound}
use Rattle.wv_attr.specs.Fronts.{AnnotationsFront}
use Rattle.wv_attr.specs.Meanings.{AreNotes}
use Rattle.wv_attr.proofs.notes.notes.Given as goal

abbrev pub invariant-loop-alloc : goal.invariant-loop-alloc
invariant-loop-alloc l = record {
  more : (rest : List Mark) × AnnotationsFront (l.count - length l.found.items) l.rest rest;
  all : (rest : List Mark) → AnnotationsFront l.count l.initial.rest rest → AnnotationsFront (l.count - length l.found.items) l.rest rest;
  few : length l.found.items ≤ l.count;
  read : AreNotes l.pool l.visible l.parameter l.found.items l.initial.rest l.rest;
  shorter : length l.rest ≤ length l.initial.rest;
  sound : AllByRecursion (IsSound l.pool) l.rest;
}

abbrev pub decreases-loop-alloc : goal.decreases-loop-alloc
decreases-loop-alloc l = l.count - length l.found.items
