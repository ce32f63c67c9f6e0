use Rattle.std.proofs.Common.{ℕ, ◌+◌, ◌≤◌, List, [], ◌++◌, length}
use Rattle.std.specs.List.{AllByRecursion}
use Rattle.wv_base.specs.declared.note.Note.{Note}
use Rattle.wv_attr.specs.References.{IsSound}
use Rattle.wv_attr.specs.Fronts.{ListsFront}
use Rattle.wv_attr.specs.Meanings.{AreListed}
use Rattle.wv_attr.proofs.notes.parameter_notes_of.Given as goal

abbrev pub invariant-loop-rest : goal.invariant-loop-rest
invariant-loop-rest l = record {
  more : (left : ℕ) × (l.place + left ≤ 255) × ListsFront left l.rest [];
  read : (others : List Note) → AreListed l.pool l.visible l.place others l.rest → AreListed l.pool l.visible 0 (l.found.items ++ others) l.initial.rest;
  sound : AllByRecursion (IsSound l.pool) l.rest;
}

abbrev pub decreases-loop-rest : goal.decreases-loop-rest
decreases-loop-rest l = length l.rest
