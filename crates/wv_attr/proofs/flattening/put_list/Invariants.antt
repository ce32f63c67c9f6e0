use Rattle.std.proofs.Common.{◌≡◌, ◌++◌, take}
use Rattle.std.specs.List.{flat_map}
use Rattle.wv_base.specs.declared.note.Note.{Note}
use Rattle.wv_attr.specs.Pieces.{annotation_pieces}
use Rattle.wv_attr.proofs.flattening.put_list.Given as goal

abbrev pub invariant-loop-note : goal.invariant-loop-note
invariant-loop-note l = l.out.items ≡ l.initial.out.items ++ flat_map (λ (n : Note). annotation_pieces n.annotation) (take l.note-index l.notes)
