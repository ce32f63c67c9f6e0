use Rattle.std.proofs.Common.{take}
use Rattle.std.specs.List.{AllByRecursion}
use Rattle.wv_pool.specs.Adding.{Keeps, Grows}
use Rattle.wv_attr.specs.Marks.{IsMark}
use Rattle.wv_attr.specs.Pieces.{AllName}
use Rattle.wv_attr.specs.Writing.{pieces_need}
use Rattle.wv_attr.proofs.numbering.marks_of.Given as goal

abbrev pub invariant-loop-piece : goal.invariant-loop-piece
invariant-loop-piece l = record {
  names : AllName l.pool (take l.piece-index l.pieces) l.marks.items;
  marks : AllByRecursion IsMark l.marks.items;
  kept : Keeps l.initial.pool l.pool;
  grows : Grows l.initial.pool (pieces_need (take l.piece-index l.pieces)) l.pool;
}
