use Rattle.std.proofs.Common.{take}
use Rattle.std.specs.List.{AllByRecursion}
use Rattle.wv_attr.specs.Writing.{IsFormed}
use Rattle.wv_attr.proofs.writing.are_formed.Given as goal

abbrev pub invariant-loop-piece : goal.invariant-loop-piece
invariant-loop-piece l = AllByRecursion IsFormed (take l.piece-index l.pieces)
