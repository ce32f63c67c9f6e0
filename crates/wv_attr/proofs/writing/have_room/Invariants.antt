use Rattle.std.proofs.Common.{◌≡◌, ◌+◌, ◌<◌, ◌^◌, take}
use Rattle.wv_attr.specs.Pieces.{pieces_size}
use Rattle.wv_attr.proofs.writing.have_room.Given as goal

abbrev pub invariant-loop-piece : goal.invariant-loop-piece
invariant-loop-piece l = record {
  size : l.size ≡ l.before + pieces_size (take l.piece-index l.pieces);
  small : l.size < 2 ^ 32;
}
