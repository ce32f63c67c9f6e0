use Rattle.std.proofs.Common.{◌≡◌, ◌+◌, refl, arith, ap}
use Rattle.std.proofs.lemmas.List.{take_all}
use Rattle.wv_attr.specs.Pieces.{piece_size, pieces_size}
use Rattle.wv_attr.proofs.Numbered.{size_more, size_front}
use Rattle.wv_attr.proofs.writing.have_room.Goals as goal

pub returns-in_default : goal.returns-in_default
returns-in_default c =
    let l = c.loop-piece in
    let one = size_more c.args.pieces.now l.piece-index c.piece-item.result c.loop-piece-test.true in
    let item : piece_size c.piece-item.result ≡ piece_size _ = ap piece_size c.piece-item.is in
    let front = size_front c.args.pieces.now (l.piece-index + 1) in
    ((λ t. absurd cc), (λ lt. absurd (c.in_default.ensures (omega (arith, one, item, front, l.invariant.size, c.size.ensures)))))

pub loop-piece-preserved : goal.loop-piece-preserved
loop-piece-preserved c =
    let l = c.loop-piece in
    let one = size_more c.args.pieces.now l.piece-index c.piece-item.result c.loop-piece-test.true in
    let item : piece_size c.piece-item.result ≡ piece_size _ = ap piece_size c.piece-item.is in
    record { size = omega (arith, one, item, l.invariant.size, c.in-Some.ensures.1, c.size.ensures); small = omega (arith, c.in-Some.ensures.0, c.in-Some.ensures.1) }

pub returns : goal.returns
returns c =
    let l = c.loop-piece in
    let all = ap pieces_size (take_all l.piece-index c.args.pieces.now (omega (arith, c.loop-piece-test.false))) in
    ((λ t. omega (arith, all, l.invariant.size, l.invariant.small)), (λ lt. refl))
