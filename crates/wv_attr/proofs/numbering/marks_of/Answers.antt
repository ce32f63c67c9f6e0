use Rattle.std.proofs.Common.{◌≡◌, ◌++◌, ◌∷◌, [], ◌+◌, List, take, drop, sym, subst}
use Rattle.std.proofs.lemmas.List.{take_more, append-nil}
use Rattle.std.proofs.lemmas.Result.{err_from_is_err_and}
use Rattle.wv_base.specs.declared.constant.Const.{Const}
use Rattle.wv_pool.specs.Adding.{AreTooMany, Grows}
use Rattle.wv_pool.proofs.Entire.{split_at, AllByRecursion-push}
use Rattle.wv_pool.proofs.Lacking.{keeps_then, grows_start}
use Rattle.wv_attr.specs.Marks.{IsMark}
use Rattle.wv_attr.specs.Writing.{piece_needs, pieces_need}
use Rattle.wv_attr.proofs.PoolGrowth.{grows_then, too_many_then, too_many_more}
use Rattle.wv_attr.proofs.Numbered.{need-more, need-split, all_kept, all_push}
use Rattle.wv_attr.proofs.numbering.marks_of.Goals as goal

pub loop-piece-init : goal.loop-piece-init
loop-piece-init c = rw c.new-marks.ensures.items (record { names = tt; marks = tt; kept = ([], sym (append-nil c.args.pool.now)); grows = grows_start c.args.pool.now })

pub returns-in_err-mark_of-clause-full : goal.returns-in_err-mark_of-clause-full
returns-in_err-mark_of-clause-full c =
    let l = c.loop-piece in
    let p = err_from_is_err_and c.from_residual.result c.from_residual.ensures.1 in
    let front = take l.piece-index c.args.pieces.now in
    let behind = drop (l.piece-index + 1) c.args.pieces.now in
    let parts : c.args.pieces.now ≡ front ++ c.piece-item.result ∷ behind = rw c.piece-item.is (split_at c.args.pieces.now l.piece-index c.piece-item.result c.loop-piece-test.true) in
    let needs = need-split c.args.pieces.now front behind c.piece-item.result parts in
    rw (p.1, p.2) (λ full. subst (AreTooMany c.args.pool.now) (sym needs) (too_many_more c.args.pool.now (pieces_need behind) (piece_needs c.piece-item.result ++ pieces_need front)
    (too_many_then c.args.pool.now l.pool (pieces_need front) (piece_needs c.piece-item.result) l.invariant.grows (c.in_err-mark_of.ensures.full full))))

pub loop-piece-preserved : goal.loop-piece-preserved
loop-piece-preserved c =
    let l = c.loop-piece in
    let front = take l.piece-index c.args.pieces.now in
    let mark = c.in_ok-mark_of.field-0 in
    record {
      names = rw (take_more c.args.pieces.now l.piece-index c.piece-item.result c.loop-piece-test.true, ← c.piece-item.is, c.in_ok-push.ensures.items)
          (all_push c.mark_of.new.pool front l.marks.items c.piece-item.result mark (all_kept l.pool c.mark_of.new.pool front l.marks.items c.in_ok-mark_of.ensures.kept l.invariant.names) c.in_ok-mark_of.ensures.names);
      marks = rw c.in_ok-push.ensures.items (AllByRecursion-push IsMark l.marks.items mark l.invariant.marks c.in_ok-mark_of.ensures.mark);
      kept = keeps_then c.args.pool.now l.pool c.mark_of.new.pool l.invariant.kept c.in_ok-mark_of.ensures.kept;
      grows = rw (take_more c.args.pieces.now l.piece-index c.piece-item.result c.loop-piece-test.true, ← c.piece-item.is)
          (subst (λ (cs : List Const). Grows c.args.pool.now cs c.mark_of.new.pool) (sym (need-more front c.piece-item.result))
          (grows_then c.args.pool.now l.pool c.mark_of.new.pool (pieces_need front) (piece_needs c.piece-item.result) l.invariant.grows c.in_ok-mark_of.ensures.grows));
    }
