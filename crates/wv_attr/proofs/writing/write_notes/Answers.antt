use Rattle.std.proofs.Common.{◌≡◌, ◌++◌, List, subst, ap, ◌∙◌}
use Rattle.wv_pool.proofs.Lacking.{later}
use Rattle.wv_attr.specs.declared.piece.Piece.{Piece}
use Rattle.wv_attr.specs.Marks.{table_bytes}
use Rattle.wv_attr.specs.Pieces.{list_pieces, AllName}
use Rattle.wv_attr.proofs.Written.{members_read}
use Rattle.wv_attr.proofs.writing.write_notes.Goals as goal

pub returns-in_err-marks-clause-older : goal.returns-in_err-marks-clause-older
returns-in_err-marks-clause-older c = λ n d h. later c.args.pool.now c.marks_of.new.pool n d c.in_err-marks.ensures.kept h

pub returns-in_err-put_marks-clause-older : goal.returns-in_err-put_marks-clause-older
returns-in_err-put_marks-clause-older c = λ n d h. later c.args.pool.now c.marks_of.new.pool n d c.in_ok-marks.ensures.kept h

pub returns-clause-older : goal.returns-clause-older
returns-clause-older c = λ n d h. later c.args.pool.now c.marks_of.new.pool n d c.in_ok-marks.ensures.kept h

pub returns-clause-read_again : goal.returns-clause-read_again
returns-clause-read_again c = λ visible.
    let parts = c.in_ok-marks.marks.items in
    let pieces : c.deref.result.now ≡ list_pieces c.args.notes.now =
    c.deref.ensures.value ∙ c.in_ok-put_list.ensures ∙ ap (λ (ps : List Piece). ps ++ list_pieces c.args.notes.now) c.new-pieces.ensures.items in
    let names = subst (λ (ps : List Piece). AllName c.marks_of.new.pool ps parts) pieces c.in_ok-marks.ensures.names in
    let bytes = c.from_vec.ensures ∙ c.in_ok-put_marks.ensures ∙ ap (λ bs. bs ++ table_bytes c.deref-2.result.now) c.new-out.ensures.items ∙ ap table_bytes c.deref-2.ensures.value in
    members_read c.marks_of.new.pool visible c.args.notes.now parts c.from_vec.result c.requires names c.in_ok-marks.ensures.marks bytes
