use Rattle.std.proofs.Common.{ℕ, List, [], ◌∷◌, length, None, sym, subst, ap, ◌∙◌}
use Rattle.wv_base.specs.declared.note.Note.{Note}
use Rattle.wv_attr.specs.declared.mark.Mark.{Mark}
use Rattle.wv_attr.specs.declared.mark.Mark.TheVariants as marks
use Rattle.wv_attr.specs.Meanings.{AreNotes}
use Rattle.wv_attr.proofs.Shapes.{lists_front, no_list_left}
use Rattle.wv_attr.proofs.notes.notes_of.Goals as goal

pub list-requires-clause-front : goal.list-requires-clause-front
list-requires-clause-front c = (0, [], lists_front c.requires.layout.1)

pub returns : goal.returns
returns c =
    let found = c.in_ok-found in
    let read = found.ensures.read in
    let over = no_list_left (found.ensures.rest 0 [] (lists_front c.requires.layout.1)) in
    let all = subst (λ (t : List Mark). AreNotes c.args.pool.now c.args.visible None found.found.items read.0 t) over read.2 in
    record {
      list = read.0;
      starts = read.1 ∙ ap (λ (k : ℕ). marks.List k ∷ read.0) (sym (ap length c.from_vec.ensures));
      are = subst (λ (ns : List Note). AreNotes c.args.pool.now c.args.visible None ns read.0 []) (sym c.from_vec.ensures) all;
    }
