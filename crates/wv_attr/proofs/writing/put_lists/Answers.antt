use Rattle.std.proofs.Common.{◌+◌, ◌≡◌, ◌++◌, List, take, sym, subst, ap, ◌∙◌}
use Rattle.std.proofs.lemmas.List.{take-append-drop}
use Rattle.wv_base.specs.declared.note.Note.{Note}
use Rattle.wv_attr.specs.Writing.{AreOrdered, by_place, lists_pieces}
use Rattle.wv_attr.proofs.Ordered.{AreOf, one_list_more}
use Rattle.wv_attr.proofs.writing.put_lists.Goals as goal

pub loop-place-preserved : goal.loop-place-preserved
loop-place-preserved c =
    let l = c.loop-place in
    let list = c.split_at.result.0.now in
    let after = c.split_at.result.1.now in
    let splits : list ++ after ≡ l.rest.now = ap (λ (t : List Note). t ++ after) c.split_at.ensures.front ∙ ap (λ (t : List Note). take c.run_len.result l.rest.now ++ t) c.split_at.ensures.back ∙ take-append-drop c.run_len.result l.rest.now in
    let here = subst (AreOf l.place) (sym c.split_at.ensures.front) c.run_len.ensures.here in
    let behind = subst (AreOrdered (l.place + 1) c.args.count) (sym c.split_at.ensures.back) (c.run_len.ensures.behind c.args.count l.invariant.ordered) in
    record {
      ordered = behind;
      read = one_list_more l.place c.args.count l.out.items c.put_list.new.out.items (c.args.out.now.items ++ lists_pieces (by_place 0 c.args.count c.args.notes.now)) l.rest.now list after c.loop-place-test.true splits here behind c.in_ok-put_list.ensures l.invariant.read;
    }
