use Rattle.std.proofs.Common.{◌≡◌, List, [], ◌∷◌, ◌++◌, length, refl, sym, subst, ap, ◌∙◌, append_assoc, arith}
use Rattle.std.proofs.lemmas.Bool.{eqb-true}
use Rattle.std.proofs.lemmas.List.{append-nil}
use Rattle.wv_base.specs.declared.note.Note.{Note}
use Rattle.wv_attr.specs.declared.mark.Mark.{Mark}
use Rattle.wv_attr.specs.Meanings.{AreListed, no_lists, one_list}
use Rattle.wv_attr.proofs.Shapes.{lists_front, lists_left}
use Rattle.wv_attr.proofs.notes.parameter_notes_of.Goals as goal

emptied : (ms : List Mark) → length ms ≡ 0 → ms ≡ []
emptied [] e = refl
emptied (m ∷ ms) e = absurd (omega arith)

pub loop-rest-init : goal.loop-rest-init
loop-rest-init c = record {
  more = (c.requires.layout.1, omega (arith, c.requires.layout.2), lists_front c.requires.layout.3);
  read = λ others l. subst (λ (ns : List Note). AreListed c.args.pool.now c.args.visible 0 (ns ++ others) c.args.parts.now) (sym c.new-found.ensures.items) l;
  sound = c.requires.sound;
}

pub loop-rest-preserved : goal.loop-rest-preserved
loop-rest-preserved c =
    let l = c.loop-rest in
    let v = c.in_ok-more in
    let left = lists_left l.rest.now (omega (arith, v.ensures.shorter)) l.invariant.more.2 in
    let read = v.ensures.read in
    let all = c.in_ok-append.ensures.items in
    record {
      more = (left.others, omega (arith, left.one_more, l.invariant.more.1), v.ensures.rest left.others [] left.lists);
      read = λ others behind.
          subst (λ (ns : List Note). AreListed c.args.pool.now c.args.visible 0 ns c.args.parts.now) (sym (ap (λ (ns : List Note). ns ++ others) all ∙ append_assoc l.found.items v.more.items others))
          (l.invariant.read (v.more.items ++ others)
          (subst (AreListed c.args.pool.now c.args.visible l.place (v.more.items ++ others)) (sym read.1)
          (one_list l.place v.more.items others read.0 v.after.now read.2 behind)));
      sound = v.ensures.sound;
    }

pub returns : goal.returns
returns c =
    let l = c.loop-rest in
    let over = emptied l.rest.now (eqb-true (length l.rest.now) 0 (sym c.is_empty.ensures ∙ c.loop-rest-test.false)) in
    subst (λ (ns : List Note). AreListed c.args.pool.now c.args.visible 0 ns c.args.parts.now) (sym (c.from_vec.ensures ∙ sym (append-nil l.found.items)))
    (l.invariant.read [] (subst (AreListed c.args.pool.now c.args.visible l.place []) (sym over) (no_lists l.place)))
