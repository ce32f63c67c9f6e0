use Rattle.std.proofs.Common.{◌∷◌, [], ◌++◌, length, lit<, arith, sym, ap, ◌∙◌}
use Rattle.std.specs.String.{string_bytes}
use Rattle.std.proofs.lemmas.Iterator.Consumers.{YieldsList-from_enumerate, YieldsList-turn, YieldsList-end}
use Rattle.std.proofs.lemmas.Iterator.Splits.{YieldsList-from_str_split}
use Rattle.wv_mod.proofs.Slashing.{joined-all, place-of, joined-first, joined-more}
use Rattle.wv_mod.proofs.slashes.with_slashes.Goals as goal
use Rattle.wv_mod.proofs.slashes.with_slashes.Goals.{then-place-gt0+in_ok-push, else-place-gt0}

pub loop-place-preserved : goal.loop-place-preserved
loop-place-preserved c =
    let turn = YieldsList-turn (YieldsList-from_enumerate (YieldsList-from_str_split 46 c.args.text.now (lit< tt) (cc) (cc) (cc)) (cc)) c.loop-place.yielded _ c.loop-place.yielded_by _ _ _ c.in-Some.is c.next.ensures.steps in
    let place = place-of c.args.text.now (length c.loop-place.yielded) c.in-Some.place c.in-Some.part.now turn.0 turn.1 in
    elim c.if-place-gt0.branch [
      | then-place-gt0+in_ok-push w ↦
          let more = joined-more c.loop-place.yielded (c.in-Some.place, c.in-Some.part) (omega (arith, place, w.if-place-gt0.true)) in
          c.in_ok-push_str.ensures.bytes
          ∙ ap (λ text. string_bytes text ++ c.in-Some.part.now) w.slashed-is
          ∙ ap (λ text. text ++ c.in-Some.part.now) (w.in_ok-push.ensures.bytes ∙ ap (λ byte. string_bytes c.loop-place.slashed ++ byte) (w.in_ok-push.ensures.ascii (lit< tt)) ∙ ap (λ text. text ++ 47 ∷ []) c.loop-place.invariant)
          ∙ sym more
      | else-place-gt0 w ↦
          let first = joined-first c.loop-place.yielded (c.in-Some.place, c.in-Some.part) (omega (arith, place, w.if-place-gt0.false)) in
          c.in_ok-push_str.ensures.bytes
          ∙ ap (λ text. string_bytes text ++ c.in-Some.part.now) w.slashed-is
          ∙ ap (λ text. text ++ c.in-Some.part.now) c.loop-place.invariant
          ∙ sym first
    ]

pub returns : goal.returns
returns c =
    let end = YieldsList-end (YieldsList-from_enumerate (YieldsList-from_str_split 46 c.args.text.now (lit< tt) (cc) (cc) (cc)) (cc)) c.loop-place.yielded _ c.loop-place.yielded_by _ _ c.in-None.is c.next.ensures.steps in
    c.from_string.ensures ∙ c.loop-place.invariant ∙ joined-all c.loop-place.yielded c.args.text.now end.0
