use Rattle.std.proofs.Common.{◌≡◌, ℕ, ◌-◌, ◌<◌, List, length, sym, subst, ap, arith}
use Rattle.std.proofs.lemmas.List.{length-append}
use Rattle.wv_base.specs.declared.note.Note.{Note}
use Rattle.wv_attr.specs.Fronts.{AnnotationsFront}
use Rattle.wv_attr.specs.Meanings.{AreNotes, no_notes}
use Rattle.wv_attr.proofs.Meanings as meaning
use Rattle.wv_attr.proofs.notes.notes.Goals as goal

pub loop-alloc-init : goal.loop-alloc-init
loop-alloc-init c =
    let none = c.new-found.ensures.items in
    let all : c.args.count - length c.new-found.result.items ≡ c.args.count = omega (arith, ap length none) in
    record {
      more = (c.requires.front.0, subst (λ (k : ℕ). AnnotationsFront k c.args.parts.now c.requires.front.0) (sym all) c.requires.front.1);
      all = λ rest f. subst (λ (k : ℕ). AnnotationsFront k c.args.parts.now rest) (sym all) f;
      few = omega (arith, ap length none);
      read = subst (λ (ns : List Note). AreNotes c.args.pool.now c.args.visible c.args.parameter ns c.args.parts.now c.args.parts.now) (sym none) (no_notes c.args.parts.now);
      shorter = omega arith;
      sound = c.requires.sound;
    }

pub loop-alloc-preserved : goal.loop-alloc-preserved
loop-alloc-preserved c =
    let l = c.loop-alloc in
    let v = c.in_ok-annotation in
    let pushed = c.in_ok-push.ensures.items in
    let left : c.args.count - length l.found.items - 1 ≡ c.args.count - length c.push.new.self.items = omega (arith, ap length pushed, length-append {A = Note}) in
    let more : 0 < c.args.count - length l.found.items = omega (arith, l.found.ok.0, c.len.ensures, c.loop-alloc-test.true) in
    record {
      more = (l.invariant.more.0, subst (λ (k : ℕ). AnnotationsFront k v.after.now l.invariant.more.0) left (meaning.annotations_step _ _ v.after.now _ more v.ensures.rest l.invariant.more.1));
      all = λ rest f. subst (λ (k : ℕ). AnnotationsFront k v.after.now rest) left (meaning.annotations_step _ _ v.after.now _ more v.ensures.rest (l.invariant.all rest f));
      few = omega (arith, ap length pushed, length-append {A = Note}, more);
      read = subst (λ (ns : List Note). AreNotes c.args.pool.now c.args.visible c.args.parameter ns c.args.parts.now v.after.now) (sym pushed) (meaning.notes_more c.args.pool.now c.args.visible c.args.parameter l.found.items v.annotation c.args.parts.now l.rest.now v.after.now l.invariant.read v.ensures.read);
      shorter = omega (arith, v.ensures.shorter, l.invariant.shorter);
      sound = v.ensures.sound;
    }

pub returns-clause-rest : goal.returns-clause-rest
returns-clause-rest c = λ rest f.
    meaning.annotations_over _ _ _ (omega (arith, c.loop-alloc.found.ok.0, c.len.ensures, c.loop-alloc-test.false)) (c.loop-alloc.invariant.all rest f)
