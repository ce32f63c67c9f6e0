use Rattle.std.proofs.Common.{◌≡◌, ℕ, ◌-◌, ◌<◌, List, [], ◌∷◌, length, sym, subst, ap, arith}
use Rattle.std.specs.List.{AllByRecursion}
use Rattle.std.proofs.lemmas.List.{length-append}
use Rattle.wv_base.specs.declared.note.Element.{Element}
use Rattle.wv_base.specs.declared.note.NamedElement.{NamedElement}
use Rattle.wv_pool.specs.References.{text_of}
use Rattle.wv_attr.specs.declared.mark.Mark.{Mark}
use Rattle.wv_attr.specs.declared.mark.Mark.TheVariants as marks
use Rattle.wv_attr.specs.References.{IsSound}
use Rattle.wv_attr.specs.Fronts.{ValueFront, ValuesFront, AnnotationFront, PairFront, PairsFront}
use Rattle.wv_attr.specs.Meanings.{AreValues, ArePairs, no_values, no_pairs}
use Rattle.wv_attr.proofs.Meanings as meaning
use Rattle.wv_attr.proofs.naming.+naming.Goals as goal

pub value-returns-in_ok-value-in-Constant-clause-read : goal.value-returns-in_ok-value-in-Constant-clause-read
value-returns-in_ok-value-in-Constant-clause-read t c =
    let e = meaning.opened c.args.parts.now (marks.List 0) _ c.in-len1-up.len_at_least c.in-Constant.is in
    meaning.constant_read c.args.pool.now c.args.parts.now (meaning.behind_one c.args.parts.now) c.in-Constant.tag c.in-Constant.value c.in_ok-value-in-Constant.value e c.in_ok-value-in-Constant.ensures

pub value-returns-in_ok-value-in-Constant-clause-rest : goal.value-returns-in_ok-value-in-Constant-clause-rest
value-returns-in_ok-value-in-Constant-clause-rest t c = λ rest f.
    let e = meaning.opened c.args.parts.now (marks.List 0) _ c.in-len1-up.len_at_least c.in-Constant.is in
    meaning.constant_rest (subst (λ (t : List Mark). ValueFront t rest) e f)

pub value-text-requires-in-Enum : goal.value-text-requires-in-Enum
value-text-requires-in-Enum t c =
    let e = meaning.opened c.args.parts.now (marks.List 0) _ c.in-len1-up.len_at_least c.in-Enum.is in
    let sound = subst (AllByRecursion (IsSound c.args.pool.now)) e c.requires.sound in
    meaning.some_text _ (text_of c.args.pool.now c.in-Enum.name) sound.0.1

pub value-returns-in_ok-name-in-Enum-clause-read : goal.value-returns-in_ok-name-in-Enum-clause-read
value-returns-in_ok-name-in-Enum-clause-read t c =
    let e = meaning.opened c.args.parts.now (marks.List 0) _ c.in-len1-up.len_at_least c.in-Enum.is in
    meaning.enum_read c.args.pool.now c.args.parts.now (meaning.behind_one c.args.parts.now) c.in-Enum.descriptor c.in-Enum.name c.in_ok-descriptor-in-Enum.descriptor c.in_ok-name-in-Enum.name e c.in_ok-descriptor-in-Enum.ensures c.in_ok-name-in-Enum.ensures

pub value-returns-in_ok-name-in-Enum-clause-rest : goal.value-returns-in_ok-name-in-Enum-clause-rest
value-returns-in_ok-name-in-Enum-clause-rest t c = λ rest f.
    let e = meaning.opened c.args.parts.now (marks.List 0) _ c.in-len1-up.len_at_least c.in-Enum.is in
    meaning.enum_rest (subst (λ (t : List Mark). ValueFront t rest) e f)

pub value-returns-in_ok-text-in-Class-clause-read : goal.value-returns-in_ok-text-in-Class-clause-read
value-returns-in_ok-text-in-Class-clause-read t c =
    let e = meaning.opened c.args.parts.now (marks.List 0) _ c.in-len1-up.len_at_least c.in-Class.is in
    meaning.class_read c.args.pool.now c.args.parts.now (meaning.behind_one c.args.parts.now) c.in-Class.descriptor c.in_ok-text-in-Class.field-0 e c.in_ok-text-in-Class.ensures

pub value-returns-in_ok-text-in-Class-clause-rest : goal.value-returns-in_ok-text-in-Class-clause-rest
value-returns-in_ok-text-in-Class-clause-rest t c = λ rest f.
    let e = meaning.opened c.args.parts.now (marks.List 0) _ c.in-len1-up.len_at_least c.in-Class.is in
    meaning.class_rest (subst (λ (t : List Mark). ValueFront t rest) e f)

pub value-returns-in_ok-nested-in-Nested-clause-read : goal.value-returns-in_ok-nested-in-Nested-clause-read
value-returns-in_ok-nested-in-Nested-clause-read t c =
    let e = meaning.opened c.args.parts.now (marks.List 0) _ c.in-len1-up.len_at_least c.in-Nested.is in
    meaning.nested_read c.args.pool.now c.args.parts.now (meaning.behind_one c.args.parts.now) c.in_ok-nested-in-Nested.after.now c.in_ok-nested-in-Nested.nested e c.in_ok-nested-in-Nested.ensures.read

pub value-returns-in_ok-nested-in-Nested-clause-rest : goal.value-returns-in_ok-nested-in-Nested-clause-rest
value-returns-in_ok-nested-in-Nested-clause-rest t c = λ rest f.
    let e = meaning.opened c.args.parts.now (marks.List 0) _ c.in-len1-up.len_at_least c.in-Nested.is in
    c.in_ok-nested-in-Nested.ensures.rest rest (meaning.nested_rest (subst (λ (t : List Mark). ValueFront t rest) e f))

pub value-returns-in_ok-array-in-Array-clause-read : goal.value-returns-in_ok-array-in-Array-clause-read
value-returns-in_ok-array-in-Array-clause-read t c =
    let e = meaning.opened c.args.parts.now (marks.List 0) _ c.in-len1-up.len_at_least c.in-Array.is in
    meaning.array_read c.args.pool.now c.args.parts.now (meaning.behind_one c.args.parts.now) c.in_ok-array-in-Array.after.now c.in-Array.count c.in_ok-array-in-Array.array e c.in_ok-array-in-Array.ensures.count c.in_ok-array-in-Array.ensures.read

pub value-returns-in_ok-array-in-Array-clause-rest : goal.value-returns-in_ok-array-in-Array-clause-rest
value-returns-in_ok-array-in-Array-clause-rest t c = λ rest f.
    let e = meaning.opened c.args.parts.now (marks.List 0) _ c.in-len1-up.len_at_least c.in-Array.is in
    c.in_ok-array-in-Array.ensures.rest rest (meaning.array_rest (subst (λ (t : List Mark). ValueFront t rest) e f))

pub values-loop-alloc-init : goal.values-loop-alloc-init
values-loop-alloc-init t c =
    let none = c.new-found.ensures.items in
    let all : c.args.count - length c.new-found.result.items ≡ c.args.count = omega (arith, ap length none) in
    record {
      more = (c.requires.front.0, subst (λ (k : ℕ). ValuesFront k c.args.parts.now c.requires.front.0) (sym all) c.requires.front.1);
      all = λ rest f. subst (λ (k : ℕ). ValuesFront k c.args.parts.now rest) (sym all) f;
      few = omega (arith, ap length none);
      read = subst (λ (es : List Element). AreValues c.args.pool.now es c.args.parts.now c.args.parts.now) (sym none) (no_values c.args.parts.now);
      sound = c.requires.sound;
      shorter = omega arith;
    }

pub values-loop-alloc-preserved : goal.values-loop-alloc-preserved
values-loop-alloc-preserved t c =
    let l = c.loop-alloc in
    let v = c.in_ok-value in
    let pushed = c.in_ok-push.ensures.items in
    let one = length-append l.found.items (v.value ∷ []) in
    let left : c.args.count - length l.found.items - 1 ≡ c.args.count - length c.push.new.self.items = omega (arith, ap length pushed, one) in
    let more : 0 < c.args.count - length l.found.items = omega (arith, l.found.ok.0, c.len.ensures, c.loop-alloc-test.true) in
    record {
      more = (l.invariant.more.0, subst (λ (k : ℕ). ValuesFront k v.after.now l.invariant.more.0) left (meaning.values_step _ _ v.after.now _ more v.ensures.rest l.invariant.more.1));
      all = λ rest f. subst (λ (k : ℕ). ValuesFront k v.after.now rest) left (meaning.values_step _ _ v.after.now _ more v.ensures.rest (l.invariant.all rest f));
      few = omega (arith, ap length pushed, one, more);
      read = subst (λ (es : List Element). AreValues c.args.pool.now es c.args.parts.now v.after.now) (sym pushed) (meaning.values_more c.args.pool.now l.found.items v.value c.args.parts.now l.rest.now v.after.now l.invariant.read v.ensures.read);
      sound = v.ensures.sound;
      shorter = omega (arith, v.ensures.shorter, l.invariant.shorter);
    }

pub values-returns-clause-rest : goal.values-returns-clause-rest
values-returns-clause-rest t c = λ rest f.
    meaning.values_over _ _ _ (omega (arith, c.loop-alloc.found.ok.0, c.len.ensures, c.loop-alloc-test.false)) (c.loop-alloc.invariant.all rest f)

pub annotation-returns-clause-read : goal.annotation-returns-clause-read
annotation-returns-clause-read t c =
    let e = meaning.opened c.args.parts.now (marks.List 0) _ c.in-len1-up.len_at_least c.in-Annotation.is in
    let elements = c.in_ok-elements-in-Annotation in
    meaning.annotation_read c.args.pool.now c.args.parts.now (meaning.behind_one c.args.parts.now) elements.after.now c.in-Annotation.number c.in-Annotation.count c.in_ok-class-in-Annotation.class elements.elements e c.in_ok-class-in-Annotation.ensures elements.ensures.count elements.ensures.read

pub annotation-returns-clause-rest : goal.annotation-returns-clause-rest
annotation-returns-clause-rest t c = λ rest f.
    let e = meaning.opened c.args.parts.now (marks.List 0) _ c.in-len1-up.len_at_least c.in-Annotation.is in
    c.in_ok-elements-in-Annotation.ensures.rest rest (meaning.annotation_rest (subst (λ (t : List Mark). AnnotationFront t rest) e f))

pub pair-returns-clause-read : goal.pair-returns-clause-read
pair-returns-clause-read t c =
    let e = meaning.opened c.args.parts.now (marks.List 0) _ c.in-len1-up.len_at_least c.in-Name.is in
    meaning.pair_read c.args.pool.now c.args.parts.now (meaning.behind_one c.args.parts.now) c.in_ok-value-in-Name.after.now c.in-Name.number c.in_ok-name-in-Name.name c.in_ok-value-in-Name.value e c.in_ok-name-in-Name.ensures c.in_ok-value-in-Name.ensures.read

pub pair-returns-clause-rest : goal.pair-returns-clause-rest
pair-returns-clause-rest t c = λ rest f.
    let e = meaning.opened c.args.parts.now (marks.List 0) _ c.in-len1-up.len_at_least c.in-Name.is in
    c.in_ok-value-in-Name.ensures.rest rest (meaning.pair_rest (subst (λ (t : List Mark). PairFront t rest) e f))

pub pairs-loop-alloc-init : goal.pairs-loop-alloc-init
pairs-loop-alloc-init t c =
    let none = c.new-found.ensures.items in
    let all : c.args.count - length c.new-found.result.items ≡ c.args.count = omega (arith, ap length none) in
    record {
      more = (c.requires.front.0, subst (λ (k : ℕ). PairsFront k c.args.parts.now c.requires.front.0) (sym all) c.requires.front.1);
      all = λ rest f. subst (λ (k : ℕ). PairsFront k c.args.parts.now rest) (sym all) f;
      few = omega (arith, ap length none);
      read = subst (λ (ps : List NamedElement). ArePairs c.args.pool.now ps c.args.parts.now c.args.parts.now) (sym none) (no_pairs c.args.parts.now);
      sound = c.requires.sound;
      shorter = omega arith;
    }

pub pairs-loop-alloc-preserved : goal.pairs-loop-alloc-preserved
pairs-loop-alloc-preserved t c =
    let l = c.loop-alloc in
    let v = c.in_ok-element in
    let pushed = c.in_ok-push.ensures.items in
    let one = length-append l.found.items (v.element ∷ []) in
    let left : c.args.count - length l.found.items - 1 ≡ c.args.count - length c.push.new.self.items = omega (arith, ap length pushed, one) in
    let more : 0 < c.args.count - length l.found.items = omega (arith, l.found.ok.0, c.len.ensures, c.loop-alloc-test.true) in
    record {
      more = (l.invariant.more.0, subst (λ (k : ℕ). PairsFront k v.after.now l.invariant.more.0) left (meaning.pairs_step _ _ v.after.now _ more v.ensures.rest l.invariant.more.1));
      all = λ rest f. subst (λ (k : ℕ). PairsFront k v.after.now rest) left (meaning.pairs_step _ _ v.after.now _ more v.ensures.rest (l.invariant.all rest f));
      few = omega (arith, ap length pushed, one, more);
      read = subst (λ (ps : List NamedElement). ArePairs c.args.pool.now ps c.args.parts.now v.after.now) (sym pushed) (meaning.pairs_more c.args.pool.now l.found.items v.element c.args.parts.now l.rest.now v.after.now l.invariant.read v.ensures.read);
      sound = v.ensures.sound;
      shorter = omega (arith, v.ensures.shorter, l.invariant.shorter);
    }

pub pairs-returns-clause-rest : goal.pairs-returns-clause-rest
pairs-returns-clause-rest t c = λ rest f.
    meaning.pairs_over _ _ _ (omega (arith, c.loop-alloc.found.ok.0, c.len.ensures, c.loop-alloc-test.false)) (c.loop-alloc.invariant.all rest f)
