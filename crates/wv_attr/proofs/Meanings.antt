-- Annotations made of their parts.
use Rattle.std.proofs.Common.{◌≡◌, ℕ, Bool, suc, ◌-◌, ◌<◌, ◌≤◌, List, [], ◌∷◌, ◌++◌, length, get_or, take, drop, Option, Some, None, Result, Ok, Err, refl, sym, subst, ap, ◌∙◌, arith}
use Rattle.std.specs.Option.{IsSomeAnd}
use Rattle.std.specs.Result.{IfOk}
use Rattle.std.proofs.lemmas.List.{take_all}
use Rattle.wv_base.specs.declared.class_file.PoolEntry.{PoolEntry}
use Rattle.wv_base.specs.declared.constant.Const.{Const}
use Rattle.wv_base.specs.declared.descriptor.FieldType.{FieldType}
use Rattle.wv_base.specs.declared.memory.Memory.{Memory}
use Rattle.wv_base.specs.declared.note.Annotation.{Annotation, roll-Annotation}
use Rattle.wv_base.specs.declared.note.NamedElement.{NamedElement, roll-NamedElement}
use Rattle.wv_base.specs.declared.note.Element.{Element}
use Rattle.wv_base.specs.declared.note.Element.TheVariants as elements
use Rattle.wv_base.specs.declared.note.Note.{Note}
use Rattle.wv_pool.specs.References.{text_of}
use Rattle.wv_pool.specs.Constants.{constant_of}
use Rattle.wv_attr.specs.declared.mark.Mark.{Mark}
use Rattle.wv_attr.specs.declared.mark.Mark.TheVariants as marks
use Rattle.wv_attr.specs.Types.{class_in}
use Rattle.wv_attr.specs.Fronts.{ValueFront, ValuesFront, AnnotationFront, PairFront, PairsFront, AnnotationsFront, ListsFront}
use Rattle.wv_attr.specs.Fronts as fronts
use Rattle.wv_attr.specs.Meanings.{class_descriptor, IsValue, AreValues, IsAnnotation, IsPair, ArePairs, AreNotes}
use Rattle.wv_attr.specs.Meanings as meanings
use Rattle.wv_attr.proofs.TypeTables.{TextType, class_text}

some_is : (a b : List ℕ) → Some a ≡ Some b → a ≡ b
some_is a b e = cc

pub named_class : (o : Option (List ℕ)) (t : Option FieldType) (name : List ℕ) (r : Result (List ℕ) Memory) → TextType o t → Some name ≡ class_in t → IfOk r (λ n. n ≡ name) → IfOk r (λ n. o ≡ Some (class_descriptor n))
named_class o t name (Ok n) h e same = class_text o t name h (sym e) ∙ ap (λ (x : List ℕ). Some (class_descriptor x)) (sym same)
named_class o t name (Err x) h e same = tt

pub some_text : (P : List ℕ → Type 0) (o : Option (List ℕ)) → IsSomeAnd o P → (text : List ℕ) × (o ≡ Some text)
some_text P (Some text) h = (text, refl)
some_text P None h = absurd h

-- the parts behind the first, as a pattern has them
abbrev pub behind_one : List Mark → List Mark
behind_one parts = take (length parts - 1) (drop 1 parts)

pub opened : (parts : List Mark) (d m : Mark) → 1 ≤ length parts → get_or parts 0 d ≡ m → parts ≡ m ∷ behind_one parts
opened [] d m le e = absurd (omega arith)
opened (x ∷ w) d m le e = ap (λ (y : Mark). y ∷ w) e ∙ ap (λ (t : List Mark). m ∷ t) (sym (take_all (length (x ∷ w) - 1) w (omega arith)))

pub constant_rest : {tag n : ℕ} {ms rest : List Mark} → ValueFront (marks.Constant tag n ∷ ms) rest → ms ≡ rest
constant_rest (fronts.constant tag n rest) = refl

pub enum_rest : {d n : ℕ} {ms rest : List Mark} → ValueFront (marks.Enum d n ∷ ms) rest → ms ≡ rest
enum_rest (fronts.enumerator d n rest) = refl

pub class_rest : {d : ℕ} {ms rest : List Mark} → ValueFront (marks.Class d ∷ ms) rest → ms ≡ rest
class_rest (fronts.class d rest) = refl

pub nested_rest : {ms rest : List Mark} → ValueFront (marks.Nested ∷ ms) rest → AnnotationFront ms rest
nested_rest (fronts.nested ms rest f) = f

pub array_rest : {count : ℕ} {ms rest : List Mark} → ValueFront (marks.Array count ∷ ms) rest → ValuesFront count ms rest
array_rest (fronts.array count ms rest f) = f

pub annotation_rest : {type count : ℕ} {ms rest : List Mark} → AnnotationFront (marks.Annotation type count ∷ ms) rest → PairsFront count ms rest
annotation_rest (fronts.annotation type count ms rest f) = f

pub pair_rest : {name : ℕ} {ms rest : List Mark} → PairFront (marks.Name name ∷ ms) rest → ValueFront ms rest
pair_rest (fronts.pair name ms rest f) = f

pub values_step : (k : ℕ) (ms after end : List Mark) → 0 < k → ((r : List Mark) → ValueFront ms r → after ≡ r) → ValuesFront k ms end → ValuesFront (k - 1) after end
values_step k ms after end pos same (fronts.no_values rest) = absurd (omega arith)
values_step k ms after end pos same (fronts.one_value count ms2 next rest v l) =
    let less : suc count - 1 ≡ count = omega arith in
    subst (λ (j : ℕ). ValuesFront j after rest) (sym less) (subst (λ (t : List Mark). ValuesFront count t rest) (sym (same next v)) l)

pub values_over : (k : ℕ) (ms end : List Mark) → k ≡ 0 → ValuesFront k ms end → ms ≡ end
values_over k ms end z (fronts.no_values rest) = refl
values_over k ms end z (fronts.one_value count ms2 next rest v l) = absurd (omega arith)

pub values_first : (k : ℕ) (ms end : List Mark) → 0 < k → ValuesFront k ms end → (next : List Mark) × ValueFront ms next
values_first k ms end pos (fronts.no_values rest) = absurd (omega arith)
values_first k ms end pos (fronts.one_value count ms2 next rest v l) = (next, v)

pub pairs_step : (k : ℕ) (ms after end : List Mark) → 0 < k → ((r : List Mark) → PairFront ms r → after ≡ r) → PairsFront k ms end → PairsFront (k - 1) after end
pairs_step k ms after end pos same (fronts.no_pairs rest) = absurd (omega arith)
pairs_step k ms after end pos same (fronts.one_pair count ms2 next rest v l) =
    let less : suc count - 1 ≡ count = omega arith in
    subst (λ (j : ℕ). PairsFront j after rest) (sym less) (subst (λ (t : List Mark). PairsFront count t rest) (sym (same next v)) l)

pub pairs_over : (k : ℕ) (ms end : List Mark) → k ≡ 0 → PairsFront k ms end → ms ≡ end
pairs_over k ms end z (fronts.no_pairs rest) = refl
pairs_over k ms end z (fronts.one_pair count ms2 next rest v l) = absurd (omega arith)

module _ (pool : List PoolEntry) where
  pub constant_read : (parts rest : List Mark) (tag n : ℕ) (value : Const) → parts ≡ marks.Constant tag n ∷ rest → constant_of pool n ≡ Some value → IsValue pool (elements.Constant tag value) parts rest
  constant_read parts rest tag n value e h = subst (λ (t : List Mark). IsValue pool (elements.Constant tag value) t rest) (sym e) (meanings.constant tag n value rest h)

  pub enum_read : (parts rest : List Mark) (d n : ℕ) (descriptor name : List ℕ) → parts ≡ marks.Enum d n ∷ rest → text_of pool d ≡ Some descriptor → text_of pool n ≡ Some name → IsValue pool (elements.Enum descriptor name) parts rest
  enum_read parts rest d n descriptor name e h k = subst (λ (t : List Mark). IsValue pool (elements.Enum descriptor name) t rest) (sym e) (meanings.enumerator d n descriptor name rest h k)

  pub class_read : (parts rest : List Mark) (d : ℕ) (descriptor : List ℕ) → parts ≡ marks.Class d ∷ rest → text_of pool d ≡ Some descriptor → IsValue pool (elements.Class descriptor) parts rest
  class_read parts rest d descriptor e h = subst (λ (t : List Mark). IsValue pool (elements.Class descriptor) t rest) (sym e) (meanings.class d descriptor rest h)

  pub nested_read : (parts ms rest : List Mark) (a : Annotation) → parts ≡ marks.Nested ∷ ms → IsAnnotation pool a ms rest → IsValue pool (elements.Annotation a) parts rest
  nested_read parts ms rest a e h = subst (λ (t : List Mark). IsValue pool (elements.Annotation a) t rest) (sym e) (meanings.nested a ms rest h)

  pub array_read : (parts ms rest : List Mark) (count : ℕ) (es : List Element) → parts ≡ marks.Array count ∷ ms → length es ≡ count → AreValues pool es ms rest → IsValue pool (elements.Array es) parts rest
  array_read parts ms rest count es e len h =
      subst (λ (t : List Mark). IsValue pool (elements.Array es) t rest) (ap (λ (k : ℕ). marks.Array k ∷ ms) len ∙ sym e) (meanings.array es ms rest h)

  pub annotation_read : (parts ms rest : List Mark) (type count : ℕ) (name : List ℕ) (es : List NamedElement) → parts ≡ marks.Annotation type count ∷ ms → text_of pool type ≡ Some (class_descriptor name) → length es ≡ count → ArePairs pool es ms rest
      → IsAnnotation pool (roll-Annotation (record { class = name; elements = es })) parts rest
  annotation_read parts ms rest type count name es e h len k =
      subst (λ (t : List Mark). IsAnnotation pool (roll-Annotation (record { class = name; elements = es })) t rest) (ap (λ (j : ℕ). marks.Annotation type j ∷ ms) len ∙ sym e)
      (meanings.annotation type name es ms rest h k)

  pub pair_read : (parts ms rest : List Mark) (n : ℕ) (name : List ℕ) (value : Element) → parts ≡ marks.Name n ∷ ms → text_of pool n ≡ Some name → IsValue pool value ms rest
      → IsPair pool (roll-NamedElement (record { name = name; value = value })) parts rest
  pair_read parts ms rest n name value e h k =
      subst (λ (t : List Mark). IsPair pool (roll-NamedElement (record { name = name; value = value })) t rest) (sym e)
      (meanings.pair n name value ms rest h k)

  pub values_more : (es : List Element) (e : Element) (ms next rest : List Mark) → AreValues pool es ms next → IsValue pool e next rest → AreValues pool (es ++ e ∷ []) ms rest
  values_more es e ms next rest (meanings.no_values ms2) v = meanings.one_value e [] ms2 rest rest v (meanings.no_values rest)
  values_more es e ms next rest (meanings.one_value e2 es2 ms2 between next2 w l) v = meanings.one_value e2 (es2 ++ e ∷ []) ms2 between rest w (values_more es2 e between next2 rest l v)

  pub pairs_more : (ps : List NamedElement) (p : NamedElement) (ms next rest : List Mark) → ArePairs pool ps ms next → IsPair pool p next rest → ArePairs pool (ps ++ p ∷ []) ms rest
  pairs_more ps p ms next rest (meanings.no_pairs ms2) v = meanings.one_pair p [] ms2 rest rest v (meanings.no_pairs rest)
  pairs_more ps p ms next rest (meanings.one_pair p2 ps2 ms2 between next2 w l) v = meanings.one_pair p2 (ps2 ++ p ∷ []) ms2 between rest w (pairs_more ps2 p between next2 rest l v)

  pub notes_more : (visible : Bool) (parameter : Option ℕ) (notes : List Note) (a : Annotation) (ms next rest : List Mark) → AreNotes pool visible parameter notes ms next → IsAnnotation pool a next rest
      → AreNotes pool visible parameter (notes ++ record { visible = visible; parameter = parameter; annotation = a } ∷ []) ms rest
  notes_more visible parameter notes a ms next rest (meanings.no_notes ms2) v = meanings.one_note a [] ms2 rest rest v (meanings.no_notes rest)
  notes_more visible parameter notes a ms next rest (meanings.one_note b notes2 ms2 between next2 w l) v =
      meanings.one_note b (notes2 ++ record { visible = visible; parameter = parameter; annotation = a } ∷ []) ms2 between rest w (notes_more visible parameter notes2 a between next2 rest l v)

pub annotations_step : (k : ℕ) (ms after end : List Mark) → 0 < k → ((r : List Mark) → AnnotationFront ms r → after ≡ r) → AnnotationsFront k ms end → AnnotationsFront (k - 1) after end
annotations_step k ms after end pos same (fronts.no_annotations rest) = absurd (omega arith)
annotations_step k ms after end pos same (fronts.one_annotation count ms2 next rest v l) =
    let less : suc count - 1 ≡ count = omega arith in
    subst (λ (j : ℕ). AnnotationsFront j after rest) (sym less) (subst (λ (t : List Mark). AnnotationsFront count t rest) (sym (same next v)) l)

pub annotations_over : (k : ℕ) (ms end : List Mark) → k ≡ 0 → AnnotationsFront k ms end → ms ≡ end
annotations_over k ms end z (fronts.no_annotations rest) = refl
annotations_over k ms end z (fronts.one_annotation count ms2 next rest v l) = absurd (omega arith)

pub annotations_first : (k : ℕ) (ms end : List Mark) → 0 < k → AnnotationsFront k ms end → (next : List Mark) × AnnotationFront ms next
annotations_first k ms end pos (fronts.no_annotations rest) = absurd (omega arith)
annotations_first k ms end pos (fronts.one_annotation count ms2 next rest v l) = (next, v)

-- a list and those behind it
pub lists_step : (size : ℕ) (parts ms after : List Mark) → parts ≡ marks.List size ∷ ms → ((r : List Mark) → AnnotationsFront size ms r → after ≡ r) → (count : ℕ) (end : List Mark) → ListsFront (suc count) parts end
    → ListsFront count after end
lists_step size parts ms after e same count end f = go (subst (λ (t : List Mark). ListsFront (suc count) t end) e f)
  where
    go : ListsFront (suc count) (marks.List size ∷ ms) end → ListsFront count after end
    go (fronts.one_list k count ms2 next rest a l) = subst (λ (t : List Mark). ListsFront count t rest) (sym (same next a)) l
