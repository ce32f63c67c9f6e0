-- Bytes are the parts of one table at most, and parts are one list of annotations at most.
use Rattle.std.proofs.Common.{◌≡◌, ℕ, ◌+◌, ◌-◌, Bool, List, [], ◌∷◌, ◌++◌, length, Option, Some, None, refl, sym, subst, ap, ◌∙◌, inl, inr}
use Rattle.std.specs.List.{AllByRecursion}
use Rattle.std.specs.Prelude.{codes}
use Rattle.std.proofs.lemmas.List.{append_cancel_right}
use Rattle.wv_base.specs.declared.class_file.PoolEntry.{PoolEntry}
use Rattle.wv_base.specs.declared.constant.Const.{Const}
use Rattle.wv_base.specs.declared.note.Annotation.{Annotation, roll-Annotation}
use Rattle.wv_base.specs.declared.note.NamedElement.{NamedElement, roll-NamedElement}
use Rattle.wv_base.specs.declared.note.Element.{Element}
use Rattle.wv_base.specs.declared.note.Element.TheVariants as elements
use Rattle.wv_base.specs.declared.note.Note.{Note}
use Rattle.wv_pool.specs.References.{text_of}
use Rattle.wv_pool.specs.Constants.{constant_of}
use Rattle.wv_attr.specs.declared.mark.Mark.{Mark}
use Rattle.wv_attr.specs.declared.mark.Mark.TheVariants as marks
use Rattle.wv_attr.specs.declared.group.Group.{Group}
use Rattle.wv_attr.specs.Marks.{mark_bytes, table_bytes}
use Rattle.wv_attr.specs.Groups.{behind, less, Follows, end, over, part}
use Rattle.wv_attr.specs.Layout.{lists, IsTable, IsParameterTable}
use Rattle.wv_attr.specs.References.{IsSound, FirstBreaks, BreaksAt}
use Rattle.wv_attr.specs.Meanings.{class_descriptor, IsValue, AreValues, IsAnnotation, IsPair, ArePairs, AreNotes, IsNoteList, AreListed, AreRead, AreParametersRead}
use Rattle.wv_attr.specs.Meanings as meanings
use Rattle.wv_attr.proofs.Leading.{one_mark, same_front, past_over, first_of}

-- ---- parts

no_more : {near : ℕ} {others : List Mark} → Follows near [] others → [] ≡ others
no_more end = refl

follows_one : {near : ℕ} (far : ℕ) {gs : List Group} {ms : List Mark} (others : List Mark) → Follows near gs ms → Follows far gs others → table_bytes ms ≡ table_bytes others → ms ≡ others
follows_one far others end f e = no_more f
follows_one far others (over z g) f e = follows_one far others g (past_over z f) e
follows_one far others (part {near} {g} {gs} {m} {ms} c valid kind shallow rest) f e =
    let i = first_of c f in
    let apart : table_bytes (m ∷ ms) ≡ table_bytes (i.mark ∷ i.others) = e ∙ ap table_bytes i.splits in
    let same : m ≡ i.mark = one_mark m i.mark (table_bytes ms) (table_bytes i.others) valid i.valid (kind ∙ sym i.of_kind) apart in
    let bytes : table_bytes ms ≡ table_bytes i.others = same_front (mark_bytes m) (table_bytes ms) (table_bytes i.others) (apart ∙ ap (λ (k : Mark). mark_bytes k ++ table_bytes i.others) (sym same)) in
    let others_are : ms ≡ i.others = follows_one (far - length (mark_bytes i.mark)) i.others rest (subst (λ (k : Mark). Follows (far - length (mark_bytes i.mark)) (behind g.depth k ∷ less g ∷ gs) i.others) (sym same) i.follows) bytes in
    ap (λ (t : List Mark). m ∷ t) others_are ∙ ap (λ (k : Mark). k ∷ i.others) same ∙ sym i.splits

pub table_one : (gs : List Group) (bytes : List ℕ) (parts others : List Mark) → IsTable gs bytes parts → IsTable gs bytes others → parts ≡ others
table_one gs bytes parts others t u = follows_one (length bytes) others t.follows u.follows (sym t.spelled ∙ u.spelled)

pub parameter_table_one : (bytes : List ℕ) (parts others : List Mark) → IsParameterTable bytes parts → IsParameterTable bytes others → parts ≡ others
parameter_table_one bytes parts others t u =
    let count : u.count ≡ t.count = cc in
    let rest : u.rest ≡ t.rest = cc in
    table_one (lists t.count) t.rest parts others t.table (subst (λ (k : ℕ). IsTable (lists k) t.rest others) count (subst (λ (w : List ℕ). IsTable (lists u.count) w others) rest u.table))

-- ---- sound parts have no break

all_at : (P : Mark → Type 0) (xs : List Mark) (x : Mark) (ys : List Mark) → AllByRecursion P (xs ++ x ∷ ys) → P x
all_at P [] x ys all = all.0
all_at P (y ∷ xs) x ys all = all_at P xs x ys all.1

pub sound_unbroken : (pool : List PoolEntry) (parts : List Mark) (at : ℕ) → AllByRecursion (IsSound pool) parts → FirstBreaks pool parts at → ⊥
sound_unbroken pool parts at all b = go b.breaks
  where
    here : IsSound pool b.part
    here = all_at (IsSound pool) b.before b.part b.after (subst (AllByRecursion (IsSound pool)) b.splits all)

    go : BreaksAt pool b.part b.field → ⊥
    go (inl first) = first.1 here.0
    go (inr second) = second.2 here.1

-- ---- annotations

some_text : (a b : List ℕ) → Some a ≡ Some b → a ≡ b
some_text a b e = cc

some_constant : (a b : Const) → Some a ≡ Some b → a ≡ b
some_constant a b e = cc

descriptor_one : (a b : List ℕ) → class_descriptor a ≡ class_descriptor b → a ≡ b
descriptor_one a b e = append_cancel_right a b (codes ";") (same_front (codes "L") (a ++ codes ";") (b ++ codes ";") e)

module _ (pool : List PoolEntry) where
  -- what a text and a constant are
  text_one : (n : ℕ) (a b : List ℕ) → text_of pool n ≡ Some a → text_of pool n ≡ Some b → a ≡ b
  text_one n a b h k = some_text a b (sym h ∙ k)

  constant_one : (n : ℕ) (a b : Const) → constant_of pool n ≡ Some a → constant_of pool n ≡ Some b → a ≡ b
  constant_one n a b h k = some_constant a b (sym h ∙ k)

  -- what a value is that begins with a part
  record OfConstant (e : Element) (tag n : ℕ) (ms rest : List Mark) : Type 0 where
    pub value : Const
    pub names : constant_of pool n ≡ Some value
    pub is : elements.Constant tag value ≡ e
    pub behind : ms ≡ rest

  constant_is : {tag n : ℕ} {ms rest : List Mark} {e : Element} → IsValue pool e (marks.Constant tag n ∷ ms) rest → OfConstant e tag n ms rest
  constant_is (meanings.constant tag n value rest h) = record { value = value; names = h; is = refl; behind = refl }

  record OfEnum (e : Element) (d n : ℕ) (ms rest : List Mark) : Type 0 where
    pub descriptor : List ℕ
    pub name : List ℕ
    pub first : text_of pool d ≡ Some descriptor
    pub second : text_of pool n ≡ Some name
    pub is : elements.Enum descriptor name ≡ e
    pub behind : ms ≡ rest

  enum_is : {d n : ℕ} {ms rest : List Mark} {e : Element} → IsValue pool e (marks.Enum d n ∷ ms) rest → OfEnum e d n ms rest
  enum_is (meanings.enumerator d n descriptor name rest h k) = record { descriptor = descriptor; name = name; first = h; second = k; is = refl; behind = refl }

  record OfClass (e : Element) (d : ℕ) (ms rest : List Mark) : Type 0 where
    pub descriptor : List ℕ
    pub names : text_of pool d ≡ Some descriptor
    pub is : elements.Class descriptor ≡ e
    pub behind : ms ≡ rest

  class_is : {d : ℕ} {ms rest : List Mark} {e : Element} → IsValue pool e (marks.Class d ∷ ms) rest → OfClass e d ms rest
  class_is (meanings.class d descriptor rest h) = record { descriptor = descriptor; names = h; is = refl; behind = refl }

  record OfNested (e : Element) (ms rest : List Mark) : Type 0 where
    pub annotation : Annotation
    pub inside : IsAnnotation pool annotation ms rest
    pub is : elements.Annotation annotation ≡ e

  nested_is : {ms rest : List Mark} {e : Element} → IsValue pool e (marks.Nested ∷ ms) rest → OfNested e ms rest
  nested_is (meanings.nested a ms rest h) = record { annotation = a; inside = h; is = refl }

  record OfArray (e : Element) (count : ℕ) (ms rest : List Mark) : Type 0 where
    pub values : List Element
    pub counted : length values ≡ count
    pub inside : AreValues pool values ms rest
    pub is : elements.Array values ≡ e

  array_is : {count : ℕ} {ms rest : List Mark} {e : Element} → IsValue pool e (marks.Array count ∷ ms) rest → OfArray e count ms rest
  array_is (meanings.array es ms rest h) = record { values = es; counted = refl; inside = h; is = refl }

  record OfAnnotation (a : Annotation) (type count : ℕ) (ms rest : List Mark) : Type 0 where
    pub name : List ℕ
    pub pairs : List NamedElement
    pub counted : length pairs ≡ count
    pub names : text_of pool type ≡ Some (class_descriptor name)
    pub inside : ArePairs pool pairs ms rest
    pub is : roll-Annotation (record { class = name; elements = pairs }) ≡ a

  annotation_is : {type count : ℕ} {ms rest : List Mark} {a : Annotation} → IsAnnotation pool a (marks.Annotation type count ∷ ms) rest → OfAnnotation a type count ms rest
  annotation_is (meanings.annotation type name ps ms rest h k) = record { name = name; pairs = ps; counted = refl; names = h; inside = k; is = refl }

  record OfPair (p : NamedElement) (n : ℕ) (ms rest : List Mark) : Type 0 where
    pub name : List ℕ
    pub value : Element
    pub names : text_of pool n ≡ Some name
    pub inside : IsValue pool value ms rest
    pub is : roll-NamedElement (record { name = name; value = value }) ≡ p

  pair_is : {n : ℕ} {ms rest : List Mark} {p : NamedElement} → IsPair pool p (marks.Name n ∷ ms) rest → OfPair p n ms rest
  pair_is (meanings.pair n name value ms rest h k) = record { name = name; value = value; names = h; inside = k; is = refl }

  -- parts begin with one value, and so on, and one list of parts is behind it
  mutual
    value_one : {e e2 : Element} {ms rest rest2 : List Mark} → IsValue pool e ms rest → IsValue pool e2 ms rest2 → (e ≡ e2) × (rest ≡ rest2)
    value_one (meanings.constant tag n value rest h) v =
        let i = constant_is v in
        (ap (λ (c : Const). elements.Constant tag c) (constant_one n value i.value h i.names) ∙ i.is, i.behind)
    value_one (meanings.enumerator d n descriptor name rest h k) v =
        let i = enum_is v in
        let first = text_one d descriptor i.descriptor h i.first in
        let second = text_one n name i.name k i.second in
        (ap (λ (t : List ℕ). elements.Enum t name) first ∙ ap (λ (t : List ℕ). elements.Enum i.descriptor t) second ∙ i.is, i.behind)
    value_one (meanings.class d descriptor rest h) v =
        let i = class_is v in
        (ap (λ (t : List ℕ). elements.Class t) (text_one d descriptor i.descriptor h i.names) ∙ i.is, i.behind)
    value_one (meanings.nested a ms rest h) v =
        let i = nested_is v in
        let same = annotation_one h i.inside in
        (ap (λ (b : Annotation). elements.Annotation b) same.0 ∙ i.is, same.1)
    value_one (meanings.array es ms rest h) v =
        let i = array_is v in
        let same = values_one h i.inside (sym i.counted) in
        (ap (λ (t : List Element). elements.Array t) same.0 ∙ i.is, same.1)

    values_one : {es es2 : List Element} {ms rest rest2 : List Mark} → AreValues pool es ms rest → AreValues pool es2 ms rest2 → length es ≡ length es2 → (es ≡ es2) × (rest ≡ rest2)
    values_one (meanings.no_values rest) (meanings.no_values rest2) e = (refl, refl)
    values_one (meanings.no_values rest) (meanings.one_value e2 es2 ms2 next2 rest2 w m) e = absurd cc
    values_one (meanings.one_value e1 es ms next rest v l) (meanings.no_values rest2) e = absurd cc
    values_one (meanings.one_value e1 es ms next rest v l) (meanings.one_value e2 es2 ms2 next2 rest2 w m) e =
        let first = value_one v w in
        let last = values_one l (subst (λ (t : List Mark). AreValues pool es2 t rest2) (sym first.1) m) (cc) in
        (ap (λ (x : Element). x ∷ es) first.0 ∙ ap (λ (t : List Element). e2 ∷ t) last.0, last.1)

    annotation_one : {a b : Annotation} {ms rest rest2 : List Mark} → IsAnnotation pool a ms rest → IsAnnotation pool b ms rest2 → (a ≡ b) × (rest ≡ rest2)
    annotation_one (meanings.annotation type name ps ms rest h k) v =
        let i = annotation_is v in
        let class = descriptor_one name i.name (text_one type (class_descriptor name) (class_descriptor i.name) h i.names) in
        let same = pairs_one k i.inside (sym i.counted) in
        (ap (λ (t : List ℕ). roll-Annotation (record { class = t; elements = ps })) class ∙ ap (λ (t : List NamedElement). roll-Annotation (record { class = i.name; elements = t })) same.0 ∙ i.is, same.1)

    pair_one : {p q : NamedElement} {ms rest rest2 : List Mark} → IsPair pool p ms rest → IsPair pool q ms rest2 → (p ≡ q) × (rest ≡ rest2)
    pair_one (meanings.pair n name value ms rest h k) v =
        let i = pair_is v in
        let text = text_one n name i.name h i.names in
        let same = value_one k i.inside in
        (ap (λ (t : List ℕ). roll-NamedElement (record { name = t; value = value })) text ∙ ap (λ (x : Element). roll-NamedElement (record { name = i.name; value = x })) same.0 ∙ i.is, same.1)

    pairs_one : {ps qs : List NamedElement} {ms rest rest2 : List Mark} → ArePairs pool ps ms rest → ArePairs pool qs ms rest2 → length ps ≡ length qs → (ps ≡ qs) × (rest ≡ rest2)
    pairs_one (meanings.no_pairs rest) (meanings.no_pairs rest2) e = (refl, refl)
    pairs_one (meanings.no_pairs rest) (meanings.one_pair p2 ps2 ms2 next2 rest2 w m) e = absurd cc
    pairs_one (meanings.one_pair p1 ps ms next rest v l) (meanings.no_pairs rest2) e = absurd cc
    pairs_one (meanings.one_pair p1 ps ms next rest v l) (meanings.one_pair p2 ps2 ms2 next2 rest2 w m) e =
        let first = pair_one v w in
        let last = pairs_one l (subst (λ (t : List Mark). ArePairs pool ps2 t rest2) (sym first.1) m) (cc) in
        (ap (λ (x : NamedElement). x ∷ ps) first.0 ∙ ap (λ (t : List NamedElement). p2 ∷ t) last.0, last.1)

  module _ (visible : Bool) where
    abbrev a_note : Option ℕ → Annotation → Note
    a_note parameter a = record { visible = visible; parameter = parameter; annotation = a }

    notes_one : {parameter : Option ℕ} {notes others : List Note} {ms rest rest2 : List Mark} → AreNotes pool visible parameter notes ms rest → AreNotes pool visible parameter others ms rest2 → length notes ≡ length others
        → (notes ≡ others) × (rest ≡ rest2)
    notes_one (meanings.no_notes rest) (meanings.no_notes rest2) e = (refl, refl)
    notes_one (meanings.no_notes rest) (meanings.one_note b others ms2 next2 rest2 w m) e = absurd cc
    notes_one (meanings.one_note a notes ms next rest v l) (meanings.no_notes rest2) e = absurd cc
    notes_one {parameter} (meanings.one_note a notes ms next rest v l) (meanings.one_note b others ms2 next2 rest2 w m) e =
        let first = annotation_one v w in
        let last = notes_one l (subst (λ (t : List Mark). AreNotes pool visible parameter others t rest2) (sym first.1) m) (cc) in
        (ap (λ (x : Annotation). a_note parameter x ∷ notes) first.0 ∙ ap (λ (t : List Note). a_note parameter b ∷ t) last.0, last.1)

    record OfList (place : ℕ) (notes : List Note) (count : ℕ) (ms : List Mark) : Type 0 where
      pub list : List Note
      pub others : List Note
      pub next : List Mark
      pub counted : length list ≡ count
      pub inside : AreNotes pool visible (Some place) list ms next
      pub behind : AreListed pool visible (place + 1) others next
      pub is : list ++ others ≡ notes

    list_is : {place count : ℕ} {ms : List Mark} {notes : List Note} → AreListed pool visible place notes (marks.List count ∷ ms) → OfList place notes count ms
    list_is (meanings.one_list place notes others ms next n l) = record { list = notes; others = others; next = next; counted = refl; inside = n; behind = l; is = refl }

    none_is : {place : ℕ} {notes : List Note} → AreListed pool visible place notes [] → [] ≡ notes
    none_is (meanings.no_lists place) = refl

    pub listed_one : {place : ℕ} {notes others : List Note} {ms : List Mark} → AreListed pool visible place notes ms → AreListed pool visible place others ms → notes ≡ others
    listed_one (meanings.no_lists place) v = none_is v
    listed_one (meanings.one_list place notes others ms next n l) v =
        let i = list_is v in
        let first = notes_one n i.inside (sym i.counted) in
        let last = listed_one l (subst (λ (t : List Mark). AreListed pool visible (place + 1) i.others t) (sym first.1) i.behind) in
        ap (λ (t : List Note). t ++ others) first.0 ∙ ap (λ (t : List Note). i.list ++ t) last ∙ i.is

    pub note_list_one : (parts : List Mark) (notes others : List Note) → IsNoteList pool visible notes parts → IsNoteList pool visible others parts → notes ≡ others
    note_list_one parts notes others n o =
        let opened : marks.List (length notes) ∷ n.list ≡ marks.List (length others) ∷ o.list = sym n.starts ∙ o.starts in
        let count : length notes ≡ length others = cc in
        let list : o.list ≡ n.list = cc in
        (notes_one n.are (subst (λ (t : List Mark). AreNotes pool visible None others t []) list o.are) count).0

    pub read_one : (bytes : List ℕ) (notes others : List Note) → AreRead pool visible bytes notes → AreRead pool visible bytes others → notes ≡ others
    read_one bytes notes others a b =
        let parts = table_one (lists 1) bytes b.parts a.parts b.table a.table in
        note_list_one a.parts notes others a.notes_are (subst (IsNoteList pool visible others) parts b.notes_are)

    pub parameters_read_one : (bytes : List ℕ) (notes others : List Note) → AreParametersRead pool visible bytes notes → AreParametersRead pool visible bytes others → notes ≡ others
    parameters_read_one bytes notes others a b =
        let parts = parameter_table_one bytes b.parts a.parts b.table a.table in
        listed_one a.notes_are (subst (AreListed pool visible 0 others) parts b.notes_are)
