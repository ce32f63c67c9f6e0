-- Parts that follow groups are their items, one behind the other.
use Rattle.std.proofs.Common.{◌≡◌, ℕ, suc, ◌-◌, ◌≤◌, List, [], ◌∷◌, length, refl, sym, subst, arith}
use Rattle.wv_room.specs.declared.element_count.ElementKind.{ElementKind}
use Rattle.wv_room.specs.declared.element_count.ElementKind.TheVariants as kinds
use Rattle.wv_attr.specs.declared.mark.Mark.{Mark}
use Rattle.wv_attr.specs.declared.mark.Mark.TheVariants as marks
use Rattle.wv_attr.specs.declared.group.Group.{Group}
use Rattle.wv_attr.specs.Groups.{kind_of, behind, Follows, end, over, part}
use Rattle.wv_attr.specs.Layout.{lists}
use Rattle.wv_attr.specs.Fronts.{ValueFront, ValuesFront, AnnotationFront, PairsFront, AnnotationsFront, ListsFront, constant, enumerator, class, nested, array, no_values, one_value, annotation, pair, no_pairs, one_pair, no_annotations, one_annotation, no_lists, one_list}

-- so many items of a kind
abbrev pub ItemsFront : ElementKind → ℕ → List Mark → List Mark → Type 0
ItemsFront kinds.Value count ms rest = ValuesFront count ms rest
ItemsFront kinds.Pair count ms rest = PairsFront count ms rest
ItemsFront kinds.Annotation count ms rest = AnnotationsFront count ms rest
ItemsFront kinds.Parameter count ms rest = ListsFront count ms rest

pub data GroupsFront : List Group → List Mark → Type 0 where
  done : GroupsFront [] []
  group : (g : Group) (gs : List Group) (ms next : List Mark) → ItemsFront g.kind g.count ms next → GroupsFront gs next → GroupsFront (g ∷ gs) ms

none_front : (kind : ElementKind) (ms : List Mark) → ItemsFront kind 0 ms ms
none_front kinds.Value ms = no_values ms
none_front kinds.Pair ms = no_pairs ms
none_front kinds.Annotation ms = no_annotations ms
none_front kinds.Parameter ms = no_lists ms

no_value_left : {ms next : List Mark} → ValuesFront 0 ms next → ms ≡ next
no_value_left (no_values rest) = refl

value_alone : {ms next : List Mark} → ValuesFront 1 ms next → ValueFront ms next
value_alone (one_value count ms next rest v more) = subst (λ (t : List Mark). ValueFront ms t) (no_value_left more) v

no_annotation_left : {ms next : List Mark} → AnnotationsFront 0 ms next → ms ≡ next
no_annotation_left (no_annotations rest) = refl

annotation_alone : {ms next : List Mark} → AnnotationsFront 1 ms next → AnnotationFront ms next
annotation_alone (one_annotation count ms next rest v more) = subst (λ (t : List Mark). AnnotationFront ms t) (no_annotation_left more) v

-- a part and the items behind it are one item
joined : (m : Mark) (d k : ℕ) (ms next rest : List Mark) → ItemsFront (behind d m).kind (behind d m).count ms next → ItemsFront (kind_of m) k next rest → ItemsFront (kind_of m) (suc k) (m ∷ ms) rest
joined (marks.List size) d k ms next rest b l = one_list size k ms next rest b l
joined (marks.Annotation type count) d k ms next rest b l = one_annotation k (marks.Annotation type count ∷ ms) next rest (annotation type count ms next b) l
joined (marks.Name name) d k ms next rest b l = one_pair k (marks.Name name ∷ ms) next rest (pair name ms next (value_alone b)) l
joined (marks.Constant tag value) d k ms next rest b l = one_value k (marks.Constant tag value ∷ ms) ms rest (constant tag value ms) (subst (λ (t : List Mark). ValuesFront k t rest) (sym (no_value_left b)) l)
joined (marks.Enum descriptor name) d k ms next rest b l = one_value k (marks.Enum descriptor name ∷ ms) ms rest (enumerator descriptor name ms) (subst (λ (t : List Mark). ValuesFront k t rest) (sym (no_value_left b)) l)
joined (marks.Class descriptor) d k ms next rest b l = one_value k (marks.Class descriptor ∷ ms) ms rest (class descriptor ms) (subst (λ (t : List Mark). ValuesFront k t rest) (sym (no_value_left b)) l)
joined marks.Nested d k ms next rest b l = one_value k (marks.Nested ∷ ms) next rest (nested ms next (annotation_alone b)) l
joined (marks.Array count) d k ms next rest b l = one_value k (marks.Array count ∷ ms) next rest (array count ms next b) l

pub record Split (g : Group) (gs : List Group) (ms : List Mark) : Type 0 where
  pub next : List Mark
  pub items : ItemsFront g.kind g.count ms next
  pub others : GroupsFront gs next

pub split : {g : Group} {gs : List Group} {ms : List Mark} → GroupsFront (g ∷ gs) ms → Split g gs ms
split (group g gs ms next items others) = record { next = next; items = items; others = others }

pub fronts : {near : ℕ} {gs : List Group} {ms : List Mark} → Follows near gs ms → GroupsFront gs ms
fronts end = done
fronts (over {near} {g} {gs} {ms} z f) = group g gs ms ms (subst (λ (k : ℕ). ItemsFront g.kind k ms ms) (sym z) (none_front g.kind ms)) (fronts f)
fronts (part {near} {g} {gs} {m} {ms} c valid kind shallow f) =
    let b = split (fronts f) in
    let l = split b.others in
    let count : suc (g.count - 1) ≡ g.count = omega arith in
    let same : ItemsFront (kind_of m) (g.count - 1) b.next l.next = subst (λ (k : ElementKind). ItemsFront k (g.count - 1) b.next l.next) (sym kind) l.items in
    let one : ItemsFront (kind_of m) (suc (g.count - 1)) (m ∷ ms) l.next = joined m g.depth (g.count - 1) ms b.next l.next b.items same in
    let all : ItemsFront g.kind (suc (g.count - 1)) (m ∷ ms) l.next = subst (λ (k : ElementKind). ItemsFront k (suc (g.count - 1)) (m ∷ ms) l.next) kind one in
    group g gs (m ∷ ms) l.next (subst (λ (k : ℕ). ItemsFront g.kind k (m ∷ ms) l.next) count all) l.others

no_group_left : {ms : List Mark} → GroupsFront [] ms → ms ≡ []
no_group_left done = refl

pub no_list_left : {ms next : List Mark} → ListsFront 0 ms next → ms ≡ next
no_list_left (no_lists rest) = refl

-- lists are all there is
pub lists_front : {near count : ℕ} {ms : List Mark} → Follows near (lists count) ms → ListsFront count ms []
lists_front {near} {count} {ms} f = let s = split (fronts f) in subst (λ (t : List Mark). ListsFront count ms t) (no_group_left s.others) s.items

pub record Left (count : ℕ) (ms : List Mark) : Type 0 where
  pub others : ℕ
  pub one_more : suc others ≡ count
  pub lists : ListsFront (suc others) ms []

-- where parts are left, a list is
pub lists_left : {count : ℕ} (ms : List Mark) → 1 ≤ length ms → ListsFront count ms [] → Left count ms
lists_left ms le (no_lists rest) = absurd (omega arith)
lists_left ms le (one_list size count ms2 next rest a l) = record { others = count; one_more = refl; lists = one_list size count ms2 next rest a l }
