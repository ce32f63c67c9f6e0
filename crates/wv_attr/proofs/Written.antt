-- Parts whose numbers name what annotations have are a table of these.
use Rattle.std.proofs.Common.{◌≡◌, ℕ, zero, suc, ◌+◌, ◌-◌, ◌<◌, ◌≤◌, Bool, true, false, cond, List, [], ◌∷◌, ◌++◌, length, map, Option, Some, None, refl, sym, ap, subst, ◌∙◌, append_assoc, arith}
use Rattle.std.specs.List.{flat_map, filter, AllByRecursion}
use Rattle.std.proofs.lemmas.List.{append-nil, map-append}
use Rattle.wv_room.specs.declared.element_count.ElementKind.{ElementKind}
use Rattle.wv_room.specs.declared.element_count.ElementKind.TheVariants as kinds
use Rattle.wv_base.specs.declared.class_file.PoolEntry.{PoolEntry}
use Rattle.wv_base.specs.declared.constant.Const.{Const}
use Rattle.wv_base.specs.declared.note.Annotation.{Annotation, roll-Annotation}
use Rattle.wv_base.specs.declared.note.NamedElement.{NamedElement, roll-NamedElement}
use Rattle.wv_base.specs.declared.note.Element.{Element, roll-Element}
use Rattle.wv_base.specs.declared.note.Element.TheVariants as elements
use Rattle.wv_base.specs.declared.note.Element.TheOpen.{Element-F, Annotation-F, NamedElement-F}
use Rattle.wv_base.specs.declared.note.Element.TheOpen as layer
use Rattle.wv_base.specs.declared.note.Element.TheFolds.{ind-Annotation, map-Element, map-Annotation, map-NamedElement}
use Rattle.wv_base.specs.declared.note.Note.{Note}
use Rattle.wv_attr.specs.declared.mark.Mark.{Mark}
use Rattle.wv_attr.specs.declared.mark.Mark.TheVariants as marks
use Rattle.wv_attr.specs.declared.group.Group.{Group}
use Rattle.wv_attr.specs.declared.piece.Piece.{Piece}
use Rattle.wv_attr.specs.declared.piece.Piece.TheVariants as pieces
use Rattle.wv_attr.specs.Marks.{mark_bytes, table_bytes, IsMark}
use Rattle.wv_attr.specs.Groups.{kind_of, group, behind, IsShallow, Follows, end, over, part}
use Rattle.wv_attr.specs.Meanings.{class_descriptor, IsValue, AreValues, IsAnnotation, IsPair, ArePairs, AreNotes, AreListed, AreRead, AreParametersRead}
use Rattle.wv_attr.specs.Meanings as meanings
use Rattle.wv_attr.specs.Layout.{lists}
use Rattle.wv_attr.specs.Writing.{AreShallow, AreWritable, as_members, as_parameters, AreOrdered, is_place, by_place, lists_pieces, AreWritableOf}
use Rattle.wv_attr.proofs.Numbered.{all_sound, all_size}
use Rattle.wv_attr.proofs.Ordered.{AreOf, of_place, split_run, run_is, filter_skip}
use Rattle.wv_attr.specs.Pieces.{value_pieces, annotation_pieces, pair_pieces, list_pieces, value_depth, annotation_depth, pair_depth, Names, AllName}
use Rattle.wv_attr.proofs.Flattened.{constant_pieces, enum_pieces, class_pieces, nested_pieces, array_pieces, annotation_rolled, pair_rolled, most_all, nested_depth, array_depth, annotation_depth_rolled, pair_depth_rolled, value_deep}

-- ---- a part of a group

-- what follows, whatever limit its places have
abbrev Goes : List Group → List Mark → Type 0
Goes gs ms = (near : ℕ) → Follows near gs ms

one_part : (m : Mark) (kind : ElementKind) (d k : ℕ) (gs : List Group) (ms : List Mark) → IsMark m → kind_of m ≡ kind → IsShallow kind d → Goes (behind d m ∷ group kind d k ∷ gs) ms → Goes (group kind d (suc k) ∷ gs) (m ∷ ms)
one_part m kind d k gs ms valid is shallow rest near =
    let left : k ≡ suc k - 1 = omega arith in
    part (omega arith) valid is (λ _. shallow) (subst (λ (j : ℕ). Follows (near - length (mark_bytes m)) (behind d m ∷ group kind d j ∷ gs) ms) left (rest (near - length (mark_bytes m))))

none_left : (kind : ElementKind) (d : ℕ) (gs : List Group) (ms : List Mark) → Goes gs ms → Goes (group kind d 0 ∷ gs) ms
none_left kind d gs ms rest near = over refl (rest near)

counted : (kind : ElementKind) (d n k : ℕ) (gs : List Group) (ms : List Mark) → n ≡ k → Goes (group kind d k ∷ gs) ms → Goes (group kind d n ∷ gs) ms
counted kind d n k gs ms e rest near = subst (λ (j : ℕ). Follows near (group kind d j ∷ gs) ms) (sym e) (rest near)

module _ (pool : List PoolEntry) where
  -- ---- parts and their constants, one by one

  abbrev pub AllFit : List Piece → List Mark → Type 0
  AllFit [] [] = Unit {0}
  AllFit (p ∷ ps) (m ∷ ms) = Names pool p m × IsMark m × AllFit ps ms
  AllFit _ _ = ⊥

  pub all_fit : (ps : List Piece) (ms : List Mark) → AllName pool ps ms → AllByRecursion IsMark ms → AllFit ps ms
  all_fit [] [] h k = tt
  all_fit (p ∷ ps) (m ∷ ms) h k = (h.0, k.0, all_fit ps ms h.1 k.1)
  all_fit [] (m ∷ ms) h k = absurd h
  all_fit (p ∷ ps) [] h k = absurd h

  pub record Apart (xs ys : List Piece) (ms : List Mark) : Type 0 where
    pub first : List Mark
    pub last : List Mark
    pub splits : first ++ last ≡ ms
    pub left : AllFit xs first
    pub right : AllFit ys last

  pub apart : (xs ys : List Piece) (ms : List Mark) → AllFit (xs ++ ys) ms → Apart xs ys ms
  apart [] ys ms h = record { first = []; last = ms; splits = refl; left = tt; right = h }
  apart (x ∷ xs) ys [] h = absurd h
  apart (x ∷ xs) ys (m ∷ ms) h =
      let a = apart xs ys ms h.2 in
      record { first = m ∷ a.first; last = a.last; splits = ap (λ (t : List Mark). m ∷ t) a.splits; left = (h.0, h.1, a.left); right = a.right }

  joined : {xs ys : List Piece} {ms : List Mark} (a : Apart xs ys ms) (rest : List Mark) → a.first ++ (a.last ++ rest) ≡ ms ++ rest
  joined a rest = sym (append_assoc a.first a.last rest) ∙ ap (λ (t : List Mark). t ++ rest) a.splits

  -- ---- what they are

  -- these parts are the value, and may stand in a group of values that isn't too deep
  record OfValue (e : Element) (ms rest : List Mark) : Type 0 where
    pub is : IsValue pool e (ms ++ rest) rest
    pub goes : (d k : ℕ) (gs : List Group) → d + value_depth e ≤ 256 → Goes (group kinds.Value d k ∷ gs) rest → Goes (group kinds.Value d (suc k) ∷ gs) (ms ++ rest)

  record OfAnnotation (a : Annotation) (ms rest : List Mark) : Type 0 where
    pub is : IsAnnotation pool a (ms ++ rest) rest
    pub goes : (d k : ℕ) (gs : List Group) → d + annotation_depth a ≤ 256 → Goes (group kinds.Annotation d k ∷ gs) rest → Goes (group kinds.Annotation d (suc k) ∷ gs) (ms ++ rest)

  record OfPair (p : NamedElement) (ms rest : List Mark) : Type 0 where
    pub is : IsPair pool p (ms ++ rest) rest
    pub goes : (d k : ℕ) (gs : List Group) → d + pair_depth p ≤ 256 → Goes (group kinds.Pair d k ∷ gs) rest → Goes (group kinds.Pair d (suc k) ∷ gs) (ms ++ rest)

  abbrev ValueMeans : Element → Type 0
  ValueMeans e = (ms rest : List Mark) → AllFit (value_pieces e) ms → OfValue e ms rest

  abbrev AnnotationMeans : Annotation → Type 0
  AnnotationMeans a = (ms rest : List Mark) → AllFit (annotation_pieces a) ms → OfAnnotation a ms rest

  abbrev PairMeans : NamedElement → Type 0
  PairMeans p = (ms rest : List Mark) → AllFit (pair_pieces p) ms → OfPair p ms rest

  -- a value without others in it
  leaf : (e : Element) (m : Mark) (rest : List Mark) → kind_of m ≡ kinds.Value → ((d : ℕ) → behind d m ≡ group kinds.Value d 0) → IsMark m → IsValue pool e (m ∷ rest) rest → OfValue e (m ∷ []) rest
  leaf e m rest kind none valid is = record {
    is = is;
    goes = λ d k gs deep more.
        let some = value_deep e in
        one_part m kinds.Value d k gs rest valid kind (λ _. omega arith) (λ near. subst (λ (g : Group). Follows near (g ∷ group kinds.Value d k ∷ gs) rest) (sym (none d)) (over refl (more near)));
  }

  constant_means : (tag : ℕ) (value : Const) (ms rest : List Mark) → AllFit (pieces.Constant tag value ∷ []) ms → OfValue (elements.Constant tag value) ms rest
  constant_means tag value (marks.Constant t n ∷ []) rest h =
      leaf (elements.Constant tag value) (marks.Constant t n) rest refl (λ d. refl) h.1
      (subst (λ (k : ℕ). IsValue pool (elements.Constant tag value) (marks.Constant k n ∷ rest) rest) (sym h.0.0) (meanings.constant tag n value rest h.0.1))
  constant_means tag value [] rest h = absurd h
  constant_means tag value (m ∷ n ∷ ms) rest h = absurd h.2
  constant_means tag value (m ∷ []) rest h = absurd h.0

  enum_means : (descriptor name : List ℕ) (ms rest : List Mark) → AllFit (pieces.Enum descriptor name ∷ []) ms → OfValue (elements.Enum descriptor name) ms rest
  enum_means descriptor name (marks.Enum d n ∷ []) rest h =
      leaf (elements.Enum descriptor name) (marks.Enum d n) rest refl (λ k. refl) h.1 (meanings.enumerator d n descriptor name rest h.0.0 h.0.1)
  enum_means descriptor name [] rest h = absurd h
  enum_means descriptor name (m ∷ n ∷ ms) rest h = absurd h.2
  enum_means descriptor name (m ∷ []) rest h = absurd h.0

  class_means : (descriptor : List ℕ) (ms rest : List Mark) → AllFit (pieces.Class descriptor ∷ []) ms → OfValue (elements.Class descriptor) ms rest
  class_means descriptor (marks.Class d ∷ []) rest h = leaf (elements.Class descriptor) (marks.Class d) rest refl (λ k. refl) h.1 (meanings.class d descriptor rest h.0)
  class_means descriptor [] rest h = absurd h
  class_means descriptor (m ∷ n ∷ ms) rest h = absurd h.2
  class_means descriptor (m ∷ []) rest h = absurd h.0

  nested_means : (a : Annotation) → AnnotationMeans a → (ms rest : List Mark) → AllFit (pieces.Nested ∷ annotation_pieces a) ms → OfValue (elements.Annotation a) ms rest
  nested_means a inside (marks.Nested ∷ ms) rest h =
      let i = inside ms rest h.2 in
      record {
        is = meanings.nested a (ms ++ rest) rest i.is;
        goes = λ d k gs deep more.
            let depth = nested_depth a in
            one_part marks.Nested kinds.Value d k gs (ms ++ rest) tt refl (λ _. omega arith)
            (i.goes (d + 1) 0 (group kinds.Value d k ∷ gs) (omega arith) (none_left kinds.Annotation (d + 1) (group kinds.Value d k ∷ gs) rest more));
      }
  nested_means a inside [] rest h = absurd h
  nested_means a inside (m ∷ ms) rest h = absurd h.0

  -- values, one behind the other
  record OfValues (es : List Element) (ms rest : List Mark) : Type 0 where
    pub is : AreValues pool es (ms ++ rest) rest
    pub goes : (d : ℕ) (gs : List Group) → AllByRecursion (λ (e : Element). d + value_depth e ≤ 256) es → Goes gs rest → Goes (group kinds.Value d (length es) ∷ gs) (ms ++ rest)

  values_mean : (es : List Element) → AllByRecursion ValueMeans es → (ms rest : List Mark) → AllFit (flat_map value_pieces es) ms → OfValues es ms rest
  values_mean [] all [] rest h = record { is = meanings.no_values rest; goes = λ d gs deep more. none_left kinds.Value d gs rest more }
  values_mean [] all (m ∷ ms) rest h = absurd h
  values_mean (e ∷ es) all ms rest h =
      let a = apart (value_pieces e) (flat_map value_pieces es) ms h in
      let first = all.0 a.first (a.last ++ rest) a.left in
      let last = values_mean es all.1 a.last rest a.right in
      record {
        is = subst (λ (t : List Mark). AreValues pool (e ∷ es) t rest) (joined a rest) (meanings.one_value e es (a.first ++ (a.last ++ rest)) (a.last ++ rest) rest first.is last.is);
        goes = λ d gs deep more near.
            subst (λ (t : List Mark). Follows near (group kinds.Value d (suc (length es)) ∷ gs) t) (joined a rest) (first.goes d (length es) gs deep.0 (last.goes d gs deep.1 more) near);
      }

  shallower : (es : List Element) (d : ℕ) → AllByRecursion (λ (e : Element). value_depth e ≤ 255 - d) es → d ≤ 255 → AllByRecursion (λ (e : Element). d + 1 + value_depth e ≤ 256) es
  shallower [] d h le = tt
  shallower (e ∷ es) d h le = let first = h.0 in (omega arith, shallower es d h.1 le)

  array_means : (es : List Element) → AllByRecursion ValueMeans es → (ms rest : List Mark) → AllFit (pieces.Array (length es) ∷ flat_map value_pieces es) ms → OfValue (elements.Array es) ms rest
  array_means es inside (marks.Array n ∷ ms) rest h =
      let i = values_mean es inside ms rest h.2 in
      record {
        is = subst (λ (k : ℕ). IsValue pool (elements.Array es) (marks.Array k ∷ (ms ++ rest)) rest) (sym h.0) (meanings.array es (ms ++ rest) rest i.is);
        goes = λ d k gs deep more.
            let depth = array_depth es in
            let all = most_all value_depth es (255 - d) (omega arith) in
            one_part (marks.Array n) kinds.Value d k gs (ms ++ rest) h.1 refl (λ _. omega arith)
            (counted kinds.Value (d + 1) n (length es) (group kinds.Value d k ∷ gs) (ms ++ rest) h.0 (i.goes (d + 1) (group kinds.Value d k ∷ gs) (shallower es d all (omega arith)) more));
      }
  array_means es inside [] rest h = absurd h
  array_means es inside (m ∷ ms) rest h = absurd h.0

  pair_means : (name : List ℕ) (value : Element) → ValueMeans value → (ms rest : List Mark) → AllFit (pieces.Name name ∷ value_pieces value) ms → OfPair (roll-NamedElement (record { name = name; value = value })) ms rest
  pair_means name value inside (marks.Name n ∷ ms) rest h =
      let i = inside ms rest h.2 in
      record {
        is = meanings.pair n name value (ms ++ rest) rest h.0 i.is;
        goes = λ d k gs deep more.
            let depth = pair_depth_rolled name value in
            one_part (marks.Name n) kinds.Pair d k gs (ms ++ rest) h.1 refl (λ e. absurd cc)
            (i.goes d 0 (group kinds.Pair d k ∷ gs) (omega arith) (none_left kinds.Value d (group kinds.Pair d k ∷ gs) rest more));
      }
  pair_means name value inside [] rest h = absurd h
  pair_means name value inside (m ∷ ms) rest h = absurd h.0

  record OfPairs (ps : List NamedElement) (ms rest : List Mark) : Type 0 where
    pub is : ArePairs pool ps (ms ++ rest) rest
    pub goes : (d : ℕ) (gs : List Group) → AllByRecursion (λ (p : NamedElement). d + pair_depth p ≤ 256) ps → Goes gs rest → Goes (group kinds.Pair d (length ps) ∷ gs) (ms ++ rest)

  pairs_mean : (ps : List NamedElement) → AllByRecursion PairMeans ps → (ms rest : List Mark) → AllFit (flat_map pair_pieces ps) ms → OfPairs ps ms rest
  pairs_mean [] all [] rest h = record { is = meanings.no_pairs rest; goes = λ d gs deep more. none_left kinds.Pair d gs rest more }
  pairs_mean [] all (m ∷ ms) rest h = absurd h
  pairs_mean (p ∷ ps) all ms rest h =
      let a = apart (pair_pieces p) (flat_map pair_pieces ps) ms h in
      let first = all.0 a.first (a.last ++ rest) a.left in
      let last = pairs_mean ps all.1 a.last rest a.right in
      record {
        is = subst (λ (t : List Mark). ArePairs pool (p ∷ ps) t rest) (joined a rest) (meanings.one_pair p ps (a.first ++ (a.last ++ rest)) (a.last ++ rest) rest first.is last.is);
        goes = λ d gs deep more near.
            subst (λ (t : List Mark). Follows near (group kinds.Pair d (suc (length ps)) ∷ gs) t) (joined a rest) (first.goes d (length ps) gs deep.0 (last.goes d gs deep.1 more) near);
      }

  pairs_shallower : (ps : List NamedElement) (d : ℕ) → AllByRecursion (λ (p : NamedElement). pair_depth p ≤ 256 - d) ps → d ≤ 256 → AllByRecursion (λ (p : NamedElement). d + pair_depth p ≤ 256) ps
  pairs_shallower [] d h le = tt
  pairs_shallower (p ∷ ps) d h le = let first = h.0 in (omega arith, pairs_shallower ps d h.1 le)

  annotation_means : (class : List ℕ) (ps : List NamedElement) → AllByRecursion PairMeans ps → (ms rest : List Mark) → AllFit (pieces.Annotation class (length ps) ∷ flat_map pair_pieces ps) ms
      → OfAnnotation (roll-Annotation (record { class = class; elements = ps })) ms rest
  annotation_means class ps inside (marks.Annotation type n ∷ ms) rest h =
      let i = pairs_mean ps inside ms rest h.2 in
      record {
        is = subst (λ (k : ℕ). IsAnnotation pool (roll-Annotation (record { class = class; elements = ps })) (marks.Annotation type k ∷ (ms ++ rest)) rest) (sym h.0.1) (meanings.annotation type class ps (ms ++ rest) rest h.0.0 i.is);
        goes = λ d k gs deep more.
            let depth = annotation_depth_rolled class ps in
            let all = most_all pair_depth ps (256 - d) (omega arith) in
            one_part (marks.Annotation type n) kinds.Annotation d k gs (ms ++ rest) h.1 refl (λ e. absurd cc)
            (counted kinds.Pair d n (length ps) (group kinds.Annotation d k ∷ gs) (ms ++ rest) h.0.1 (i.goes d (group kinds.Annotation d k ∷ gs) (pairs_shallower ps d all (omega arith)) more));
      }
  annotation_means class ps inside [] rest h = absurd h
  annotation_means class ps inside (m ∷ ms) rest h = absurd h.0

  -- ---- by induction

  abbrev Values : Type 0
  Values = (e : Element) × ValueMeans e

  abbrev Annotations : Type 0
  Annotations = (a : Annotation) × AnnotationMeans a

  abbrev Pairs : Type 0
  Pairs = (p : NamedElement) × PairMeans p

  all_values : (es : List Values) → AllByRecursion ValueMeans (map (λ (e : Values). e.0) es)
  all_values [] = tt
  all_values (e ∷ es) = (e.1, all_values es)

  all_pairs : (ps : List Pairs) → AllByRecursion PairMeans (map (λ (p : Pairs). p.0) ps)
  all_pairs [] = tt
  all_pairs (p ∷ ps) = (p.1, all_pairs ps)

  value_step : (y : Element-F Values Annotations Pairs) → ValueMeans (roll-Element (map-Element Values Annotations Pairs Element Annotation NamedElement (λ e. e.0) (λ a. a.0) (λ p. p.0) y))
  value_step (layer.Constant tag value) =
      subst ValueMeans (sym (elements.rolls-Constant tag value)) (λ ms rest h. constant_means tag value ms rest (subst (λ (ps : List Piece). AllFit ps ms) (constant_pieces tag value) h))
  value_step (layer.Enum descriptor name) =
      subst ValueMeans (sym (elements.rolls-Enum descriptor name)) (λ ms rest h. enum_means descriptor name ms rest (subst (λ (ps : List Piece). AllFit ps ms) (enum_pieces descriptor name) h))
  value_step (layer.Class descriptor) =
      subst ValueMeans (sym (elements.rolls-Class descriptor)) (λ ms rest h. class_means descriptor ms rest (subst (λ (ps : List Piece). AllFit ps ms) (class_pieces descriptor) h))
  value_step (layer.Annotation a) =
      subst ValueMeans (sym (elements.rolls-Annotation a.0)) (λ ms rest h. nested_means a.0 a.1 ms rest (subst (λ (ps : List Piece). AllFit ps ms) (nested_pieces a.0) h))
  value_step (layer.Array es) =
      let all = map (λ (e : Values). e.0) es in
      subst ValueMeans (sym (elements.rolls-Array all)) (λ ms rest h. array_means all (all_values es) ms rest (subst (λ (ps : List Piece). AllFit ps ms) (array_pieces all) h))

  annotation_step : (y : Annotation-F Values Annotations Pairs) → AnnotationMeans (roll-Annotation (map-Annotation Values Annotations Pairs Element Annotation NamedElement (λ e. e.0) (λ a. a.0) (λ p. p.0) y))
  annotation_step y = λ ms rest h.
      let all = map (λ (p : Pairs). p.0) y.elements in
      annotation_means y.class all (all_pairs y.elements) ms rest (subst (λ (ps : List Piece). AllFit ps ms) (annotation_rolled y.class all) h)

  pair_step : (y : NamedElement-F Values Annotations Pairs) → PairMeans (roll-NamedElement (map-NamedElement Values Annotations Pairs Element Annotation NamedElement (λ e. e.0) (λ a. a.0) (λ p. p.0) y))
  pair_step y = λ ms rest h. pair_means y.name y.value.0 y.value.1 ms rest (subst (λ (ps : List Piece). AllFit ps ms) (pair_rolled y.name y.value.0) h)

  annotation_meant : (a : Annotation) → AnnotationMeans a
  annotation_meant = ind-Annotation ValueMeans AnnotationMeans PairMeans
      (λ x y is. subst (λ z. ValueMeans (roll-Element z)) is (value_step y))
      (λ x y is. subst (λ z. AnnotationMeans (roll-Annotation z)) is (annotation_step y))
      (λ x y is. subst (λ z. PairMeans (roll-NamedElement z)) is (pair_step y))

  -- ---- lists

  abbrev pub noted : Bool → Option ℕ → List Note → List Note
  noted visible parameter notes = map (λ (n : Note). record { visible = visible; parameter = parameter; annotation = n.annotation }) notes

  pub record OfNotes (visible : Bool) (parameter : Option ℕ) (notes : List Note) (ms rest : List Mark) : Type 0 where
    pub is : AreNotes pool visible parameter (noted visible parameter notes) (ms ++ rest) rest
    pub goes : (gs : List Group) → Goes gs rest → Goes (group kinds.Annotation 1 (length notes) ∷ gs) (ms ++ rest)

  pub notes_meant : (visible : Bool) (parameter : Option ℕ) (notes : List Note) → AllByRecursion (λ (n : Note). annotation_depth n.annotation ≤ 255) notes → (ms rest : List Mark)
      → AllFit (flat_map (λ (n : Note). annotation_pieces n.annotation) notes) ms → OfNotes visible parameter notes ms rest
  notes_meant visible parameter [] deep [] rest h = record { is = meanings.no_notes rest; goes = λ gs more. none_left kinds.Annotation 1 gs rest more }
  notes_meant visible parameter [] deep (m ∷ ms) rest h = absurd h
  notes_meant visible parameter (n ∷ notes) deep ms rest h =
      let a = apart (annotation_pieces n.annotation) (flat_map (λ (n : Note). annotation_pieces n.annotation) notes) ms h in
      let first = annotation_meant n.annotation a.first (a.last ++ rest) a.left in
      let last = notes_meant visible parameter notes deep.1 a.last rest a.right in
      let shallow = deep.0 in
      record {
        is = subst (λ (t : List Mark). AreNotes pool visible parameter (noted visible parameter (n ∷ notes)) t rest) (joined a rest)
            (meanings.one_note n.annotation (noted visible parameter notes) (a.first ++ (a.last ++ rest)) (a.last ++ rest) rest first.is last.is);
        goes = λ gs more near.
            subst (λ (t : List Mark). Follows near (group kinds.Annotation 1 (suc (length notes)) ∷ gs) t) (joined a rest) (first.goes 1 (length notes) gs (omega arith) (last.goes gs more) near);
      }

  -- a list and what follows it
  pub record OfList (visible : Bool) (parameter : Option ℕ) (notes : List Note) (ms rest : List Mark) : Type 0 where
    pub count : ℕ
    pub list : List Mark
    pub starts : ms ≡ marks.List count ∷ list
    pub counts : count ≡ length notes
    pub is : AreNotes pool visible parameter (noted visible parameter notes) (list ++ rest) rest
    pub goes : (k : ℕ) (gs : List Group) → Goes (group kinds.Parameter 1 k ∷ gs) rest → Goes (group kinds.Parameter 1 (suc k) ∷ gs) (ms ++ rest)

  pub list_meant : (visible : Bool) (parameter : Option ℕ) (notes : List Note) → AllByRecursion (λ (n : Note). annotation_depth n.annotation ≤ 255) notes → (ms rest : List Mark) → AllFit (list_pieces notes) ms
      → OfList visible parameter notes ms rest
  list_meant visible parameter notes deep (marks.List n ∷ ms) rest h =
      let i = notes_meant visible parameter notes deep ms rest h.2 in
      record {
        count = n;
        list = ms;
        starts = refl;
        counts = h.0;
        is = i.is;
        goes = λ k gs more.
            one_part (marks.List n) kinds.Parameter 1 k gs (ms ++ rest) h.1 refl (λ e. absurd cc)
            (counted kinds.Annotation 1 n (length notes) (group kinds.Parameter 1 k ∷ gs) (ms ++ rest) h.0 (i.goes (group kinds.Parameter 1 k ∷ gs) more));
      }
  list_meant visible parameter notes deep [] rest h = absurd h
  list_meant visible parameter notes deep (m ∷ ms) rest h = absurd h.0

length-map : {X A : Type 0} (f : X → A) (xs : List X) → length (map f xs) ≡ length xs
length-map f [] = refl
length-map f (x ∷ xs) = omega (arith, length-map f xs)

-- what was written is read again
pub members_read : (pool : List PoolEntry) (visible : Bool) (notes : List Note) (parts : List Mark) (bytes : List ℕ) → AreWritable notes → AllName pool (list_pieces notes) parts → AllByRecursion IsMark parts → bytes ≡ table_bytes parts
    → AreRead pool visible bytes (as_members visible notes)
members_read pool visible notes parts bytes able names valid e =
    let l = list_meant pool visible None notes able.0 parts [] (all_fit pool (list_pieces notes) parts names valid) in
    let size = all_size pool (list_pieces notes) parts names in
    let long = ap length e in
    record {
      parts = parts;
      table = record {
        small = omega (arith, size, long, able.2);
        follows = subst (λ (t : List Mark). Follows (length bytes) (lists 1) t) (append-nil parts) (l.goes 0 [] (none_left kinds.Parameter 1 [] [] (λ near. end)) (length bytes));
        spelled = e;
      };
      sound = all_sound pool (list_pieces notes) parts able.1 names;
      notes_are = record {
        list = l.list;
        starts = l.starts ∙ ap (λ (k : ℕ). marks.List k ∷ l.list) (l.counts ∙ sym (length-map _ notes));
        are = subst (λ (t : List Mark). AreNotes pool visible None (as_members visible notes) t []) (append-nil l.list) l.is;
      };
    }

-- ---- tables of parameters

abbrev at_place : Bool → ℕ → Note → Note
at_place visible place n = record { visible = visible; parameter = Some place; annotation = n.annotation }

-- the annotations of the parameters from this one on, so many
listed : Bool → ℕ → ℕ → List Note → List Note
listed visible place zero notes = []
listed visible place (suc count) notes =
    map (at_place visible place) (of_place place notes) ++ listed visible (place + 1) count notes

record OfLists (pool : List PoolEntry) (visible : Bool) (place count : ℕ) (notes : List Note) (ms : List Mark) : Type 0 where
  pub is : AreListed pool visible place (listed visible place count notes) ms
  pub goes : Goes (group kinds.Parameter 1 count ∷ []) ms

shallow_one : (n : Note) (notes : List Note) (b : Bool) → AreShallow (n ∷ []) → AreShallow notes → AreShallow (cond b (n ∷ notes) notes)
shallow_one n notes true h k = (h.0, k)
shallow_one n notes false h k = k

shallow_filter : (test : Note → Bool) (notes : List Note) → AreShallow notes → AreShallow (filter test notes)
shallow_filter test [] h = tt
shallow_filter test (n ∷ notes) h = shallow_one n (filter test notes) (test n) (h.0, tt) (shallow_filter test notes h.1)

lists_meant : (pool : List PoolEntry) (visible : Bool) (place count : ℕ) (notes : List Note) (ms : List Mark) → AreShallow notes → AllFit pool (lists_pieces (by_place place count notes)) ms → OfLists pool visible place count notes ms
unfolding listed
lists_meant pool visible place zero notes [] deep h = record { is = meanings.no_lists place; goes = none_left kinds.Parameter 1 [] [] (λ near. end) }
lists_meant pool visible place zero notes (m ∷ ms) deep h = absurd h
lists_meant pool visible place (suc count) notes ms deep h =
    let here = of_place place notes in
    let a = apart pool (list_pieces here) (lists_pieces (by_place (place + 1) count notes)) ms h in
    let first = list_meant pool visible (Some place) here (shallow_filter (λ (n : Note). is_place place n.parameter) notes deep) a.first a.last a.left in
    let last = lists_meant pool visible (place + 1) count notes a.last deep a.right in
    let all = noted pool visible (Some place) here in
    let counts : first.count ≡ length all = first.counts ∙ sym (length-map _ here) in
    let starts : marks.List (length all) ∷ (first.list ++ a.last) ≡ ms = ap (λ (k : ℕ). marks.List k ∷ (first.list ++ a.last)) (sym counts) ∙ ap (λ (t : List Mark). t ++ a.last) (sym first.starts) ∙ a.splits in
    record {
      is = subst (AreListed pool visible place (all ++ listed visible (place + 1) count notes)) starts (meanings.one_list place all (listed visible (place + 1) count notes) (first.list ++ a.last) a.last first.is last.is);
      goes = λ near. subst (λ (t : List Mark). Follows near (group kinds.Parameter 1 (suc count) ∷ []) t) a.splits (first.goes count [] last.goes near);
    }

-- those of an earlier parameter are none of them
listed_skip : (visible : Bool) (place q count : ℕ) (run after : List Note) → place < q → AreOf place run → listed visible q count (run ++ after) ≡ listed visible q count after
unfolding listed
listed_skip visible place q zero run after lt all = refl
listed_skip visible place q (suc count) run after lt all =
    ap (λ (t : List Note). map (at_place visible q) t ++ listed visible (q + 1) count (run ++ after)) (filter_skip place q run after lt all)
    ∙ ap (λ (t : List Note). map (at_place visible q) (of_place q after) ++ t) (listed_skip visible place (q + 1) count run after (omega arith) all)

same_place : (visible : Bool) (place : ℕ) (run : List Note) → AreOf place run → map (at_place visible place) run ≡ as_parameters visible run
same_place visible place [] all = refl
same_place visible place (n ∷ run) all =
    ap (λ (o : Option ℕ). record { visible = visible; parameter = o; annotation = n.annotation } ∷ map (at_place visible place) run) (sym all.0)
    ∙ ap (λ (t : List Note). record { visible = visible; parameter = n.parameter; annotation = n.annotation } ∷ t) (same_place visible place run all.1)

-- in order they are all of them
listed_all : (visible : Bool) (place count : ℕ) (notes : List Note) → AreOrdered place (place + count) notes → listed visible place count notes ≡ as_parameters visible notes
unfolding listed
listed_all visible place zero [] h = refl
listed_all visible place zero (n ∷ notes) h = let low = h.2 in let high = h.3 in absurd (omega arith)
listed_all visible place (suc count) notes h =
    let r = split_run place (place + suc count) notes h in
    let last = listed_all visible (place + 1) count r.after (subst (λ (k : ℕ). AreOrdered (place + 1) k r.after) (omega arith) r.behind) in
    let here : map (at_place visible place) (of_place place notes) ≡ as_parameters visible r.run = ap (map (at_place visible place)) (run_is place (place + suc count) r.run r.after notes r.splits r.here r.behind) ∙ same_place visible place r.run r.here in
    let behind : listed visible (place + 1) count notes ≡ as_parameters visible r.after = ap (listed visible (place + 1) count) (sym r.splits) ∙ listed_skip visible place (place + 1) count r.run r.after (omega arith) r.here ∙ last in
    ap (λ (t : List Note). t ++ listed visible (place + 1) count notes) here ∙ ap (λ (t : List Note). as_parameters visible r.run ++ t) behind ∙ sym (map-append _ r.run r.after) ∙ ap (as_parameters visible) r.splits

-- what was written is read again
pub parameters_read : (pool : List PoolEntry) (visible : Bool) (count : ℕ) (notes : List Note) (parts : List Mark) (bytes rest : List ℕ) → AreWritableOf count notes → AllName pool (lists_pieces (by_place 0 count notes)) parts → AllByRecursion IsMark parts
    → bytes ≡ count ∷ rest → rest ≡ table_bytes parts → AreParametersRead pool visible bytes (as_parameters visible notes)
parameters_read pool visible count notes parts bytes rest able names valid starts e =
    let l = lists_meant pool visible 0 count notes parts able.1 (all_fit pool (lists_pieces (by_place 0 count notes)) parts names valid) in
    let size = all_size pool (lists_pieces (by_place 0 count notes)) parts names in
    let long = ap length e in
    let all = listed_all visible 0 count notes (subst (λ (k : ℕ). AreOrdered 0 k notes) (omega arith) able.0) in
    record {
      parts = parts;
      table = record {
        count = count;
        rest = rest;
        small = omega (arith, size, long, able.3, ap length starts);
        starts = starts;
        table = record { small = omega (arith, size, long, able.3); follows = l.goes (length rest); spelled = e };
      };
      sound = all_sound pool (lists_pieces (by_place 0 count notes)) parts able.2 names;
      notes_are = subst (λ (ns : List Note). AreListed pool visible 0 ns parts) all l.is;
    }
