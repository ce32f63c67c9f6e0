-- Annotations that are read are made of parts that can be written, and nest no deeper than they may.
use Rattle.std.proofs.Common.{◌≡◌, ℕ, zero, suc, ◌+◌, ◌-◌, ◌<◌, ◌≤◌, Bool, true, false, List, [], ◌∷◌, ◌++◌, length, Option, Some, None, refl, sym, ap, subst, ◌∙◌, arith}
use Rattle.std.specs.Prelude.{IsTrue, codes}
use Rattle.std.specs.Option.{IsSomeAnd, option_map}
use Rattle.std.specs.List.{flat_map, AllByRecursion}
use Rattle.std.proofs.lemmas.List.{append_cancel_right}
use Rattle.wv_base.specs.declared.class_file.PoolEntry.{PoolEntry}
use Rattle.wv_base.specs.declared.class_file.PoolEntry.TheVariants as entries
use Rattle.wv_base.specs.declared.constant.Const.{Const}
use Rattle.wv_base.specs.declared.constant.Const.TheVariants as constants
use Rattle.wv_base.specs.declared.constant.MemberReference.{MemberReference}
use Rattle.wv_base.specs.declared.note.Annotation.{Annotation, roll-Annotation}
use Rattle.wv_base.specs.declared.note.NamedElement.{NamedElement, roll-NamedElement}
use Rattle.wv_base.specs.declared.note.Element.{Element}
use Rattle.wv_base.specs.declared.note.Element.TheVariants as elements
use Rattle.wv_base.specs.declared.note.Note.{Note}
use Rattle.wv_base.specs.Names.{is_class_name}
use Rattle.wv_base.specs.Descriptor.{IsFieldDescriptor}
use Rattle.wv_pool.specs.Allowed.{IsShort}
use Rattle.wv_pool.specs.References.{entry_of, text_of, IsPool}
use Rattle.wv_pool.specs.Constants.{both, named_pair, member, handle, constant_in, constant_of}
use Rattle.wv_pool.proofs.Behind.{some_is, map_some, then_some}
use Rattle.wv_code.proofs.AllowedConstants.{constant_allowed}
use Rattle.wv_code.proofs.OffsetFrames.{all_append}
use Rattle.wv_room.specs.declared.element_count.ElementKind.{ElementKind}
use Rattle.wv_room.specs.declared.element_count.ElementKind.TheVariants as kinds
use Rattle.wv_attr.specs.declared.mark.Mark.{Mark}
use Rattle.wv_attr.specs.declared.mark.Mark.TheVariants as marks
use Rattle.wv_attr.specs.declared.piece.Piece.{Piece}
use Rattle.wv_attr.specs.declared.piece.Piece.TheVariants as pieces
use Rattle.wv_attr.specs.declared.group.Group.{Group}
use Rattle.wv_attr.specs.Marks.{mark_bytes, table_bytes, IsMark}
use Rattle.wv_attr.specs.Groups.{kind_of, group, behind, less, IsShallow, Follows, end, over, part}
use Rattle.wv_attr.specs.References.{IsClassDescriptor, IsClassValue, has_tag, IsSound}
use Rattle.wv_attr.specs.Meanings.{class_descriptor, IsValue, AreValues, IsAnnotation, IsPair, ArePairs, AreNotes, IsNoteList, AreListed}
use Rattle.wv_attr.specs.Meanings as meanings
use Rattle.wv_attr.specs.Pieces.{value_pieces, annotation_pieces, pair_pieces, value_depth, annotation_depth, pair_depth, piece_size, pieces_size}
use Rattle.wv_attr.specs.Writing.{fits_tag, IsFormed}
use Rattle.wv_attr.proofs.Filling.{long_mark, table-cons}
use Rattle.wv_attr.proofs.Leading.{same_front, past_over}
use Rattle.wv_attr.proofs.Flattened.{constant_pieces, enum_pieces, class_pieces, nested_pieces, array_pieces, annotation_rolled, pair_rolled, all_most, constant_depth, enum_depth, class_depth, nested_depth, array_depth, annotation_depth_rolled, pair_depth_rolled}
use Rattle.wv_class.specs.declared.raw_class.Place.{Place}
use Rattle.wv_class.specs.declared.raw_class.Place.TheVariants as places
use Rattle.wv_class.proofs.NamedParts.{text_named}

-- ---- the parts that are left to read, of which none is too deep

pub record Left (gs : List Group) (ms : List Mark) : Type 0 where
  pub near : ℕ
  pub enough : length (table_bytes ms) ≤ near
  pub follows : Follows near gs ms

over_left : (g : Group) (gs : List Group) (ms : List Mark) → g.count ≡ 0 → Left (g ∷ gs) ms → Left gs ms
over_left g gs ms z l = record { near = l.near; enough = l.enough; follows = past_over z l.follows }

record Next (g : Group) (gs : List Group) (m : Mark) (ms : List Mark) : Type 0 where
  valid : IsMark m
  kind : kind_of m ≡ g.kind
  shallow : IsShallow g.kind g.depth
  left : Left (behind g.depth m ∷ less g ∷ gs) ms

next_of : {near : ℕ} {g : Group} {gs : List Group} {m : Mark} {ms : List Mark} → 0 < g.count → length (table_bytes (m ∷ ms)) ≤ near → Follows near (g ∷ gs) (m ∷ ms) → Next g gs m ms
next_of some le (over z f) = absurd (omega (arith, z, some))
next_of some le (part {near} {g} {gs} {m} {ms} c valid kind shallow f) =
    let long = long_mark m in
    let all = table-cons m ms in
    record { valid = valid; kind = kind; shallow = shallow (omega (arith, long, all, le)); left = record { near = near - length (mark_bytes m); enough = omega (arith, all, le); follows = f } }

next_left : (g : Group) (gs : List Group) (m : Mark) (ms : List Mark) → 0 < g.count → Left (g ∷ gs) (m ∷ ms) → Next g gs m ms
next_left g gs m ms some l = next_of some l.enough l.follows

one_less : (kind : ElementKind) (d k : ℕ) → less (group kind d (suc k)) ≡ group kind d k
one_less kind d k = ap (group kind d) (omega arith)

after_one : (kind : ElementKind) (d k : ℕ) (gs : List Group) (ms : List Mark) → Left (less (group kind d (suc k)) ∷ gs) ms → Left (group kind d k ∷ gs) ms
after_one kind d k gs ms l = subst (λ (g : Group). Left (g ∷ gs) ms) (one_less kind d k) l

inside_one : (g : Group) (kind : ElementKind) (d k : ℕ) (gs : List Group) (ms : List Mark) → Left (g ∷ less (group kind d (suc k)) ∷ gs) ms → Left (g ∷ group kind d k ∷ gs) ms
inside_one g kind d k gs ms l = subst (λ (h : Group). Left (g ∷ h ∷ gs) ms) (one_less kind d k) l

no_more : {near : ℕ} {others : List Mark} → Follows near [] others → [] ≡ others
no_more end = refl

some_parts : (m : Mark) (ms : List Mark) → [] ≡ m ∷ ms → ⊥
some_parts m ms e = cc

none_left : (m : Mark) (ms : List Mark) → Left [] (m ∷ ms) → ⊥
none_left m ms l = some_parts m ms (no_more l.follows)

-- ---- sizes

pub together : (ps qs : List Piece) → pieces_size (ps ++ qs) ≡ pieces_size ps + pieces_size qs
together [] qs = omega arith
together (p ∷ ps) qs = let e = together ps qs in omega (arith, e)

-- ---- the constants under tags

mapped_tag : {A : Type 0} (f : A → Const) (o : Option A) (c : Const) (tag : ℕ) → ((a : A) → fits_tag (f a) tag ≡ false) → option_map f o ≡ Some c → fits_tag c tag ≡ false
mapped_tag f o c tag h e = let m = map_some f o c e in ap (λ (d : Const). fits_tag d tag) (sym m.2) ∙ h m.0

handle_tag : (pool : List PoolEntry) (kind : ℕ) (o : Option PoolEntry) (c : Const) (tag : ℕ) → handle pool kind o ≡ Some c → fits_tag c tag ≡ false
handle_tag pool kind (Some (entries.Field m n)) c tag e = mapped_tag (λ (x : MemberReference). constants.MethodHandle kind x false) (member pool m n) c tag (λ _. refl) e
handle_tag pool kind (Some (entries.Method m n)) c tag e = mapped_tag (λ (x : MemberReference). constants.MethodHandle kind x false) (member pool m n) c tag (λ _. refl) e
handle_tag pool kind (Some (entries.InterfaceMethod m n)) c tag e = mapped_tag (λ (x : MemberReference). constants.MethodHandle kind x true) (member pool m n) c tag (λ _. refl) e
handle_tag pool kind _ c tag e = absurd cc

same_tag : (pool : List PoolEntry) (e : PoolEntry) (c : Const) (tag : ℕ) → constant_in pool e ≡ Some c → fits_tag c tag ≡ has_tag e tag
same_tag pool (entries.Utf8 x) c tag h = ap (λ (d : Const). fits_tag d tag) (sym (some_is (constants.Utf8 x) c h))
same_tag pool (entries.Integer v) c tag h = ap (λ (d : Const). fits_tag d tag) (sym (some_is (constants.Integer v) c h))
same_tag pool (entries.Float v) c tag h = ap (λ (d : Const). fits_tag d tag) (sym (some_is (constants.Float v) c h))
same_tag pool (entries.Long v) c tag h = ap (λ (d : Const). fits_tag d tag) (sym (some_is (constants.Long v) c h))
same_tag pool (entries.Double v) c tag h = ap (λ (d : Const). fits_tag d tag) (sym (some_is (constants.Double v) c h))
same_tag pool (entries.Class n) c tag h = mapped_tag (λ (x : List ℕ). constants.Class x) (text_of pool n) c tag (λ _. refl) h
same_tag pool (entries.String n) c tag h = mapped_tag (λ (x : List ℕ). constants.String x) (text_of pool n) c tag (λ _. refl) h
same_tag pool (entries.Field m n) c tag h = mapped_tag (λ (x : MemberReference). constants.Field x) (member pool m n) c tag (λ _. refl) h
same_tag pool (entries.Method m n) c tag h = mapped_tag (λ (x : MemberReference). constants.Method x false) (member pool m n) c tag (λ _. refl) h
same_tag pool (entries.InterfaceMethod m n) c tag h = mapped_tag (λ (x : MemberReference). constants.Method x true) (member pool m n) c tag (λ _. refl) h
same_tag pool (entries.NameAndType m n) c tag h = mapped_tag (λ (p : List ℕ × List ℕ). constants.NameAndType p.0 p.1) (both (text_of pool m) (text_of pool n)) c tag (λ _. refl) h
same_tag pool (entries.MethodHandle m n) c tag h = handle_tag pool m (entry_of pool n) c tag h
same_tag pool (entries.MethodType n) c tag h = mapped_tag (λ (x : List ℕ). constants.MethodType x) (text_of pool n) c tag (λ _. refl) h
same_tag pool (entries.InvokeDynamic m n) c tag h = mapped_tag (λ (p : List ℕ × List ℕ). constants.InvokeDynamic m p.0 p.1) (named_pair pool n) c tag (λ _. refl) h
same_tag pool entries.Unusable c tag h = absurd cc

descriptor_one : (a b : List ℕ) → class_descriptor a ≡ class_descriptor b → a ≡ b
descriptor_one a b e = append_cancel_right a b (codes ";") (same_front (codes "L") (a ++ codes ";") (b ++ codes ";") e)

module _ (pool : List PoolEntry) (whole : IsPool pool) where
  pub text_short : (n : ℕ) (x : List ℕ) → text_of pool n ≡ Some x → IsShort x
  text_short n x e = let t = text_named pool n x e in constant_allowed pool whole t.0 (constants.Utf8 x) t.1

  pub text_meets : (n : ℕ) (P : List ℕ → Type 0) (x : List ℕ) → IsSomeAnd (text_of pool n) P → text_of pool n ≡ Some x → P x
  text_meets n P x h e = subst (λ (o : Option (List ℕ)). IsSomeAnd o P) e h

  tag_fits : (n tag : ℕ) (c : Const) → constant_of pool n ≡ Some c → IsSomeAnd (entry_of pool n) (λ e. IsTrue (has_tag e tag)) → IsTrue (fits_tag c tag)
  tag_fits n tag c e h =
      let t = then_some (constant_in pool) (entry_of pool n) c e in
      same_tag pool t.0 c tag t.2 ∙ subst (λ (o : Option PoolEntry). IsSomeAnd o (λ e. IsTrue (has_tag e tag))) t.1 h

  class_is : (n : ℕ) (name : List ℕ) → IsSomeAnd (text_of pool n) IsClassDescriptor → text_of pool n ≡ Some (class_descriptor name) → IsTrue (is_class_name name)
  class_is n name h e =
      let d = text_meets n IsClassDescriptor (class_descriptor name) h e in
      subst (λ (x : List ℕ). IsTrue (is_class_name x)) (sym (descriptor_one name d.0 d.2)) d.1

  -- ---- what is read of the parts in front

  record ValueIs (e : Element) (d : ℕ) (ms rest : List Mark) (gs : List Group) : Type 0 where
    formed : AllByRecursion IsFormed (value_pieces e)
    size : length (table_bytes ms) ≡ pieces_size (value_pieces e) + length (table_bytes rest)
    depth : d + value_depth e ≤ 256
    sound : AllByRecursion (IsSound pool) rest
    left : Left gs rest

  record ValuesAre (es : List Element) (d : ℕ) (ms rest : List Mark) (gs : List Group) : Type 0 where
    formed : AllByRecursion IsFormed (flat_map value_pieces es)
    size : length (table_bytes ms) ≡ pieces_size (flat_map value_pieces es) + length (table_bytes rest)
    depth : AllByRecursion (λ (e : Element). d + value_depth e ≤ 256) es
    sound : AllByRecursion (IsSound pool) rest
    left : Left gs rest

  record AnnotationIs (a : Annotation) (d : ℕ) (ms rest : List Mark) (gs : List Group) : Type 0 where
    formed : AllByRecursion IsFormed (annotation_pieces a)
    size : length (table_bytes ms) ≡ pieces_size (annotation_pieces a) + length (table_bytes rest)
    depth : d + annotation_depth a ≤ 256
    sound : AllByRecursion (IsSound pool) rest
    left : Left gs rest

  record PairIs (p : NamedElement) (d : ℕ) (ms rest : List Mark) (gs : List Group) : Type 0 where
    formed : AllByRecursion IsFormed (pair_pieces p)
    size : length (table_bytes ms) ≡ pieces_size (pair_pieces p) + length (table_bytes rest)
    depth : d + pair_depth p ≤ 256
    sound : AllByRecursion (IsSound pool) rest
    left : Left gs rest

  record PairsAre (ps : List NamedElement) (d : ℕ) (ms rest : List Mark) (gs : List Group) : Type 0 where
    formed : AllByRecursion IsFormed (flat_map pair_pieces ps)
    size : length (table_bytes ms) ≡ pieces_size (flat_map pair_pieces ps) + length (table_bytes rest)
    depth : AllByRecursion (λ (p : NamedElement). d + pair_depth p ≤ 256) ps
    sound : AllByRecursion (IsSound pool) rest
    left : Left gs rest

  -- a value without others in it
  leaf : (e : Element) (p : Piece) (m : Mark) (rest : List Mark) (d k : ℕ) (gs : List Group) → value_pieces e ≡ p ∷ [] → value_depth e ≡ 1 → length (mark_bytes m) ≡ piece_size p → behind d m ≡ group kinds.Value d 0 → (IsMark m → IsFormed p)
      → AllByRecursion (IsSound pool) rest → Left (group kinds.Value d (suc k) ∷ gs) (m ∷ rest) → ValueIs e d (m ∷ rest) rest (group kinds.Value d k ∷ gs)
  leaf e p m rest d k gs parts deep long none formed sound l =
      let n = next_left (group kinds.Value d (suc k)) gs m rest (omega arith) l in
      let shallow : d ≤ 255 = n.shallow refl in
      let all = table-cons m rest in
      let size : pieces_size (value_pieces e) ≡ piece_size p + 0 = ap pieces_size parts in
      record {
        formed = subst (AllByRecursion IsFormed) (sym parts) (formed n.valid, tt);
        size = omega (arith, all, long, size);
        depth = omega (arith, shallow, deep);
        sound = sound;
        left = after_one kinds.Value d k gs rest (over_left (behind d m) (less (group kinds.Value d (suc k)) ∷ gs) rest (ap (λ (g : Group). g.count) none) n.left);
      }

  within_values : (es : List Element) (d : ℕ) → d ≤ 255 → AllByRecursion (λ (e : Element). d + 1 + value_depth e ≤ 256) es → AllByRecursion (λ (e : Element). value_depth e ≤ 255 - d) es
  within_values [] d le h = tt
  within_values (e ∷ es) d le h = let one = h.0 in (omega (arith, le, one), within_values es d le h.1)

  within_pairs : (ps : List NamedElement) (d : ℕ) → d ≤ 256 → AllByRecursion (λ (p : NamedElement). d + pair_depth p ≤ 256) ps → AllByRecursion (λ (p : NamedElement). pair_depth p ≤ 256 - d) ps
  within_pairs [] d le h = tt
  within_pairs (p ∷ ps) d le h = let one = h.0 in (omega (arith, le, one), within_pairs ps d le h.1)

  mutual
    value_is : {e : Element} {ms rest : List Mark} → IsValue pool e ms rest → (d k : ℕ) (gs : List Group) → AllByRecursion (IsSound pool) ms → Left (group kinds.Value d (suc k) ∷ gs) ms → ValueIs e d ms rest (group kinds.Value d k ∷ gs)
    value_is (meanings.constant tag n value rest h) d k gs s l =
        leaf (elements.Constant tag value) (pieces.Constant tag value) (marks.Constant tag n) rest d k gs (constant_pieces tag value) (constant_depth tag value) refl refl (λ valid. (tag_fits n tag value h s.0.0, constant_allowed pool whole n value h)) s.1 l
    value_is (meanings.enumerator x n descriptor name rest h i) d k gs s l =
        leaf (elements.Enum descriptor name) (pieces.Enum descriptor name) (marks.Enum x n) rest d k gs (enum_pieces descriptor name) (enum_depth descriptor name) refl refl
        (λ valid. (text_short x descriptor h, text_meets x IsFieldDescriptor descriptor s.0.0 h, text_short n name i)) s.1 l
    value_is (meanings.class x descriptor rest h) d k gs s l =
        leaf (elements.Class descriptor) (pieces.Class descriptor) (marks.Class x) rest d k gs (class_pieces descriptor) (class_depth descriptor) refl refl (λ valid. (text_short x descriptor h, text_meets x IsClassValue descriptor s.0.0 h)) s.1 l
    value_is (meanings.nested a ms rest h) d k gs s l =
        let n = next_left (group kinds.Value d (suc k)) gs marks.Nested ms (omega arith) l in
        let shallow : d ≤ 255 = n.shallow refl in
        let i = annotation_is h (d + 1) 0 (group kinds.Value d k ∷ gs) (omega (arith, shallow)) s.1 (inside_one (group kinds.Annotation (d + 1) 1) kinds.Value d k gs ms n.left) in
        let deep = i.depth in
        let long = i.size in
        let all = table-cons marks.Nested ms in
        let size : pieces_size (value_pieces (elements.Annotation a)) ≡ 1 + pieces_size (annotation_pieces a) = ap pieces_size (nested_pieces a) in
        record {
          formed = subst (AllByRecursion IsFormed) (sym (nested_pieces a)) (tt, i.formed);
          size = omega (arith, all, long, size);
          depth = omega (arith, deep, nested_depth a);
          sound = i.sound;
          left = over_left (group kinds.Annotation (d + 1) 0) (group kinds.Value d k ∷ gs) rest refl i.left;
        }
    value_is (meanings.array es ms rest h) d k gs s l =
        let n = next_left (group kinds.Value d (suc k)) gs (marks.Array (length es)) ms (omega arith) l in
        let shallow : d ≤ 255 = n.shallow refl in
        let i = values_are h (d + 1) (group kinds.Value d k ∷ gs) s.1 (inside_one (group kinds.Value (d + 1) (length es)) kinds.Value d k gs ms n.left) in
        let deep = all_most value_depth es (255 - d) (within_values es d shallow i.depth) in
        let long = i.size in
        let all = table-cons (marks.Array (length es)) ms in
        let size : pieces_size (value_pieces (elements.Array es)) ≡ 3 + pieces_size (flat_map value_pieces es) = ap pieces_size (array_pieces es) in
        record {
          formed = subst (AllByRecursion IsFormed) (sym (array_pieces es)) (n.valid, i.formed);
          size = omega (arith, all, long, size);
          depth = omega (arith, deep, shallow, array_depth es);
          sound = i.sound;
          left = i.left;
        }

    values_are : {es : List Element} {ms rest : List Mark} → AreValues pool es ms rest → (d : ℕ) (gs : List Group) → AllByRecursion (IsSound pool) ms → Left (group kinds.Value d (length es) ∷ gs) ms → ValuesAre es d ms rest gs
    values_are (meanings.no_values rest) d gs s l = record { formed = tt; size = omega arith; depth = tt; sound = s; left = over_left (group kinds.Value d 0) gs rest refl l }
    values_are (meanings.one_value e es ms next rest v others) d gs s l =
        let i = value_is v d (length es) gs s l in
        let j = values_are others d gs i.sound i.left in
        let first = i.size in
        let last = j.size in
        let both = together (value_pieces e) (flat_map value_pieces es) in
        record {
          formed = all_append IsFormed (value_pieces e) (flat_map value_pieces es) i.formed j.formed;
          size = omega (arith, first, last, both);
          depth = (i.depth, j.depth);
          sound = j.sound;
          left = j.left;
        }

    annotation_is : {a : Annotation} {ms rest : List Mark} → IsAnnotation pool a ms rest → (d k : ℕ) (gs : List Group) → d ≤ 256 → AllByRecursion (IsSound pool) ms → Left (group kinds.Annotation d (suc k) ∷ gs) ms
        → AnnotationIs a d ms rest (group kinds.Annotation d k ∷ gs)
    annotation_is (meanings.annotation type name ps ms rest h others) d k gs le s l =
        let n = next_left (group kinds.Annotation d (suc k)) gs (marks.Annotation type (length ps)) ms (omega arith) l in
        let i = pairs_are others d (group kinds.Annotation d k ∷ gs) le s.1 (inside_one (group kinds.Pair d (length ps)) kinds.Annotation d k gs ms n.left) in
        let deep = all_most pair_depth ps (256 - d) (within_pairs ps d le i.depth) in
        let long = i.size in
        let all = table-cons (marks.Annotation type (length ps)) ms in
        let parts = annotation_rolled name ps in
        let a : Annotation = roll-Annotation (record { class = name; elements = ps }) in
        let size : pieces_size (annotation_pieces a) ≡ 4 + pieces_size (flat_map pair_pieces ps) = ap pieces_size parts in
        record {
          formed = subst (AllByRecursion IsFormed) (sym parts) ((class_is type name s.0.0 h, text_short type (class_descriptor name) h, n.valid.1), i.formed);
          size = omega (arith, all, long, size);
          depth = omega (arith, deep, le, annotation_depth_rolled name ps);
          sound = i.sound;
          left = i.left;
        }

    pair_is : {p : NamedElement} {ms rest : List Mark} → IsPair pool p ms rest → (d k : ℕ) (gs : List Group) → AllByRecursion (IsSound pool) ms → Left (group kinds.Pair d (suc k) ∷ gs) ms → PairIs p d ms rest (group kinds.Pair d k ∷ gs)
    pair_is (meanings.pair x name value ms rest h v) d k gs s l =
        let n = next_left (group kinds.Pair d (suc k)) gs (marks.Name x) ms (omega arith) l in
        let i = value_is v d 0 (group kinds.Pair d k ∷ gs) s.1 (inside_one (group kinds.Value d 1) kinds.Pair d k gs ms n.left) in
        let deep = i.depth in
        let long = i.size in
        let all = table-cons (marks.Name x) ms in
        let parts = pair_rolled name value in
        let p : NamedElement = roll-NamedElement (record { name = name; value = value }) in
        let size : pieces_size (pair_pieces p) ≡ 2 + pieces_size (value_pieces value) = ap pieces_size parts in
        record {
          formed = subst (AllByRecursion IsFormed) (sym parts) (text_short x name h, i.formed);
          size = omega (arith, all, long, size);
          depth = omega (arith, deep, pair_depth_rolled name value);
          sound = i.sound;
          left = over_left (group kinds.Value d 0) (group kinds.Pair d k ∷ gs) rest refl i.left;
        }

    pairs_are : {ps : List NamedElement} {ms rest : List Mark} → ArePairs pool ps ms rest → (d : ℕ) (gs : List Group) → d ≤ 256 → AllByRecursion (IsSound pool) ms → Left (group kinds.Pair d (length ps) ∷ gs) ms → PairsAre ps d ms rest gs
    pairs_are (meanings.no_pairs rest) d gs le s l = record { formed = tt; size = omega arith; depth = tt; sound = s; left = over_left (group kinds.Pair d 0) gs rest refl l }
    pairs_are (meanings.one_pair p ps ms next rest v others) d gs le s l =
        let i = pair_is v d (length ps) gs s l in
        let j = pairs_are others d gs le i.sound i.left in
        let first = i.size in
        let last = j.size in
        let both = together (pair_pieces p) (flat_map pair_pieces ps) in
        record {
          formed = all_append IsFormed (pair_pieces p) (flat_map pair_pieces ps) i.formed j.formed;
          size = omega (arith, first, last, both);
          depth = (i.depth, j.depth);
          sound = j.sound;
          left = j.left;
        }

-- ---- annotations in lists

-- a parameter is one of a method's, and of the first 255
abbrev pub FitsPlace : Place → Option ℕ → Type 0
FitsPlace place None = Unit {0}
FitsPlace places.Method (Some parameter) = parameter < 255
FitsPlace place (Some parameter) = ⊥

-- an annotation that can be written
pub record IsGood (place : Place) (n : Note) : Type 0 where
  pub shallow : annotation_depth n.annotation ≤ 255
  pub formed : AllByRecursion IsFormed (annotation_pieces n.annotation)
  pub fits : FitsPlace place n.parameter
  pub some : 1 ≤ pieces_size (annotation_pieces n.annotation)

-- how many bytes annotations take
abbrev pub notes_size : List Note → ℕ
notes_size [] = 0
notes_size (n ∷ notes) = pieces_size (annotation_pieces n.annotation) + notes_size notes

pub notes_together : (xs ys : List Note) → notes_size (xs ++ ys) ≡ notes_size xs + notes_size ys
notes_together [] ys = omega arith
notes_together (x ∷ xs) ys = let e = notes_together xs ys in omega (arith, e)

module _ (pool : List PoolEntry) (whole : IsPool pool) (place : Place) where
  record NotesAre (notes : List Note) (ms rest : List Mark) (gs : List Group) : Type 0 where
    good : AllByRecursion (IsGood place) notes
    size : length (table_bytes ms) ≡ notes_size notes + length (table_bytes rest)
    sound : AllByRecursion (IsSound pool) rest
    left : Left gs rest

  some_bytes : {a : Annotation} {ms rest : List Mark} → IsAnnotation pool a ms rest → 1 ≤ pieces_size (annotation_pieces a)
  some_bytes (meanings.annotation type name ps ms rest h others) =
      let size : pieces_size (annotation_pieces (roll-Annotation (record { class = name; elements = ps }))) ≡ 4 + pieces_size (flat_map pair_pieces ps) = ap pieces_size (annotation_rolled name ps) in
      omega (arith, size)

  notes_are : (visible : Bool) (parameter : Option ℕ) {notes : List Note} {ms rest : List Mark} → FitsPlace place parameter → AreNotes pool visible parameter notes ms rest → (gs : List Group) → AllByRecursion (IsSound pool) ms
      → Left (group kinds.Annotation 1 (length notes) ∷ gs) ms → NotesAre notes ms rest gs
  notes_are visible parameter fits (meanings.no_notes rest) gs s l = record { good = tt; size = omega arith; sound = s; left = over_left (group kinds.Annotation 1 0) gs rest refl l }
  notes_are visible parameter fits (meanings.one_note a notes ms next rest h others) gs s l =
      let i = annotation_is pool whole h 1 (length notes) gs (omega arith) s l in
      let j = notes_are visible parameter fits others gs i.sound i.left in
      let deep = i.depth in
      let first = i.size in
      let last = j.size in
      record {
        good = (record { shallow = omega (arith, deep); formed = i.formed; fits = fits; some = some_bytes h }, j.good);
        size = omega (arith, first, last);
        sound = j.sound;
        left = j.left;
      }

  pub list_good : (visible : Bool) (notes : List Note) (parts : List Mark) → IsNoteList pool visible notes parts → AllByRecursion (IsSound pool) parts → Left (group kinds.Parameter 1 1 ∷ []) parts
      → AllByRecursion (IsGood place) notes × (notes_size notes ≤ length (table_bytes parts))
  list_good visible notes parts is s l =
      let first : Mark = marks.List (length notes) in
      let n = next_left (group kinds.Parameter 1 1) [] first is.list (omega arith) (subst (Left (group kinds.Parameter 1 1 ∷ [])) is.starts l) in
      let i = notes_are visible None tt is.are (less (group kinds.Parameter 1 1) ∷ []) (subst (AllByRecursion (IsSound pool)) is.starts s).1 n.left in
      let long = i.size in
      let all = ap (λ (t : List Mark). length (table_bytes t)) is.starts ∙ table-cons first is.list in
      (i.good, omega (arith, long, all))

pub lists_good : (pool : List PoolEntry) (whole : IsPool pool) (visible : Bool) (place count : ℕ) {notes : List Note} {parts : List Mark} → place + count ≤ 255 → AreListed pool visible place notes parts → AllByRecursion (IsSound pool) parts
    → Left (group kinds.Parameter 1 count ∷ []) parts → AllByRecursion (IsGood places.Method) notes × (notes_size notes ≤ length (table_bytes parts))
lists_good pool whole visible place count le (meanings.no_lists p) s l = (tt, omega arith)
lists_good pool whole visible place zero le (meanings.one_list p notes others ms next are listed) s l = absurd (none_left (marks.List (length notes)) ms (over_left (group kinds.Parameter 1 0) [] (marks.List (length notes) ∷ ms) refl l))
lists_good pool whole visible place (suc count) le (meanings.one_list p notes others ms next are listed) s l =
    let n = next_left (group kinds.Parameter 1 (suc count)) [] (marks.List (length notes)) ms (omega arith) l in
    let i = notes_are pool whole places.Method visible (Some place) (omega (arith, le)) are (group kinds.Parameter 1 count ∷ []) s.1 (inside_one (group kinds.Annotation 1 (length notes)) kinds.Parameter 1 count [] ms n.left) in
    let j = lists_good pool whole visible (place + 1) count (omega (arith, le)) listed i.sound i.left in
    let first = i.size in
    let last = j.1 in
    let all = table-cons (marks.List (length notes)) ms in
    let both = notes_together notes others in
    (all_append (IsGood places.Method) notes others i.good j.0, omega (arith, first, last, all, both))
