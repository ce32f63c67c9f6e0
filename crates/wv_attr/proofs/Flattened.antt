-- The parts of annotations, and the depths of their values, by what is inside.
use Rattle.std.proofs.Common.{◌≡◌, ℕ, ◌+◌, ◌≤◌, Bool, true, false, List, [], ◌∷◌, ◌++◌, length, map, Result, Ok, Err, OnOk, refl, sym, ap, ◌∙◌, append_assoc, arith, IsTrue, ◌⊎◌, inl, inr}
use Rattle.std.specs.List.{flat_map, AllByRecursion}
use Rattle.std.specs.Prelude.{◌↔◌}
use Rattle.wv_base.specs.declared.constant.Const.{Const}
use Rattle.wv_base.specs.declared.note.Annotation.{Annotation, roll-Annotation, out-Annotation}
use Rattle.wv_base.specs.declared.note.NamedElement.{NamedElement, roll-NamedElement, out-NamedElement}
use Rattle.wv_base.specs.declared.note.Element.{Element}
use Rattle.wv_base.specs.declared.note.Element.TheVariants as elements
use Rattle.wv_base.specs.declared.note.Element.TheOpen.{Element-F}
use Rattle.wv_base.specs.declared.note.Element.TheOpen as layer
use Rattle.wv_base.specs.declared.note.Element.TheFolds.{fold-roll-Element, fold-roll-Annotation, fold-roll-NamedElement, fold_out-Element, fold_out-Annotation, fold_out-NamedElement}
use Rattle.wv_attr.specs.declared.piece.Piece.{Piece}
use Rattle.wv_attr.specs.declared.piece.Piece.TheVariants as pieces
use Rattle.wv_attr.specs.Pieces.{value_around, annotation_around, pair_around, value_pieces, annotation_pieces, pair_pieces, most, value_depth_around, annotation_depth_around, pair_depth_around, value_depth, annotation_depth, pair_depth}

-- ---- parts

flat_mapped : {X : Type 0} (f : X → List Piece) (xs : List X) → flat_map (λ (ps : List Piece). ps) (map f xs) ≡ flat_map f xs
flat_mapped f [] = refl
flat_mapped f (x ∷ xs) = ap (λ (ps : List Piece). f x ++ ps) (flat_mapped f xs)

length-mapped : {X A : Type 0} (f : X → A) (xs : List X) → length (map f xs) ≡ length xs
length-mapped f [] = refl
length-mapped f (x ∷ xs) = omega (arith, length-mapped f xs)

counted : {X : Type 0} (make : ℕ → Piece) (f : X → List Piece) (xs : List X) → make (length (map f xs)) ∷ flat_map (λ (ps : List Piece). ps) (map f xs) ≡ make (length xs) ∷ flat_map f xs
counted make f xs = ap (λ (k : ℕ). make k ∷ flat_map (λ (ps : List Piece). ps) (map f xs)) (length-mapped f xs) ∙ ap (λ (ps : List Piece). make (length xs) ∷ ps) (flat_mapped f xs)

pub constant_pieces : (tag : ℕ) (value : Const) → value_pieces (elements.Constant tag value) ≡ pieces.Constant tag value ∷ []
unfolding value_pieces
constant_pieces tag value = ap value_pieces (sym (elements.rolls-Constant tag value)) ∙ fold-roll-Element (List Piece) (List Piece) (List Piece) value_around annotation_around pair_around (layer.Constant tag value)

pub enum_pieces : (descriptor name : List ℕ) → value_pieces (elements.Enum descriptor name) ≡ pieces.Enum descriptor name ∷ []
unfolding value_pieces
enum_pieces descriptor name = ap value_pieces (sym (elements.rolls-Enum descriptor name)) ∙ fold-roll-Element (List Piece) (List Piece) (List Piece) value_around annotation_around pair_around (layer.Enum descriptor name)

pub class_pieces : (descriptor : List ℕ) → value_pieces (elements.Class descriptor) ≡ pieces.Class descriptor ∷ []
unfolding value_pieces
class_pieces descriptor = ap value_pieces (sym (elements.rolls-Class descriptor)) ∙ fold-roll-Element (List Piece) (List Piece) (List Piece) value_around annotation_around pair_around (layer.Class descriptor)

pub nested_pieces : (a : Annotation) → value_pieces (elements.Annotation a) ≡ pieces.Nested ∷ annotation_pieces a
unfolding value_pieces annotation_pieces
nested_pieces a = ap value_pieces (sym (elements.rolls-Annotation a)) ∙ fold-roll-Element (List Piece) (List Piece) (List Piece) value_around annotation_around pair_around (layer.Annotation a)

pub array_pieces : (es : List Element) → value_pieces (elements.Array es) ≡ pieces.Array (length es) ∷ flat_map value_pieces es
unfolding value_pieces
array_pieces es =
    ap value_pieces (sym (elements.rolls-Array es)) ∙ fold-roll-Element (List Piece) (List Piece) (List Piece) value_around annotation_around pair_around (layer.Array es)
    ∙ counted (λ (k : ℕ). pieces.Array k) value_pieces es

pub annotation_out : (a : Annotation) → annotation_pieces a ≡ pieces.Annotation (out-Annotation a).class (length (out-Annotation a).elements) ∷ flat_map pair_pieces (out-Annotation a).elements
unfolding annotation_pieces pair_pieces
annotation_out a =
    fold_out-Annotation (List Piece) (List Piece) (List Piece) value_around annotation_around pair_around a
    ∙ counted (λ (k : ℕ). pieces.Annotation (out-Annotation a).class k) pair_pieces (out-Annotation a).elements

pub annotation_rolled : (class : List ℕ) (ps : List NamedElement) → annotation_pieces (roll-Annotation (record { class = class; elements = ps })) ≡ pieces.Annotation class (length ps) ∷ flat_map pair_pieces ps
unfolding annotation_pieces pair_pieces
annotation_rolled class ps =
    fold-roll-Annotation (List Piece) (List Piece) (List Piece) value_around annotation_around pair_around (record { class = class; elements = ps })
    ∙ counted (λ (k : ℕ). pieces.Annotation class k) pair_pieces ps

pub pair_out : (p : NamedElement) → pair_pieces p ≡ pieces.Name (out-NamedElement p).name ∷ value_pieces (out-NamedElement p).value
unfolding pair_pieces value_pieces
pair_out p = fold_out-NamedElement (List Piece) (List Piece) (List Piece) value_around annotation_around pair_around p

pub pair_rolled : (name : List ℕ) (value : Element) → pair_pieces (roll-NamedElement (record { name = name; value = value })) ≡ pieces.Name name ∷ value_pieces value
unfolding pair_pieces value_pieces
pair_rolled name value = fold-roll-NamedElement (List Piece) (List Piece) (List Piece) value_around annotation_around pair_around (record { name = name; value = value })

-- one part and others were put at the end
pub put_behind : {A : Type 0} (all middle out rest : List A) (x : A) → all ≡ middle ++ rest → middle ≡ out ++ x ∷ [] → all ≡ out ++ x ∷ rest
put_behind all middle out rest x e f = e ∙ ap (λ t. t ++ rest) f ∙ append_assoc out (x ∷ []) rest

pub on_ok : {T E : Type 0} {P Q : Type 0} (r : Result T E) → (P → Q) → OnOk r P → OnOk r Q
on_ok (Ok x) f h = f h
on_ok (Err e) f h = tt

-- ---- depths

pub most_all : {X : Type 0} (f : X → ℕ) (xs : List X) (n : ℕ) → most (map f xs) ≤ n → AllByRecursion (λ (x : X). f x ≤ n) xs
most_all f [] n h = tt
most_all f (x ∷ xs) n h = (omega arith, most_all f xs n (omega arith))

pub all_most : {X : Type 0} (f : X → ℕ) (xs : List X) (n : ℕ) → AllByRecursion (λ (x : X). f x ≤ n) xs → most (map f xs) ≤ n
all_most f [] n h = omega arith
all_most f (x ∷ xs) n h = let first = h.0 in let rest = all_most f xs n h.1 in omega arith

pub constant_depth : (tag : ℕ) (value : Const) → value_depth (elements.Constant tag value) ≡ 1
unfolding value_depth
constant_depth tag value = ap value_depth (sym (elements.rolls-Constant tag value)) ∙ fold-roll-Element ℕ ℕ ℕ value_depth_around annotation_depth_around pair_depth_around (layer.Constant tag value)

pub enum_depth : (descriptor name : List ℕ) → value_depth (elements.Enum descriptor name) ≡ 1
unfolding value_depth
enum_depth descriptor name = ap value_depth (sym (elements.rolls-Enum descriptor name)) ∙ fold-roll-Element ℕ ℕ ℕ value_depth_around annotation_depth_around pair_depth_around (layer.Enum descriptor name)

pub class_depth : (descriptor : List ℕ) → value_depth (elements.Class descriptor) ≡ 1
unfolding value_depth
class_depth descriptor = ap value_depth (sym (elements.rolls-Class descriptor)) ∙ fold-roll-Element ℕ ℕ ℕ value_depth_around annotation_depth_around pair_depth_around (layer.Class descriptor)

pub nested_depth : (a : Annotation) → value_depth (elements.Annotation a) ≡ 1 + annotation_depth a
unfolding value_depth annotation_depth
nested_depth a = ap value_depth (sym (elements.rolls-Annotation a)) ∙ fold-roll-Element ℕ ℕ ℕ value_depth_around annotation_depth_around pair_depth_around (layer.Annotation a)

pub array_depth : (es : List Element) → value_depth (elements.Array es) ≡ 1 + most (map value_depth es)
unfolding value_depth
array_depth es = ap value_depth (sym (elements.rolls-Array es)) ∙ fold-roll-Element ℕ ℕ ℕ value_depth_around annotation_depth_around pair_depth_around (layer.Array es)

pub annotation_depth_out : (a : Annotation) → annotation_depth a ≡ most (map pair_depth (out-Annotation a).elements)
unfolding annotation_depth pair_depth
annotation_depth_out a = fold_out-Annotation ℕ ℕ ℕ value_depth_around annotation_depth_around pair_depth_around a

pub annotation_depth_rolled : (class : List ℕ) (ps : List NamedElement) → annotation_depth (roll-Annotation (record { class = class; elements = ps })) ≡ most (map pair_depth ps)
unfolding annotation_depth pair_depth
annotation_depth_rolled class ps = fold-roll-Annotation ℕ ℕ ℕ value_depth_around annotation_depth_around pair_depth_around (record { class = class; elements = ps })

pub pair_depth_out : (p : NamedElement) → pair_depth p ≡ value_depth (out-NamedElement p).value
unfolding pair_depth value_depth
pair_depth_out p = fold_out-NamedElement ℕ ℕ ℕ value_depth_around annotation_depth_around pair_depth_around p

pub pair_depth_rolled : (name : List ℕ) (value : Element) → pair_depth (roll-NamedElement (record { name = name; value = value })) ≡ value_depth value
unfolding pair_depth value_depth
pair_depth_rolled name value = fold-roll-NamedElement ℕ ℕ ℕ value_depth_around annotation_depth_around pair_depth_around (record { name = name; value = value })

-- ---- tests of depths

pub leaf_within : (v : Element) (left inside : ℕ) → value_depth v ≡ 1 → inside + 1 ≡ left → IsTrue true ↔ (value_depth v ≤ left)
leaf_within v left inside e f = ((λ h. omega arith), (λ h. refl))

pub array_within : (v : Element) (es : List Element) (left inside : ℕ) (b : Bool) → v ≡ elements.Array es → inside + 1 ≡ left → IsTrue b ↔ AllByRecursion (λ (e : Element). value_depth e ≤ inside) es → IsTrue b ↔ (value_depth v ≤ left)
array_within v es left inside b e f h =
    let deep : value_depth v ≡ 1 + most (map value_depth es) = ap value_depth e ∙ array_depth es in
    ((λ t. let all = all_most value_depth es inside (h.0 t) in omega arith), (λ le. h.1 (most_all value_depth es inside (omega arith))))

depth_some : (x : Element-F ℕ ℕ ℕ) → 1 ≤ value_depth_around x
depth_some (layer.Constant tag value) = omega arith
depth_some (layer.Enum descriptor name) = omega arith
depth_some (layer.Class descriptor) = omega arith
depth_some (layer.Annotation inside) = omega arith
depth_some (layer.Array inside) = omega arith

pub value_deep : (v : Element) → 1 ≤ value_depth v
unfolding value_depth
value_deep v = rw (fold_out-Element ℕ ℕ ℕ value_depth_around annotation_depth_around pair_depth_around v) (depth_some _)

pub leaf_depth : (v : Element) → ((tag : ℕ) × (value : Const) × (v ≡ elements.Constant tag value)) ⊎ (((descriptor : List ℕ) × (name : List ℕ) × (v ≡ elements.Enum descriptor name)) ⊎ ((descriptor : List ℕ) × (v ≡ elements.Class descriptor)))
    → value_depth v ≡ 1
leaf_depth v (inl (tag, value, e)) = ap value_depth e ∙ constant_depth tag value
leaf_depth v (inr (inl (descriptor, name, e))) = ap value_depth e ∙ enum_depth descriptor name
leaf_depth v (inr (inr (descriptor, e))) = ap value_depth e ∙ class_depth descriptor

pub pair_within : (p : NamedElement) (n : ℕ) (b : Bool) → IsTrue b ↔ (value_depth (out-NamedElement p).value ≤ n) → IsTrue b ↔ (pair_depth p ≤ n)
pair_within p n b h = let e = pair_depth_out p in ((λ t. let le = h.0 t in omega arith), (λ le. h.1 (omega arith)))

pub none_within : (v : Element) (left : ℕ) → (1 ≤ left → ⊥) → IsTrue false ↔ (value_depth v ≤ left)
none_within v left e = let some = value_deep v in ((λ t. absurd cc), (λ le. absurd (e (omega arith))))

pub nested_within : (v : Element) (a : Annotation) (left inside : ℕ) (b : Bool) → v ≡ elements.Annotation a → inside + 1 ≡ left → IsTrue b ↔ AllByRecursion (λ (p : NamedElement). pair_depth p ≤ inside) (out-Annotation a).elements
    → IsTrue b ↔ (value_depth v ≤ left)
nested_within v a left inside b e f h =
    let ps = (out-Annotation a).elements in
    let deep : value_depth v ≡ 1 + most (map pair_depth ps) = ap value_depth e ∙ nested_depth a ∙ ap (λ (k : ℕ). 1 + k) (annotation_depth_out a) in
    ((λ t. let all = all_most pair_depth ps inside (h.0 t) in omega arith), (λ le. h.1 (most_all pair_depth ps inside (omega arith))))

pub annotation_within : (a : Annotation) (n : ℕ) (b : Bool) → IsTrue b ↔ AllByRecursion (λ (p : NamedElement). pair_depth p ≤ n) (out-Annotation a).elements → IsTrue b ↔ (annotation_depth a ≤ n)
annotation_within a n b h =
    let ps = (out-Annotation a).elements in
    let deep = annotation_depth_out a in
    ((λ t. let all = all_most pair_depth ps n (h.0 t) in omega arith), (λ le. h.1 (most_all pair_depth ps n (omega arith))))
