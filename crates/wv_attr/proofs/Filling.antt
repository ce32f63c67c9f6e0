-- What is to come can be filled by parts, and parts that follow each other fill the room.
use Rattle.std.proofs.Common.{◌≡◌, ℕ, zero, suc, ◌+◌, ◌-◌, ◌*◌, ◌^◌, ◌<◌, ◌≤◌, List, [], ◌∷◌, length, refl, sym, subst, ap, ◌∙◌, ◌⊎◌, inl, inr, arith}
use Rattle.std.proofs.lemmas.List.{length-append}
use Rattle.std.proofs.lemmas.List.Concat.{flat_map-cons}
use Rattle.wv_room.specs.Elements.{ElementsFill, bytes, constant, enumerator, nested, array, annotation, parameter}
use Rattle.wv_room.specs.declared.element_count.ElementKind.{ElementKind}
use Rattle.wv_room.specs.declared.element_count.ElementKind.TheVariants as kinds
use Rattle.wv_room.specs.declared.elements.Elements.{Elements}
use Rattle.wv_room.specs.Counts.{elements_with, ElementsFillRoom}
use Rattle.wv_attr.specs.declared.mark.Mark.{Mark}
use Rattle.wv_attr.specs.declared.mark.Mark.TheVariants as marks
use Rattle.wv_attr.specs.declared.group.Group.{Group}
use Rattle.wv_attr.specs.Marks.{mark_bytes, table_bytes, IsMark}
use Rattle.wv_attr.specs.Groups.{kind_of, behind, less, Follows, end, over, part, pending}
use Rattle.wv_attr.specs.Steps.{IsNext}
use Rattle.wv_attr.proofs.Fills.{fills, least_room, IsForm, plain, pair, note, list, value_next, annotation_next, list_next}

-- no item, one item, and one item and the others
none_more : (kind : ElementKind) (c : ℕ) (e : Elements) (n : ℕ) → c ≡ 0 → ElementsFillRoom e n → ElementsFillRoom (elements_with kind c e) n
none_more kinds.Value c e n z f = fills (omega arith) refl refl (omega arith) f
none_more kinds.Pair c e n z f = fills (omega arith) refl refl (omega arith) f
none_more kinds.Annotation c e n z f = fills refl (omega arith) refl (omega arith) f
none_more kinds.Parameter c e n z f = fills refl refl (omega arith) (omega arith) f

pub one_first : (kind : ElementKind) (c : ℕ) (e : Elements) (n : ℕ) → 0 < c → ElementsFillRoom (elements_with kind c e) n → ElementsFillRoom (elements_with kind 1 (elements_with kind (c - 1) e)) n
one_first kinds.Value c e n z f = fills (omega arith) refl refl (omega arith) f
one_first kinds.Pair c e n z f = fills (omega arith) refl refl (omega arith) f
one_first kinds.Annotation c e n z f = fills refl (omega arith) refl (omega arith) f
one_first kinds.Parameter c e n z f = fills refl refl (omega arith) (omega arith) f

all_again : (kind : ElementKind) (c : ℕ) (e : Elements) (n : ℕ) → 0 < c → ElementsFillRoom (elements_with kind 1 (elements_with kind (c - 1) e)) n → ElementsFillRoom (elements_with kind c e) n
all_again kinds.Value c e n z f = fills (omega arith) refl refl (omega arith) f
all_again kinds.Pair c e n z f = fills (omega arith) refl refl (omega arith) f
all_again kinds.Annotation c e n z f = fills refl (omega arith) refl (omega arith) f
all_again kinds.Parameter c e n z f = fills refl refl (omega arith) (omega arith) f

-- a value in one of its forms
formed : (d : ℕ) (e : Elements) (n db dv da : ℕ) → IsForm db dv da → ElementsFill (e.bytes + db) (dv + e.values) (da + e.annotations) e.parameters n → (m : Mark) × IsNext kinds.Value d e n m
formed d e n db dv da plain f = let long = least_room f in (marks.Constant 66 0, record { valid = (refl, omega arith); of_kind = refl; within = omega arith; fills = fills (omega arith) (omega arith) refl (omega arith) f })
formed d e n db dv da pair f = let long = least_room f in (marks.Enum 0 0, record { valid = (omega arith, omega arith); of_kind = refl; within = omega arith; fills = fills (omega arith) (omega arith) refl (omega arith) f })
formed d e n db dv da note f = let long = least_room f in (marks.Nested, record { valid = tt; of_kind = refl; within = omega arith; fills = fills (omega arith) (omega arith) refl (omega arith) f })
formed d e n db dv da (list k h) f = let long = least_room f in (marks.Array k, record { valid = omega arith; of_kind = refl; within = omega arith; fills = fills (omega arith) (omega arith) refl (omega arith) f })

-- an item that fits has a first part with which it fits
pub progress : (kind : ElementKind) (d : ℕ) (e : Elements) (n : ℕ) → ElementsFillRoom (elements_with kind 1 e) n → (m : Mark) × IsNext kind d e n m
progress kinds.Value d e n f = let r = value_next f e.values (omega arith) in formed d e n r.bytes r.values r.annotations r.form r.rest
progress kinds.Pair d e n f =
    let long = least_room f in
    (marks.Name 0, record { valid = omega arith; of_kind = refl; within = omega arith; fills = fills (omega arith) refl refl (omega arith) f })
progress kinds.Annotation d e n f =
    let r = annotation_next f e.annotations (omega arith) in
    let long = least_room r.rest in
    (marks.Annotation 0 r.count, record { valid = (omega arith, omega (arith, r.narrow)); of_kind = refl; within = omega arith; fills = fills (omega arith) (omega arith) refl (omega arith) r.rest })
progress kinds.Parameter d e n f =
    let r = list_next f e.parameters (omega arith) in
    let long = least_room r.rest in
    (marks.List r.count, record { valid = omega (arith, r.narrow); of_kind = refl; within = omega arith; fills = fills refl (omega arith) refl (omega arith) r.rest })

-- a part and what follows it are one item
pub closes : (m : Mark) (d : ℕ) (e : Elements) (n : ℕ) → IsMark m → ElementsFillRoom (elements_with (behind d m).kind (behind d m).count e) n → ElementsFillRoom (elements_with (kind_of m) 1 e) (length (mark_bytes m) + n)
closes (marks.List count) d e n h f =
    let g : ElementsFill (e.bytes + 2) e.values (count + e.annotations) e.parameters (2 + n) = fills refl (omega arith) refl (omega arith) f in
    fills refl refl (omega arith) (omega arith) (parameter count (omega arith) g)
closes (marks.Annotation class count) d e n h f =
    let narrow : count < 65536 = omega (arith, h.1) in
    let g : ElementsFill (e.bytes + 4 + 2 * count) (count + e.values) e.annotations e.parameters (4 + n) = fills (omega arith) refl refl (omega arith) f in
    fills refl (omega arith) refl (omega arith) (annotation count narrow g)
closes (marks.Name name) d e n h f = fills (omega arith) refl refl (omega arith) f
closes (marks.Constant tag value) d e n h f =
    let g : ElementsFill (e.bytes + 3) e.values e.annotations e.parameters (3 + n) = fills (omega arith) refl refl (omega arith) f in
    fills (omega arith) refl refl (omega arith) (constant g)
closes (marks.Enum descriptor name) d e n h f =
    let g : ElementsFill (e.bytes + 5) e.values e.annotations e.parameters (5 + n) = fills (omega arith) refl refl (omega arith) f in
    fills (omega arith) refl refl (omega arith) (enumerator g)
closes (marks.Class descriptor) d e n h f =
    let g : ElementsFill (e.bytes + 3) e.values e.annotations e.parameters (3 + n) = fills (omega arith) refl refl (omega arith) f in
    fills (omega arith) refl refl (omega arith) (constant g)
closes marks.Nested d e n h f =
    let g : ElementsFill (e.bytes + 1) e.values (suc e.annotations) e.parameters (1 + n) = fills refl (omega arith) refl (omega arith) f in
    fills (omega arith) refl refl (omega arith) (nested g)
closes (marks.Array count) d e n h f =
    let g : ElementsFill (e.bytes + 3) (count + e.values) e.annotations e.parameters (3 + n) = fills (omega arith) refl refl (omega arith) f in
    fills (omega arith) refl refl (omega arith) (array count (omega arith) g)

pub table-cons : (m : Mark) (ms : List Mark) → length (table_bytes (m ∷ ms)) ≡ length (mark_bytes m) + length (table_bytes ms)
table-cons m ms = ap length (flat_map-cons mark_bytes m ms) ∙ length-append (mark_bytes m) (table_bytes ms)

-- what follows fills the room of its bytes
pub follows_fill : {near : ℕ} {gs : List Group} {ms : List Mark} → Follows near gs ms → ElementsFillRoom (pending gs) (length (table_bytes ms))
follows_fill end = bytes
follows_fill (over {near} {g} {gs} {ms} z f) = none_more g.kind g.count (pending gs) (length (table_bytes ms)) z (follows_fill f)
follows_fill (part {near} {g} {gs} {m} {ms} c valid kind shallow f) =
    let all = closes m g.depth (pending (less g ∷ gs)) (length (table_bytes ms)) valid (follows_fill f) in
    let same : ElementsFillRoom (elements_with g.kind 1 (elements_with g.kind (g.count - 1) (pending gs))) (length (mark_bytes m) + length (table_bytes ms)) =
    subst (λ (k : ElementKind). ElementsFillRoom (elements_with k 1 (elements_with g.kind (g.count - 1) (pending gs))) (length (mark_bytes m) + length (table_bytes ms))) kind all in
    subst (λ (k : ℕ). ElementsFillRoom (elements_with g.kind g.count (pending gs)) k) (sym (table-cons m ms)) (all_again g.kind g.count (pending gs) (length (mark_bytes m) + length (table_bytes ms)) c same)

pub record Filled (gs : List Group) (n : ℕ) : Type 0 where
  pub parts : List Mark
  pub follows : Follows 0 gs parts
  pub long : length (table_bytes parts) ≡ n

pub long_mark : (m : Mark) → 1 ≤ length (mark_bytes m)
long_mark (marks.List count) = omega arith
long_mark (marks.Annotation class count) = omega arith
long_mark (marks.Name name) = omega arith
long_mark (marks.Constant tag value) = omega arith
long_mark (marks.Enum descriptor name) = omega arith
long_mark (marks.Class descriptor) = omega arith
long_mark marks.Nested = omega arith
long_mark (marks.Array count) = omega arith

count_is : (c : ℕ) → (c ≡ 0) ⊎ (0 < c)
count_is zero = inl refl
count_is (suc c) = inr (omega arith)

none_left : (kind : ElementKind) (c : ℕ) (e : Elements) (n : ℕ) → c ≡ 0 → ElementsFillRoom (elements_with kind c e) n → ElementsFillRoom e n
none_left kinds.Value c e n z f = fills (omega arith) refl refl (omega arith) f
none_left kinds.Pair c e n z f = fills (omega arith) refl refl (omega arith) f
none_left kinds.Annotation c e n z f = fills refl (omega arith) refl (omega arith) f
none_left kinds.Parameter c e n z f = fills refl refl (omega arith) (omega arith) f

pub nothing_left : {n : ℕ} → ElementsFill 0 0 0 0 n → n ≡ 0
nothing_left bytes = refl

-- what fits can be filled
fill_all : (fuel : ℕ) (gs : List Group) (n : ℕ) → 2 * n + length gs < fuel → ElementsFillRoom (pending gs) n → Filled gs n
fill_all zero gs n lt f = absurd (omega arith)
fill_all (suc fuel) [] n lt f = record { parts = []; follows = end; long = sym (nothing_left f) }
fill_all (suc fuel) (g ∷ gs) n lt f = go (λ hs k less f2. fill_all fuel hs k less f2) (count_is g.count)
  where
    go : ((hs : List Group) (k : ℕ) → 2 * k + length hs < fuel → ElementsFillRoom (pending hs) k → Filled hs k) → (g.count ≡ 0) ⊎ (0 < g.count) → Filled (g ∷ gs) n
    go fill (inl z) =
        let r = fill gs n (omega arith) (none_left g.kind g.count (pending gs) n z f) in
        record { parts = r.parts; follows = over z r.follows; long = r.long }
    go fill (inr c) =
        let next = progress g.kind g.depth (pending (less g ∷ gs)) n (one_first g.kind g.count (pending gs) n c f) in
        let m = next.0 in
        let is = next.1 in
        let long = long_mark m in
        let inside = is.within in
        let r = fill (behind g.depth m ∷ less g ∷ gs) (n - length (mark_bytes m)) (omega arith) is.fills in
        record {
          parts = m ∷ r.parts;
          follows = part c is.valid is.of_kind (λ never. absurd (omega arith)) (subst (λ (k : ℕ). Follows k (behind g.depth m ∷ less g ∷ gs) r.parts) (omega arith) r.follows);
          long = table-cons m r.parts ∙ omega (arith, r.long, inside);
        }

pub filled : (gs : List Group) (n : ℕ) → ElementsFillRoom (pending gs) n → Filled gs n
filled gs n f = fill_all (2 * n + length gs + 1) gs n (omega arith) f

-- a sum of items that have room has room in 32 bits
pub record HasRoom (c : ℕ) (e : Elements) : Type 0 where
  pub bytes : e.bytes + 2 * c < 2 ^ 32
  pub values : e.values + c < 2 ^ 32
  pub annotations : e.annotations + c < 2 ^ 32
  pub parameters : e.parameters + c < 2 ^ 32

pub has_room : (kind : ElementKind) (c : ℕ) (e : Elements) (n : ℕ) → ElementsFillRoom (elements_with kind c e) n → n < 2 ^ 32 → c < 65536 → HasRoom c e
has_room kinds.Value c e n f lt small = let long = least_room f in record { bytes = omega arith; values = omega arith; annotations = omega arith; parameters = omega arith }
has_room kinds.Pair c e n f lt small = let long = least_room f in record { bytes = omega arith; values = omega arith; annotations = omega arith; parameters = omega arith }
has_room kinds.Annotation c e n f lt small = let long = least_room f in record { bytes = omega arith; values = omega arith; annotations = omega arith; parameters = omega arith }
has_room kinds.Parameter c e n f lt small = let long = least_room f in record { bytes = omega arith; values = omega arith; annotations = omega arith; parameters = omega arith }

abbrev made : ℕ → ℕ → ℕ → ℕ → Elements
made b v a p = record { bytes = b; values = v; annotations = a; parameters = p }

-- one item and the others
pub due_one : (kind : ElementKind) (c : ℕ) (e : Elements) → 0 < c → elements_with kind c e ≡ elements_with kind 1 (elements_with kind (c - 1) e)
due_one kinds.Value c e lt = let v : e.values + c ≡ e.values + (c - 1) + 1 = omega arith in ap (λ (k : ℕ). made e.bytes k e.annotations e.parameters) v
due_one kinds.Pair c e lt =
    let b : e.bytes + 2 * c ≡ e.bytes + 2 * (c - 1) + 2 * 1 = omega arith in
    let v : e.values + c ≡ e.values + (c - 1) + 1 = omega arith in
    ap (λ (k : ℕ). made k (e.values + c) e.annotations e.parameters) b ∙ ap (λ (k : ℕ). made (e.bytes + 2 * (c - 1) + 2 * 1) k e.annotations e.parameters) v
due_one kinds.Annotation c e lt = let v : e.annotations + c ≡ e.annotations + (c - 1) + 1 = omega arith in ap (λ (k : ℕ). made e.bytes e.values k e.parameters) v
due_one kinds.Parameter c e lt = let v : e.parameters + c ≡ e.parameters + (c - 1) + 1 = omega arith in ap (λ (k : ℕ). made e.bytes e.values e.annotations k) v

-- no item
pub due_none : (kind : ElementKind) (c : ℕ) (e : Elements) → c ≡ 0 → elements_with kind c e ≡ e
due_none kinds.Value c e z = let v : e.values + c ≡ e.values = omega arith in ap (λ (k : ℕ). made e.bytes k e.annotations e.parameters) v
due_none kinds.Pair c e z =
    let b : e.bytes + 2 * c ≡ e.bytes = omega arith in
    let v : e.values + c ≡ e.values = omega arith in
    ap (λ (k : ℕ). made k (e.values + c) e.annotations e.parameters) b ∙ ap (λ (k : ℕ). made e.bytes k e.annotations e.parameters) v
due_none kinds.Annotation c e z = let v : e.annotations + c ≡ e.annotations = omega arith in ap (λ (k : ℕ). made e.bytes e.values k e.parameters) v
due_none kinds.Parameter c e z = let v : e.parameters + c ≡ e.parameters = omega arith in ap (λ (k : ℕ). made e.bytes e.values e.annotations k) v

pub narrow_behind : (d : ℕ) (m : Mark) → IsMark m → (behind d m).count < 65536
narrow_behind d (marks.List count) h = omega (arith, h)
narrow_behind d (marks.Annotation class count) h = omega (arith, h.1)
narrow_behind d (marks.Name name) h = omega arith
narrow_behind d (marks.Constant tag value) h = omega arith
narrow_behind d (marks.Enum descriptor name) h = omega arith
narrow_behind d (marks.Class descriptor) h = omega arith
narrow_behind d marks.Nested h = omega arith
narrow_behind d (marks.Array count) h = omega (arith, h)
