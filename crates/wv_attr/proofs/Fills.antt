-- Items that fill the room do so by one part after another.
use Rattle.std.proofs.Common.{◌≡◌, ℕ, suc, ◌+◌, ◌*◌, ◌<◌, ◌≤◌, subst, arith}
use Rattle.wv_room.specs.Elements.{ElementsFill, bytes, constant, enumerator, nested, array, annotation, parameter}
use Rattle.wv_room.proofs.ElementSizes.{reached, spelled}

-- bytes that are moved between the items and the room, and numbers of items that are equal
pub fills : {b v a p n b2 v2 a2 p2 n2 : ℕ} → v ≡ v2 → a ≡ a2 → p ≡ p2 → n + b2 ≡ n2 + b → ElementsFill b v a p n → ElementsFill b2 v2 a2 p2 n2
fills {b} {v} {a} {p} {n} {b2} {v2} {a2} {p2} {n2} ev ea ep e f =
    let r = reached f in
    let moved : ElementsFill b2 v a p n2 = spelled (record { more = r.more; size = omega (arith, r.size, e); takes = r.takes }) in
    let values : ElementsFill b2 v2 a p n2 = subst (λ (k : ℕ). ElementsFill b2 k a p n2) ev moved in
    let annotations : ElementsFill b2 v2 a2 p n2 = subst (λ (k : ℕ). ElementsFill b2 v2 k p n2) ea values in
    subst (λ (k : ℕ). ElementsFill b2 v2 a2 k n2) ep annotations

-- the items in their least forms have room
pub least_room : {b v a p n : ℕ} → ElementsFill b v a p n → b + 3 * v + 4 * a + 2 * p ≤ n
least_room f = let r = reached f in omega (arith, r.size)

-- how many bytes a value has itself, and the values and annotations in it
pub data IsForm : (bytes values annotations : ℕ) → Type 0 where
  plain : IsForm 3 0 0
  pair : IsForm 5 0 0
  note : IsForm 1 0 1
  list : (k : ℕ) → k < 65536 → IsForm 3 k 0

pub record ValueNext (b v a p n : ℕ) : Type 0 where
  pub bytes : ℕ
  pub values : ℕ
  pub annotations : ℕ
  pub form : IsForm bytes values annotations
  pub rest : ElementsFill (b + bytes) (values + v) (annotations + a) p n

abbrev with_form : {b v a p n : ℕ} (db dv da : ℕ) → IsForm db dv da → ElementsFill (b + db) (dv + v) (da + a) p n → ValueNext b v a p n
with_form db dv da is f = record { bytes = db; values = dv; annotations = da; form = is; rest = f }

-- a value takes one of its forms
pub value_next : {b v a p n : ℕ} → ElementsFill b v a p n → (v0 : ℕ) → v ≡ suc v0 → ValueNext b v0 a p n
value_next bytes v0 e = absurd (omega arith)
value_next (constant f) v0 e = with_form 3 0 0 plain (fills (omega arith) (omega arith) (omega arith) (omega arith) f)
value_next (enumerator f) v0 e = with_form 5 0 0 pair (fills (omega arith) (omega arith) (omega arith) (omega arith) f)
value_next (nested f) v0 e = with_form 1 0 1 note (fills (omega arith) (omega arith) (omega arith) (omega arith) f)
value_next (array k h f) v0 e = with_form 3 k 0 (list k h) (fills (omega arith) (omega arith) (omega arith) (omega arith) f)
value_next (annotation {b} {v} {a} {p} {n} k h f) v0 e =
    let r = value_next f (k + v0) (omega arith) in
    let g : ElementsFill (b + r.bytes + 4 + 2 * k) (k + (r.values + v0)) (r.annotations + a) p n = fills (omega arith) (omega arith) (omega arith) (omega arith) r.rest in
    with_form r.bytes r.values r.annotations r.form (fills (omega arith) (omega arith) (omega arith) (omega arith) (annotation k h g))
value_next (parameter {b} {v} {a} {p} {n} k h f) v0 e =
    let r = value_next f v0 e in
    let g : ElementsFill (b + r.bytes + 2) (r.values + v0) (k + (r.annotations + a)) p n = fills (omega arith) (omega arith) (omega arith) (omega arith) r.rest in
    with_form r.bytes r.values r.annotations r.form (fills (omega arith) (omega arith) (omega arith) (omega arith) (parameter k h g))

pub record AnnotationNext (b v a p n : ℕ) : Type 0 where
  pub count : ℕ
  pub narrow : count < 65536
  pub rest : ElementsFill (b + 4 + 2 * count) (count + v) a p n

-- an annotation has some number of elements
pub annotation_next : {b v a p n : ℕ} → ElementsFill b v a p n → (a0 : ℕ) → a ≡ suc a0 → AnnotationNext b v a0 p n
annotation_next bytes a0 e = absurd (omega arith)
annotation_next (constant {b} {v} {a} {p} {n} f) a0 e =
    let r = annotation_next f a0 e in
    let g : ElementsFill (b + 4 + 2 * r.count + 3) (r.count + v) a0 p n = fills (omega arith) (omega arith) (omega arith) (omega arith) r.rest in
    record { count = r.count; narrow = r.narrow; rest = fills (omega arith) (omega arith) (omega arith) (omega arith) (constant g) }
annotation_next (enumerator {b} {v} {a} {p} {n} f) a0 e =
    let r = annotation_next f a0 e in
    let g : ElementsFill (b + 4 + 2 * r.count + 5) (r.count + v) a0 p n = fills (omega arith) (omega arith) (omega arith) (omega arith) r.rest in
    record { count = r.count; narrow = r.narrow; rest = fills (omega arith) (omega arith) (omega arith) (omega arith) (enumerator g) }
annotation_next (nested {b} {v} {a} {p} {n} f) a0 e =
    let r = annotation_next f (suc a0) (omega arith) in
    let g : ElementsFill (b + 4 + 2 * r.count + 1) (r.count + v) (suc a0) p n = fills (omega arith) (omega arith) (omega arith) (omega arith) r.rest in
    record { count = r.count; narrow = r.narrow; rest = fills (omega arith) (omega arith) (omega arith) (omega arith) (nested g) }
annotation_next (array {b} {v} {a} {p} {n} k h f) a0 e =
    let r = annotation_next f a0 e in
    let g : ElementsFill (b + 4 + 2 * r.count + 3) (k + (r.count + v)) a0 p n = fills (omega arith) (omega arith) (omega arith) (omega arith) r.rest in
    record { count = r.count; narrow = r.narrow; rest = fills (omega arith) (omega arith) (omega arith) (omega arith) (array k h g) }
annotation_next (annotation k h f) a0 e = record { count = k; narrow = h; rest = fills (omega arith) (omega arith) (omega arith) (omega arith) f }
annotation_next (parameter {b} {v} {a} {p} {n} k h f) a0 e =
    let r = annotation_next f (k + a0) (omega arith) in
    let g : ElementsFill (b + 4 + 2 * r.count + 2) (r.count + v) (k + a0) p n = fills (omega arith) (omega arith) (omega arith) (omega arith) r.rest in
    record { count = r.count; narrow = r.narrow; rest = fills (omega arith) (omega arith) (omega arith) (omega arith) (parameter k h g) }

pub record ListNext (b v a p n : ℕ) : Type 0 where
  pub count : ℕ
  pub narrow : count < 65536
  pub rest : ElementsFill (b + 2) v (count + a) p n

-- a list has some number of annotations
pub list_next : {b v a p n : ℕ} → ElementsFill b v a p n → (p0 : ℕ) → p ≡ suc p0 → ListNext b v a p0 n
list_next bytes p0 e = absurd (omega arith)
list_next (constant {b} {v} {a} {p} {n} f) p0 e =
    let r = list_next f p0 e in
    let g : ElementsFill (b + 2 + 3) v (r.count + a) p0 n = fills (omega arith) (omega arith) (omega arith) (omega arith) r.rest in
    record { count = r.count; narrow = r.narrow; rest = constant g }
list_next (enumerator {b} {v} {a} {p} {n} f) p0 e =
    let r = list_next f p0 e in
    let g : ElementsFill (b + 2 + 5) v (r.count + a) p0 n = fills (omega arith) (omega arith) (omega arith) (omega arith) r.rest in
    record { count = r.count; narrow = r.narrow; rest = enumerator g }
list_next (nested {b} {v} {a} {p} {n} f) p0 e =
    let r = list_next f p0 e in
    let g : ElementsFill (b + 2 + 1) v (suc (r.count + a)) p0 n = fills (omega arith) (omega arith) (omega arith) (omega arith) r.rest in
    record { count = r.count; narrow = r.narrow; rest = nested g }
list_next (array {b} {v} {a} {p} {n} k h f) p0 e =
    let r = list_next f p0 e in
    let g : ElementsFill (b + 2 + 3) (k + v) (r.count + a) p0 n = fills (omega arith) (omega arith) (omega arith) (omega arith) r.rest in
    record { count = r.count; narrow = r.narrow; rest = array k h g }
list_next (annotation {b} {v} {a} {p} {n} k h f) p0 e =
    let r = list_next f p0 e in
    let g : ElementsFill (b + 2 + 4 + 2 * k) (k + v) (r.count + a) p0 n = fills (omega arith) (omega arith) (omega arith) (omega arith) r.rest in
    record { count = r.count; narrow = r.narrow; rest = fills (omega arith) (omega arith) (omega arith) (omega arith) (annotation k h g) }
list_next (parameter k h f) p0 e = record { count = k; narrow = h; rest = fills (omega arith) (omega arith) (omega arith) (omega arith) f }
