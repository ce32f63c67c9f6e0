-- Where the bytes first break one part.
use Rattle.std.proofs.Common.{◌≡◌, ℕ, zero, suc, ◌+◌, ◌-◌, ◌*◌, ◌/◌, ◌%◌, ◌<◌, ◌≤◌, true, false, List, [], ◌∷◌, ◌++◌, length, get_or, take, drop, refl, sym, subst, ap, ◌∙◌, ◌⊎◌, inl, inr, arith, IsTrue}
use Rattle.std.specs.List.{AllByRecursion}
use Rattle.std.proofs.lemmas.List.{take-append-le, take_all}
use Rattle.wv_room.specs.declared.element_count.ElementKind.{ElementKind}
use Rattle.wv_room.specs.declared.element_count.ElementKind.TheVariants as kinds
use Rattle.wv_room.specs.declared.elements.Elements.{Elements}
use Rattle.wv_room.specs.Counts.{elements_with, ElementsFillRoom}
use Rattle.wv_room.specs.Number.{number_of, BeginsWith, IsFirstFault, AllowsSome}
use Rattle.wv_attr.specs.declared.mark.Mark.{Mark}
use Rattle.wv_attr.specs.declared.mark.Mark.TheVariants as marks
use Rattle.wv_attr.specs.Marks.{two_bytes, is_constant_tag, mark_bytes}
use Rattle.wv_attr.specs.Groups.{IsShallow}
use Rattle.wv_attr.specs.Steps.{padded, IsNext, StepFault, CountFault}
use Rattle.wv_attr.proofs.Fills.{fills, least_room}
use Rattle.wv_attr.proofs.Filling.{progress}
use Rattle.wv_attr.proofs.Padding.{length-padded}

abbrev pub AreBytes : List ℕ → Type 0
AreBytes bytes = (i : ℕ) → get_or bytes i 0 < 256

pub two_read : (bytes : List ℕ) → AreBytes bytes → 2 ≤ length bytes → (take 2 bytes ≡ two_bytes (number_of (take 2 bytes))) × (number_of (take 2 bytes) < 65536)
two_read [] h le = absurd (omega arith)
two_read (a ∷ []) h le = absurd (omega arith)
two_read (a ∷ b ∷ w) h le =
    let first = h 0 in
    let second = h 1 in
    let high : (a * 256 + b) / 256 ≡ a = omega arith in
    let low : (a * 256 + b) % 256 ≡ b = omega arith in
    let n : number_of (a ∷ b ∷ []) ≡ a * 256 + b = omega arith in
    (rw (n, high, low) refl, omega (arith, n))

abbrev Allowed : ElementKind → Elements → ℕ → ℕ → Type 0
Allowed kind besides room n = ElementsFillRoom (elements_with kind n besides) room

one_begun : (a n : ℕ) → a < 256 → BeginsWith 2 (a ∷ []) n → (n < 65536) × (n / 256 ≡ a)
one_begun a n lt b = go b.rest b.bytes b.wide b.spelled
  where
    go : (rest : List ℕ) → AllByRecursion (λ (k : ℕ). k < 256) rest → 1 + length rest ≡ 2 → n ≡ number_of (a ∷ [] ++ rest) → (n < 65536) × (n / 256 ≡ a)
    go [] all wide e = absurd (omega arith)
    go (r ∷ []) all wide e = let small = all.0 in let is : n ≡ a * 256 + r = omega (arith, e) in (omega (arith, is), omega (arith, is))
    go (r ∷ s ∷ more) all wide e = absurd (omega arith)

room_behind : (a b : ℕ) (w : List ℕ) (missing : ℕ) → length (padded (a ∷ b ∷ w) missing) - 2 ≡ length (a ∷ b ∷ w) - 2 + missing
room_behind a b w missing = omega (arith, length-padded w missing)

pub count_fault : (kind : ElementKind) (besides : Elements) (bytes : List ℕ) (missing place : ℕ) → AreBytes bytes → 2 ≤ length bytes → IsFirstFault (Allowed kind besides (length bytes - 2 + missing)) 2 bytes place
    → CountFault kind besides (padded bytes missing) place
count_fault kind besides [] missing place h le f = absurd (omega arith)
count_fault kind besides (a ∷ []) missing place h le f = absurd (omega arith)
count_fault kind besides (a ∷ b ∷ w) missing zero h le f = record {
  within = omega arith;
  begins = λ never. absurd (omega arith);
  none = λ n is e. elim f.stopped [
    | inl ends ↦ absurd (omega arith)
    | inr never ↦ never n (subst (λ (k : ℕ). Allowed kind besides k n) (room_behind a b w missing) is.fills) (record {
      rest = n % 256 ∷ [];
      bytes = (omega arith, tt);
      wide = refl;
      spelled = let first : n / 256 ≡ a = ap (λ (t : List ℕ). get_or t 0 0) e in omega (arith, first);
    })
  ];
}
count_fault kind besides (a ∷ b ∷ w) missing (suc zero) h le f =
    let began = f.begun (omega arith) in
    let is = one_begun a began.0 (h 0) began.2 in
    record {
      within = omega arith;
      begins = λ pos. (began.0, record { narrow = is.0; fills = subst (λ (k : ℕ). Allowed kind besides k began.0) (sym (room_behind a b w missing)) began.1 }, ap (λ (k : ℕ). k ∷ []) is.1);
      none = λ n is e. elim f.stopped [
        | inl ends ↦ absurd (omega arith)
        | inr never ↦ never n (subst (λ (k : ℕ). Allowed kind besides k n) (room_behind a b w missing) is.fills) (record {
          rest = [];
          bytes = tt;
          wide = refl;
          spelled = let first : n / 256 ≡ a = ap (λ (t : List ℕ). get_or t 0 0) e in let second : n % 256 ≡ b = ap (λ (t : List ℕ). get_or t 1 0) e in omega (arith, first, second);
        })
      ];
    }
count_fault kind besides (a ∷ b ∷ w) missing (suc (suc place)) h le f = let near = f.within in absurd (omega arith)

pub name_step : (d : ℕ) (besides : Elements) (bytes : List ℕ) (name : ℕ) → name < 65536 → ElementsFillRoom (elements_with kinds.Pair 1 besides) (length bytes) → IsNext kinds.Pair d besides (length bytes) (marks.Name name)
name_step d besides bytes name lt f =
    let long = least_room f in
    record { valid = omega arith; of_kind = refl; within = omega arith; fills = fills (omega arith) refl refl (omega arith) f }

pub not_value : {d : ℕ} (kind : ElementKind) → (kind ≡ kinds.Value → ⊥) → IsShallow kind d
not_value kind other e = absurd (other e)

-- the number of annotations
list_none : (d : ℕ) (besides : Elements) (bytes : List ℕ) (place : ℕ) → CountFault kinds.Annotation besides bytes place → (m : Mark) (w : List ℕ) → IsNext kinds.Parameter d besides (length bytes) m → take (place + 1) (mark_bytes m ++ w) ≡ take (place + 1) bytes → ⊥
list_none d besides bytes place f (marks.List n) w is e =
    let near = f.within in
    f.none n (record { narrow = omega (arith, is.valid); fills = is.fills }) (sym (take-append-le (place + 1) (two_bytes n) w (omega arith)) ∙ e)
list_none d besides bytes place f (marks.Annotation class count) w is e = let k = is.of_kind in absurd cc
list_none d besides bytes place f (marks.Name name) w is e = let k = is.of_kind in absurd cc
list_none d besides bytes place f (marks.Constant tag value) w is e = let k = is.of_kind in absurd cc
list_none d besides bytes place f (marks.Enum descriptor name) w is e = let k = is.of_kind in absurd cc
list_none d besides bytes place f (marks.Class descriptor) w is e = let k = is.of_kind in absurd cc
list_none d besides bytes place f marks.Nested w is e = let k = is.of_kind in absurd cc
list_none d besides bytes place f (marks.Array count) w is e = let k = is.of_kind in absurd cc

pub list_fault : (d : ℕ) (besides : Elements) (bytes : List ℕ) (place : ℕ) → 2 ≤ length bytes → CountFault kinds.Annotation besides bytes place → StepFault kinds.Parameter d besides bytes place
list_fault d besides bytes place le f =
    let near = f.within in
    record {
      within = omega arith;
      begins = λ pos. let b = f.begins pos in (marks.List b.0, (λ e. absurd cc), record { valid = omega (arith, b.1.narrow); of_kind = refl; within = le; fills = b.1.fills }, b.2);
      none = λ m w shallow is e. list_none d besides bytes place f m w is e;
    }

-- an annotation's type and the number of its elements
abbrev Renamed : ℕ → Elements → List ℕ → ℕ → Type 0
Renamed d besides bytes class = (count : ℕ) × IsNext kinds.Annotation d besides (length bytes) (marks.Annotation class count)

renamed : (d : ℕ) (besides : Elements) (bytes : List ℕ) (class : ℕ) → class < 65536 → (m : Mark) → IsNext kinds.Annotation d besides (length bytes) m → Renamed d besides bytes class
renamed d besides bytes class lt (marks.List n) is = let k = is.of_kind in absurd cc
renamed d besides bytes class lt (marks.Annotation other count) is = (count, record { valid = (omega arith, is.valid.1); of_kind = refl; within = is.within; fills = is.fills })
renamed d besides bytes class lt (marks.Name name) is = let k = is.of_kind in absurd cc
renamed d besides bytes class lt (marks.Constant tag value) is = let k = is.of_kind in absurd cc
renamed d besides bytes class lt (marks.Enum descriptor name) is = let k = is.of_kind in absurd cc
renamed d besides bytes class lt (marks.Class descriptor) is = let k = is.of_kind in absurd cc
renamed d besides bytes class lt marks.Nested is = let k = is.of_kind in absurd cc
renamed d besides bytes class lt (marks.Array count) is = let k = is.of_kind in absurd cc

annotation_none : (d : ℕ) (besides : Elements) (a b : ℕ) (rest : List ℕ) (place : ℕ) → CountFault kinds.Pair besides rest place → (m : Mark) (w : List ℕ) → IsNext kinds.Annotation d besides (length (a ∷ b ∷ rest)) m
    → take (suc (suc (place + 1))) (mark_bytes m ++ w) ≡ take (suc (suc (place + 1))) (a ∷ b ∷ rest) → ⊥
annotation_none d besides a b rest place f (marks.List n) w is e = let k = is.of_kind in absurd cc
annotation_none d besides a b rest place f (marks.Annotation class n) w is e =
    let near = f.within in
    let front : take (place + 1) (two_bytes n ++ w) ≡ take (place + 1) rest = ap (drop 2) e in
    f.none n (record { narrow = omega (arith, is.valid.1); fills = subst (λ (k : ℕ). Allowed kinds.Pair besides k n) (omega arith) is.fills }) (sym (take-append-le (place + 1) (two_bytes n) w (omega arith)) ∙ front)
annotation_none d besides a b rest place f (marks.Name name) w is e = let k = is.of_kind in absurd cc
annotation_none d besides a b rest place f (marks.Constant tag value) w is e = let k = is.of_kind in absurd cc
annotation_none d besides a b rest place f (marks.Enum descriptor name) w is e = let k = is.of_kind in absurd cc
annotation_none d besides a b rest place f (marks.Class descriptor) w is e = let k = is.of_kind in absurd cc
annotation_none d besides a b rest place f marks.Nested w is e = let k = is.of_kind in absurd cc
annotation_none d besides a b rest place f (marks.Array count) w is e = let k = is.of_kind in absurd cc

annotation_fault : (d : ℕ) (besides : Elements) (a b class : ℕ) (rest : List ℕ) (place : ℕ) → class < 65536 → two_bytes class ≡ a ∷ b ∷ [] → 2 ≤ length rest
    → ElementsFillRoom (elements_with kinds.Annotation 1 besides) (length (a ∷ b ∷ rest)) → CountFault kinds.Pair besides rest place → StepFault kinds.Annotation d besides (a ∷ b ∷ rest) (2 + place)
annotation_fault d besides a b class rest place lt same le fits f =
    let near = f.within in
    let high : class / 256 ≡ a = ap (λ (t : List ℕ). get_or t 0 0) same in
    let low : class % 256 ≡ b = ap (λ (t : List ℕ). get_or t 1 0) same in
    record {
      within = omega arith;
      begins = λ pos. let r = first high low place f in let same : suc (suc place) ≡ 2 + place = omega arith in (r.0, r.1, r.2, subst (λ (k : ℕ). take k (mark_bytes r.0) ≡ take k (a ∷ b ∷ rest)) same r.3);
      none = λ m w shallow is e. let same : 2 + place + 1 ≡ suc (suc (place + 1)) = omega arith in annotation_none d besides a b rest place f m w is (subst (λ (k : ℕ). take k (mark_bytes m ++ w) ≡ take k (a ∷ b ∷ rest)) same e);
    }
  where
    first : class / 256 ≡ a → class % 256 ≡ b → (at : ℕ) → CountFault kinds.Pair besides rest at
        → (m : Mark) × IsShallow kinds.Annotation d × IsNext kinds.Annotation d besides (length (a ∷ b ∷ rest)) m × (take (suc (suc at)) (mark_bytes m) ≡ take (suc (suc at)) (a ∷ b ∷ rest))
    first high low zero g =
        let next = progress kinds.Annotation d besides (length (a ∷ b ∷ rest)) fits in
        let named = renamed d besides (a ∷ b ∷ rest) class lt next.0 next.1 in
        (marks.Annotation class named.0, (λ e. absurd cc), named.1, rw (high, low) refl)
    first high low (suc at) g =
        let c = g.begins (omega arith) in (
          marks.Annotation class c.0,
          (λ e. absurd cc),
          record { valid = (omega arith, omega (arith, c.1.narrow)); of_kind = refl; within = omega arith; fills = subst (λ (k : ℕ). Allowed kinds.Pair besides k c.0) (omega arith) c.1.fills },
          rw (high, low) (ap (λ (t : List ℕ). a ∷ b ∷ t) c.2),
        )

pub annotation_step : (d : ℕ) (besides : Elements) (bytes : List ℕ) (missing class place : ℕ) → class < 65536 → two_bytes class ≡ get_or bytes 0 0 ∷ get_or bytes 1 0 ∷ [] → 4 ≤ length bytes
    → ElementsFillRoom (elements_with kinds.Annotation 1 besides) (length (padded bytes missing)) → CountFault kinds.Pair besides (padded (take (length bytes - 2) (drop 2 bytes)) missing) place
    → StepFault kinds.Annotation d besides (padded bytes missing) (2 + place)
annotation_step d besides [] missing class place lt same le fits f = absurd (omega arith)
annotation_step d besides (a ∷ []) missing class place lt same le fits f = absurd (omega arith)
annotation_step d besides (a ∷ b ∷ w) missing class place lt same le fits f =
    let all : take (length (a ∷ b ∷ w) - 2) w ≡ w = take_all (length (a ∷ b ∷ w) - 2) w (omega arith) in
    annotation_fault d besides a b class (padded w missing) place lt same (omega (arith, length-padded w missing)) fits (subst (λ (t : List ℕ). CountFault kinds.Pair besides (padded t missing) place) all f)

-- an array's tag and the number of its values
array_only : (d : ℕ) (besides : Elements) (rest : List ℕ) (at : ℕ) (P : Type 0) → (m : Mark) (w : List ℕ) → IsNext kinds.Value d besides (length (91 ∷ rest)) m → take (suc at) (mark_bytes m ++ w) ≡ take (suc at) (91 ∷ rest)
    → ((n : ℕ) → IsNext kinds.Value d besides (length (91 ∷ rest)) (marks.Array n) → take at (two_bytes n ++ w) ≡ take at rest → P) → P
array_only d besides rest at P (marks.List n) w is e go = let k = is.of_kind in absurd cc
array_only d besides rest at P (marks.Annotation class count) w is e go = let k = is.of_kind in absurd cc
array_only d besides rest at P (marks.Name name) w is e go = let k = is.of_kind in absurd cc
array_only d besides rest at P (marks.Constant tag value) w is e go =
    let first : tag ≡ 91 = ap (λ (t : List ℕ). get_or t 0 0) e in
    let bad : false ≡ true = subst (λ (k : ℕ). IsTrue (is_constant_tag k)) first is.valid.0 in
    absurd cc
array_only d besides rest at P (marks.Enum descriptor name) w is e go = let first : ◌≡◌ {A = ℕ} 101 91 = ap (λ (t : List ℕ). get_or t 0 0) e in absurd (omega arith)
array_only d besides rest at P (marks.Class descriptor) w is e go = let first : ◌≡◌ {A = ℕ} 99 91 = ap (λ (t : List ℕ). get_or t 0 0) e in absurd (omega arith)
array_only d besides rest at P marks.Nested w is e go = let first : ◌≡◌ {A = ℕ} 64 91 = ap (λ (t : List ℕ). get_or t 0 0) e in absurd (omega arith)
array_only d besides rest at P (marks.Array n) w is e go = go n is (ap (drop 1) e)

pub no_array : (d : ℕ) (besides : Elements) (rest : List ℕ) → (length rest < 2) ⊎ (AllowsSome (Allowed kinds.Value besides (length rest - 2)) 0 65535 → ⊥) → StepFault kinds.Value d besides (91 ∷ rest) 0
no_array d besides rest why = record {
  within = omega arith;
  begins = λ never. absurd (omega arith);
  none = λ m w shallow is e. array_only d besides rest 0 ⊥ m w is e (λ n here front. go why n here);
}
  where
    go : (length rest < 2) ⊎ (AllowsSome (Allowed kinds.Value besides (length rest - 2)) 0 65535 → ⊥) → (n : ℕ) → IsNext kinds.Value d besides (length (91 ∷ rest)) (marks.Array n) → ⊥
    go (inl short) n is = let long = is.within in omega arith
    go (inr none) n is =
        none (record { value = n; low = omega arith; high = omega (arith, is.valid); allowed = subst (λ (k : ℕ). Allowed kinds.Value besides k n) (omega arith) is.fills })

pub array_fault : (d : ℕ) (besides : Elements) (rest : List ℕ) (place : ℕ) → d ≤ 255 → 2 ≤ length rest → AllowsSome (Allowed kinds.Value besides (length rest - 2)) 0 65535 → CountFault kinds.Value besides rest place
    → StepFault kinds.Value d besides (91 ∷ rest) (1 + place)
array_fault d besides rest place shallow le some f =
    let near = f.within in
    record {
      within = omega arith;
      begins = λ pos. let r = first place f in let same : suc place ≡ 1 + place = omega arith in (r.0, r.1, r.2, subst (λ (k : ℕ). take k (mark_bytes r.0) ≡ take k (91 ∷ rest)) same r.3);
      none = λ m w deep is e. let same : 1 + place + 1 ≡ suc (place + 1) = omega arith in array_only d besides rest (place + 1) ⊥ m w is (subst (λ (k : ℕ). take k (mark_bytes m ++ w) ≡ take k (91 ∷ rest)) same e)
          (λ n here front. f.none n (record { narrow = omega (arith, here.valid); fills = subst (λ (k : ℕ). Allowed kinds.Value besides k n) (omega arith) here.fills }) (sym (take-append-le (place + 1) (two_bytes n) w (omega arith)) ∙ front));
    }
  where
    first : (at : ℕ) → CountFault kinds.Value besides rest at → (m : Mark) × IsShallow kinds.Value d × IsNext kinds.Value d besides (length (91 ∷ rest)) m × (take (suc at) (mark_bytes m) ≡ take (suc at) (91 ∷ rest))
    first zero g =
        let high = some.high in (
          marks.Array some.value,
          (λ e. shallow),
          record { valid = omega arith; of_kind = refl; within = omega arith; fills = subst (λ (k : ℕ). Allowed kinds.Value besides k some.value) (omega arith) some.allowed },
          refl,
        )
    first (suc at) g =
        let c = g.begins (omega arith) in (
          marks.Array c.0,
          (λ e. shallow),
          record { valid = omega (arith, c.1.narrow); of_kind = refl; within = omega arith; fills = subst (λ (k : ℕ). Allowed kinds.Value besides k c.0) (omega arith) c.1.fills },
          ap (λ (t : List ℕ). 91 ∷ t) c.2,
        )

-- ---- a value by its tag

-- none stands here that begins with a constant's tag
constant_none : (d tag : ℕ) (besides : Elements) (rest : List ℕ) → (tag ≡ 101 → ⊥) → (tag ≡ 99 → ⊥) → (tag ≡ 64 → ⊥) → (tag ≡ 91 → ⊥)
    → (IsTrue (is_constant_tag tag) → 2 ≤ length rest → Allowed kinds.Value besides (length rest - 2) 0 → ⊥) → (m : Mark) (w : List ℕ) → IsNext kinds.Value d besides (length (tag ∷ rest)) m
    → take 1 (mark_bytes m ++ w) ≡ take 1 (tag ∷ rest) → ⊥
constant_none d tag besides rest e c n a why (marks.List count) w is same = let k = is.of_kind in absurd cc
constant_none d tag besides rest e c n a why (marks.Annotation class count) w is same = let k = is.of_kind in absurd cc
constant_none d tag besides rest e c n a why (marks.Name name) w is same = let k = is.of_kind in absurd cc
constant_none d tag besides rest e c n a why (marks.Constant t value) w is same =
    let first : t ≡ tag = ap (λ (l : List ℕ). get_or l 0 0) same in
    let long = is.within in
    why (subst (λ (k : ℕ). IsTrue (is_constant_tag k)) first is.valid.0) (omega arith) (subst (λ (k : ℕ). Allowed kinds.Value besides k 0) (omega arith) is.fills)
constant_none d tag besides rest e c n a why (marks.Enum descriptor name) w is same = let first : 101 ≡ tag = ap (λ (l : List ℕ). get_or l 0 0) same in e (sym first)
constant_none d tag besides rest e c n a why (marks.Class descriptor) w is same = let first : 99 ≡ tag = ap (λ (l : List ℕ). get_or l 0 0) same in c (sym first)
constant_none d tag besides rest e c n a why marks.Nested w is same = let first : 64 ≡ tag = ap (λ (l : List ℕ). get_or l 0 0) same in n (sym first)
constant_none d tag besides rest e c n a why (marks.Array count) w is same = let first : 91 ≡ tag = ap (λ (l : List ℕ). get_or l 0 0) same in a (sym first)

pub constant_fault : (d tag : ℕ) (besides : Elements) (rest : List ℕ) → (tag ≡ 101 → ⊥) → (tag ≡ 99 → ⊥) → (tag ≡ 64 → ⊥) → (tag ≡ 91 → ⊥)
    → (IsTrue (is_constant_tag tag) → 2 ≤ length rest → Allowed kinds.Value besides (length rest - 2) 0 → ⊥) → StepFault kinds.Value d besides (tag ∷ rest) 0
constant_fault d tag besides rest e c n a why = record {
  within = omega arith;
  begins = λ never. absurd (omega arith);
  none = λ m w shallow is same. constant_none d tag besides rest e c n a why m w is same;
}

enum_none : (d : ℕ) (besides : Elements) (rest : List ℕ) → (4 ≤ length rest → Allowed kinds.Value besides (length rest - 4) 0 → ⊥) → (m : Mark) (w : List ℕ) → IsNext kinds.Value d besides (length (101 ∷ rest)) m
    → take 1 (mark_bytes m ++ w) ≡ take 1 (101 ∷ rest) → ⊥
enum_none d besides rest why (marks.List count) w is same = let k = is.of_kind in absurd cc
enum_none d besides rest why (marks.Annotation class count) w is same = let k = is.of_kind in absurd cc
enum_none d besides rest why (marks.Name name) w is same = let k = is.of_kind in absurd cc
enum_none d besides rest why (marks.Constant t value) w is same =
    let first : t ≡ 101 = ap (λ (l : List ℕ). get_or l 0 0) same in let bad : false ≡ true = subst (λ (k : ℕ). IsTrue (is_constant_tag k)) first is.valid.0 in absurd cc
enum_none d besides rest why (marks.Enum descriptor name) w is same = let long = is.within in why (omega arith) (subst (λ (k : ℕ). Allowed kinds.Value besides k 0) (omega arith) is.fills)
enum_none d besides rest why (marks.Class descriptor) w is same = let first : ◌≡◌ {A = ℕ} 99 101 = ap (λ (l : List ℕ). get_or l 0 0) same in absurd (omega arith)
enum_none d besides rest why marks.Nested w is same = let first : ◌≡◌ {A = ℕ} 64 101 = ap (λ (l : List ℕ). get_or l 0 0) same in absurd (omega arith)
enum_none d besides rest why (marks.Array count) w is same = let first : ◌≡◌ {A = ℕ} 91 101 = ap (λ (l : List ℕ). get_or l 0 0) same in absurd (omega arith)

pub enum_fault : (d : ℕ) (besides : Elements) (rest : List ℕ) → (4 ≤ length rest → Allowed kinds.Value besides (length rest - 4) 0 → ⊥) → StepFault kinds.Value d besides (101 ∷ rest) 0
enum_fault d besides rest why = record { within = omega arith; begins = λ never. absurd (omega arith); none = λ m w shallow is same. enum_none d besides rest why m w is same }

class_none : (d : ℕ) (besides : Elements) (rest : List ℕ) → (2 ≤ length rest → Allowed kinds.Value besides (length rest - 2) 0 → ⊥) → (m : Mark) (w : List ℕ) → IsNext kinds.Value d besides (length (99 ∷ rest)) m
    → take 1 (mark_bytes m ++ w) ≡ take 1 (99 ∷ rest) → ⊥
class_none d besides rest why (marks.List count) w is same = let k = is.of_kind in absurd cc
class_none d besides rest why (marks.Annotation class count) w is same = let k = is.of_kind in absurd cc
class_none d besides rest why (marks.Name name) w is same = let k = is.of_kind in absurd cc
class_none d besides rest why (marks.Constant t value) w is same =
    let first : t ≡ 99 = ap (λ (l : List ℕ). get_or l 0 0) same in let bad : false ≡ true = subst (λ (k : ℕ). IsTrue (is_constant_tag k)) first is.valid.0 in absurd cc
class_none d besides rest why (marks.Enum descriptor name) w is same = let first : ◌≡◌ {A = ℕ} 101 99 = ap (λ (l : List ℕ). get_or l 0 0) same in absurd (omega arith)
class_none d besides rest why (marks.Class descriptor) w is same = let long = is.within in why (omega arith) (subst (λ (k : ℕ). Allowed kinds.Value besides k 0) (omega arith) is.fills)
class_none d besides rest why marks.Nested w is same = let first : ◌≡◌ {A = ℕ} 64 99 = ap (λ (l : List ℕ). get_or l 0 0) same in absurd (omega arith)
class_none d besides rest why (marks.Array count) w is same = let first : ◌≡◌ {A = ℕ} 91 99 = ap (λ (l : List ℕ). get_or l 0 0) same in absurd (omega arith)

pub class_fault : (d : ℕ) (besides : Elements) (rest : List ℕ) → (2 ≤ length rest → Allowed kinds.Value besides (length rest - 2) 0 → ⊥) → StepFault kinds.Value d besides (99 ∷ rest) 0
class_fault d besides rest why = record { within = omega arith; begins = λ never. absurd (omega arith); none = λ m w shallow is same. class_none d besides rest why m w is same }

nested_none : (d : ℕ) (besides : Elements) (rest : List ℕ) → (Allowed kinds.Annotation besides (length rest) 1 → ⊥) → (m : Mark) (w : List ℕ) → IsNext kinds.Value d besides (length (64 ∷ rest)) m
    → take 1 (mark_bytes m ++ w) ≡ take 1 (64 ∷ rest) → ⊥
nested_none d besides rest why (marks.List count) w is same = let k = is.of_kind in absurd cc
nested_none d besides rest why (marks.Annotation class count) w is same = let k = is.of_kind in absurd cc
nested_none d besides rest why (marks.Name name) w is same = let k = is.of_kind in absurd cc
nested_none d besides rest why (marks.Constant t value) w is same =
    let first : t ≡ 64 = ap (λ (l : List ℕ). get_or l 0 0) same in let bad : false ≡ true = subst (λ (k : ℕ). IsTrue (is_constant_tag k)) first is.valid.0 in absurd cc
nested_none d besides rest why (marks.Enum descriptor name) w is same = let first : ◌≡◌ {A = ℕ} 101 64 = ap (λ (l : List ℕ). get_or l 0 0) same in absurd (omega arith)
nested_none d besides rest why (marks.Class descriptor) w is same = let first : ◌≡◌ {A = ℕ} 99 64 = ap (λ (l : List ℕ). get_or l 0 0) same in absurd (omega arith)
nested_none d besides rest why marks.Nested w is same = why (subst (λ (k : ℕ). Allowed kinds.Annotation besides k 1) (omega arith) is.fills)
nested_none d besides rest why (marks.Array count) w is same = let first : ◌≡◌ {A = ℕ} 91 64 = ap (λ (l : List ℕ). get_or l 0 0) same in absurd (omega arith)

pub nested_fault : (d : ℕ) (besides : Elements) (rest : List ℕ) → (Allowed kinds.Annotation besides (length rest) 1 → ⊥) → StepFault kinds.Value d besides (64 ∷ rest) 0
nested_fault d besides rest why = record { within = omega arith; begins = λ never. absurd (omega arith); none = λ m w shallow is same. nested_none d besides rest why m w is same }
