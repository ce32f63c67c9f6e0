-- Bytes have one reading: a name or a fault.
use Rattle.std.proofs.Common.{◌≡◌, ℕ, zero, suc, ◌+◌, ◌-◌, ◌^◌, ◌<◌, ◌≤◌, List, [], ◌∷◌, ◌++◌, length, take, drop, Result, Ok, Err, refl, sym, ap, subst, ◌∙◌, inl, inr, arith, append_assoc, add-one}
use Rattle.std.proofs.lemmas.Bool.{cases_order}
use Rattle.std.proofs.lemmas.Bool.Decides.{nat_tests}
use Rattle.std.proofs.lemmas.List.{append-nil, take-append-drop, length-append, take-take}
use Rattle.std.proofs.lemmas.List.Concat.{flat_map-append}
use Rattle.std.proofs.Math.Seq.{take-append-add}
use Rattle.wv_base.specs.Modified.{unit_spelling, spelling, IsName, BeginsSpelling, IsFault, Reads}
use Rattle.wv_base.specs.ModifiedReading.{◌>>=◌, unit_at, unit_before, units_in, name_in}
use Rattle.wv_base.proofs.UnitSpelling.{ok_is, unit_again, unit_found, unit_faults}

IsName-append : (a b : List ℕ) → IsName a → IsName b → IsName (a ++ b)
IsName-append [] b is_a is_b = is_b
IsName-append (unit ∷ a) b is_a is_b = (is_a.0, IsName-append a b is_a.1 is_b)

-- bytes that begin as a unit does are read as that unit
reads_unit : (unit : ℕ) (rest bytes : List ℕ) → unit < 2 ^ 16 → bytes ≡ unit_spelling unit ++ rest → unit_at bytes ≡ Ok (unit, rest)
reads_unit unit rest bytes is e = rw e (unit_again unit rest is)

never_empty : (unit : ℕ) (rest : List ℕ) → unit < 2 ^ 16 → [] ≡ unit_spelling unit ++ rest → ⊥
unfolding unit_at
never_empty unit rest is e = absurd (cc (reads_unit unit rest [] is e))

unit_cancel : (a b : ℕ) (x y : List ℕ) → a < 2 ^ 16 → b < 2 ^ 16 → unit_spelling a ++ x ≡ unit_spelling b ++ y → (a ≡ b) × (x ≡ y)
unit_cancel a b x y is_a is_b e =
    let first : unit_at (unit_spelling a ++ x) ≡ Ok (a, x) = unit_again a x is_a in
    let second : unit_at (unit_spelling a ++ x) ≡ Ok (b, y) = reads_unit b y (unit_spelling a ++ x) is_b e in
    let same : (a, x) ≡ (b, y) = ok_is (a, x) (b, y) (sym first ∙ second) in
    (ap (λ (p : ℕ × List ℕ). p.0) same, ap (λ (p : ℕ × List ℕ). p.1) same)

-- what begins as one name's bytes goes on as another's
front_cancel : (front rest name : List ℕ) → IsName front → IsName name → spelling front ++ rest ≡ spelling name → (others : List ℕ) × IsName others × (name ≡ front ++ others) × (rest ≡ spelling others)
front_cancel [] rest name is_front is_name e = (name, is_name, refl, e)
front_cancel (a ∷ front) rest [] is_front is_name e = absurd (never_empty a (spelling front ++ rest) is_front.0 (sym e ∙ append_assoc (unit_spelling a) (spelling front) rest))
front_cancel (a ∷ front) rest (b ∷ name) is_front is_name e =
    let here = unit_cancel a b (spelling front ++ rest) (spelling name) is_front.0 is_name.0 (sym (append_assoc (unit_spelling a) (spelling front) rest) ∙ e) in
    let next = front_cancel front rest name is_front.1 is_name.1 here.1 in
    (next.0, next.1, cc, next.3)

-- no two names have one spelling
pub spelling_cancel : (a b : List ℕ) → IsName a → IsName b → spelling a ≡ spelling b → a ≡ b
spelling_cancel a b is_a is_b e =
    let found = front_cancel a [] b is_a is_b (append-nil (spelling a) ∙ e) in
    nothing_more a b found.0 found.1 found.2 found.3
  where
    nothing_more : (a b others : List ℕ) → IsName others → b ≡ a ++ others → [] ≡ spelling others → a ≡ b
    nothing_more a b [] is e none = sym (e ∙ append-nil a)
    nothing_more a b (unit ∷ others) is e none = absurd (never_empty unit (spelling others) is.0 none)

-- a shorter front begins a spelling too
shorter : (front : List ℕ) (k : ℕ) → BeginsSpelling front → BeginsSpelling (take k front)
shorter front k begins = (
  drop k front ++ begins.0,
  (
    begins.1.0,
    begins.1.1,
    sym (append_assoc (take k front) (drop k front) begins.0) ∙ ap (λ (t : List ℕ). t ++ begins.0) (take-append-drop k front) ∙ begins.1.2,
  ),
)

each_shorter : (bytes : List ℕ) (at : ℕ) → BeginsSpelling (take at bytes) → (k : ℕ) → k ≤ at → BeginsSpelling (take k bytes)
each_shorter bytes at begins k le = subst BeginsSpelling (take-take k at bytes le) (shorter (take at bytes) k begins)

unit_is_none : (bytes name : List ℕ) (at : ℕ) → 0 < length bytes → IsName name → unit_at bytes ≡ Err at → bytes ≡ spelling name → ⊥
unit_is_none [] name at some is err e = omega arith
unit_is_none (first ∷ bytes) [] at some is err e = absurd cc
unit_is_none (first ∷ bytes) (unit ∷ name) at some is err e = absurd (cc (reads_unit unit (spelling name) (first ∷ bytes) is.0 e))

-- a fault in the first unit is one of the bytes
pub unit_fault_is : (first : ℕ) (rest : List ℕ) (at : ℕ) → unit_at (first ∷ rest) ≡ Err at → IsFault (first ∷ rest) at
unit_fault_is first rest at e =
    let bytes : List ℕ = first ∷ rest in
    let faults = unit_faults bytes at e in
    let begins : BeginsSpelling (take at bytes) =
    (faults.begins.1, (faults.begins.0 ∷ [], (faults.begins.2, tt), faults.begins.3 ∙ sym (append-nil (unit_spelling faults.begins.0)))) in
    record {
      within = faults.within;
      not_spelled = λ is. unit_is_none bytes is.0 at (omega arith) is.1 e is.2;
      begins = each_shorter bytes at begins;
      none = λ lt more. unit_is_none (take (at + 1) bytes ++ more.0) more.1.0 at (rw add-one (omega arith)) more.1.1 (faults.again lt more.0) more.1.2;
    }

-- a fault behind a name's bytes
pub fault_behind : (front rest : List ℕ) (at : ℕ) → IsName front → IsFault rest at → IsFault (spelling front ++ rest) (length (spelling front) + at)
fault_behind front rest at is_front fault =
    let start : List ℕ = spelling front in
    let bytes : List ℕ = start ++ rest in
    let begun = fault.begins at (omega arith) in
    let begins : BeginsSpelling (take (length start + at) bytes) =
    rw (take-append-add start rest at) (
      begun.0,
      (
        front ++ begun.1.0,
        IsName-append front begun.1.0 is_front begun.1.1,
        append_assoc start (take at rest) begun.0 ∙ ap (λ (t : List ℕ). start ++ t) begun.1.2 ∙ sym (flat_map-append unit_spelling front begun.1.0),
      ),
    ) in
    record {
      within = omega (arith, length-append start rest);
      not_spelled = λ is. let behind = front_cancel front rest is.0 is_front is.1 is.2 in fault.not_spelled (behind.0, behind.1, behind.3);
      begins = each_shorter bytes (length start + at) begins;
      none = λ lt more.
          let e : take (length start + at + 1) bytes ≡ start ++ take (at + 1) rest = ap (λ k. take k bytes) (omega arith) ∙ take-append-add start rest (at + 1) in
          let more_is : start ++ (take (at + 1) rest ++ more.0) ≡ spelling more.1.0 = sym (append_assoc start (take (at + 1) rest) more.0) ∙ ap (λ (t : List ℕ). t ++ more.0) (sym e) ∙ more.1.2 in
          let behind = front_cancel front (take (at + 1) rest ++ more.0) more.1.0 is_front more.1.1 more_is in
          fault.none (omega (arith, length-append start rest)) (more.0, (behind.0, behind.1, behind.3));
    }

-- what is read of the bytes behind a unit is read behind it
reads_before : (unit : ℕ) (rest : List ℕ) (read : Result (List ℕ) ℕ) → unit < 2 ^ 16 → Reads rest read → Reads (unit_spelling unit ++ rest) (unit_before unit read)
reads_before unit rest (Ok name) is reads = ((is, reads.0), ap (λ (t : List ℕ). unit_spelling unit ++ t) reads.1)
reads_before unit rest (Err at) is reads =
    subst (λ (front : List ℕ). IsFault (front ++ rest) (length front + at)) (append-nil (unit_spelling unit)) (fault_behind (unit ∷ []) rest at (is, tt) reads)

unit_length : (unit : ℕ) → 0 < length (unit_spelling unit)
unit_length unit = grind (arith, nat_tests)

units_read : (most : ℕ) (bytes : List ℕ) → length bytes ≤ most → Reads bytes (units_in most bytes)
unfolding units_in
units_read zero [] fits = (tt, refl)
units_read zero (first ∷ rest) fits = absurd (omega arith)
units_read (suc most) [] fits = (tt, refl)
units_read (suc most) (first ∷ rest) fits = go (λ bytes shorter. units_read most bytes shorter) (unit_at (first ∷ rest)) refl
  where
    go : ((bytes : List ℕ) → length bytes ≤ most → Reads bytes (units_in most bytes)) → (found : Result (ℕ × List ℕ) ℕ) → unit_at (first ∷ rest) ≡ found → Reads (first ∷ rest) (found >>= λ x. unit_before x.0 (units_in most x.1))
    go behind (Ok x) e =
        let front = unit_found (first ∷ rest) x e in
        let shorter : length x.1 ≤ most = omega (arith, ap length front.0, length-append (unit_spelling x.0) x.1, unit_length x.0) in
        rw front.0 (reads_before x.0 x.1 (units_in most x.1) front.1 (behind x.1 shorter))
    go behind (Err at) e = unit_fault_is first rest at e

-- all bytes have a reading
pub name_read : (bytes : List ℕ) → Reads bytes (name_in bytes)
unfolding name_in
name_read bytes = units_read (length bytes) bytes (omega arith)

no_earlier : (bytes : List ℕ) (a b : ℕ) → IsFault bytes a → IsFault bytes b → a < b → ⊥
no_earlier bytes a b first second lt = first.none (omega arith) (second.begins (a + 1) (omega arith))

-- and no other one
pub one_reading : (bytes : List ℕ) (a b : Result (List ℕ) ℕ) → Reads bytes a → Reads bytes b → a ≡ b
one_reading bytes (Ok a) (Ok b) first second = ap (λ (name : List ℕ). Ok name) (spelling_cancel a b first.0 second.0 (sym first.1 ∙ second.1))
one_reading bytes (Ok a) (Err b) first second = absurd (second.not_spelled (a, first.0, first.1))
one_reading bytes (Err a) (Ok b) first second = absurd (first.not_spelled (b, second.0, second.1))
one_reading bytes (Err a) (Err b) first second =
    elim (cases_order a b) [
      | inl same ↦ ap (λ (at : ℕ). Err at) same
      | inr apart ↦ elim apart [
        | inl less ↦ absurd (no_earlier bytes a b first second less)
        | inr more ↦ absurd (no_earlier bytes b a second first more)
      ]
    ]

-- ---- reading unit by unit, as a loop does

-- what was read, and what is left of the bytes
pub record HasRead (bytes name rest : List ℕ) : Type 0 where
  pub spelled : bytes ≡ spelling name ++ rest
  pub units : IsName name

pub goes_on : (bytes name rest after : List ℕ) (unit : ℕ) → HasRead bytes name rest → Ok (unit, after) ≡ unit_at rest → HasRead bytes (name ++ unit ∷ []) after × (length after < length rest)
goes_on bytes name rest after unit has e =
    let found = unit_found rest (unit, after) (sym e) in
    let one : spelling (name ++ unit ∷ []) ≡ spelling name ++ unit_spelling unit = flat_map-append unit_spelling name (unit ∷ []) ∙ ap (λ (t : List ℕ). spelling name ++ t) (append-nil (unit_spelling unit)) in (
      record {
        spelled = has.spelled ∙ ap (λ (t : List ℕ). spelling name ++ t) found.0 ∙ sym (append_assoc (spelling name) (unit_spelling unit) after) ∙ ap (λ (t : List ℕ). t ++ after) (sym one);
        units = IsName-append name (unit ∷ []) has.units (found.1, tt);
      },
      omega (arith, ap length found.0, length-append (unit_spelling unit) after, unit_length unit),
    )

pub stops : (bytes name rest : List ℕ) (at : ℕ) → HasRead bytes name rest → 0 < length rest → Err at ≡ unit_at rest → Reads bytes (Err (length bytes - length rest + at))
stops bytes name [] at has some e = absurd (omega arith)
stops bytes name (first ∷ rest) at has some e =
    let place : length (spelling name) + at ≡ length bytes - length (first ∷ rest) + at = omega (arith, ap length has.spelled, length-append (spelling name) (first ∷ rest)) in
    subst (λ (k : ℕ). IsFault bytes k) place
    (subst (λ (t : List ℕ). IsFault t (length (spelling name) + at)) (sym has.spelled) (fault_behind name (first ∷ rest) at has.units (unit_fault_is first rest at (sym e))))

pub ends : (bytes name rest : List ℕ) → HasRead bytes name rest → rest ≡ [] → Reads bytes (Ok name)
ends bytes name rest has e = (has.units, has.spelled ∙ ap (λ (t : List ℕ). spelling name ++ t) e ∙ append-nil (spelling name))

-- the clauses on an answer
pub is_exact : (bytes : List ℕ) (read : Result (List ℕ) ℕ) → Reads bytes read → name_in bytes ≡ read
is_exact bytes read reads = one_reading bytes (name_in bytes) read (name_read bytes) reads

pub reads_it : (bytes : List ℕ) (read : Result (List ℕ) ℕ) → name_in bytes ≡ read → Reads bytes read
reads_it bytes read e = subst (Reads bytes) e (name_read bytes)
