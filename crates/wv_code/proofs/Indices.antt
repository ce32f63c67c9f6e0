-- The indices of instructions, by offsets and by distances.
use Rattle.std.proofs.Common.{◌≡◌, ℕ, zero, suc, ◌<◌, ◌≤◌, ℤ, List, [], ◌∷◌, length, get_or, Some, ap, ◌∙◌, ◌⊎◌, inl, inr, arith, add-one}
use Rattle.std.specs.Prelude.{slice_get, pos, ◌+ℤ◌}
use Rattle.std.specs.Int.{w32, FitsUnsigned}
use Rattle.std.specs.Int.RustNames.{unsigned_abs}
use Rattle.std.specs.List.Sorted.{IsStrictlyIncreasing}
use Rattle.std.proofs.lemmas.Bool.{cases_order}
use Rattle.std.proofs.lemmas.Int.{ints}
use Rattle.std.proofs.lemmas.Option.{slice_get-get_or, slice_get_within, get_or_from_slice_get}
use Rattle.wv_code.specs.Breaks.{Starts, Lands}
use Rattle.wv_code.specs.Meaning.{Leads}

-- as many numbers are below an offset as offsets
pub at_least : (xs : List ℕ) (i : ℕ) → IsStrictlyIncreasing xs → i < length xs → i ≤ get_or xs i 0
at_least xs zero h lt = omega arith
at_least xs (suc i) h lt = let before : i ≤ get_or xs i 0 = at_least xs i h (omega arith) in omega (arith, rw add-one at (h i (omega arith)))

pub index_small : (xs : List ℕ) (i x : ℕ) → IsStrictlyIncreasing xs → slice_get xs i ≡ Some x → i ≤ x
index_small xs i x h e = omega (arith, at_least xs i h (slice_get_within xs i x e), get_or_from_slice_get xs i x 0 e)

pub ascend : (xs : List ℕ) (i j : ℕ) → IsStrictlyIncreasing xs → i < j → j < length xs → get_or xs i 0 < get_or xs j 0
ascend xs i zero h lt within = absurd (omega arith)
ascend xs i (suc j) h lt within = elim (cases_order i j) [
  | inl e ↦ rw e (rw add-one at (h j (omega arith)))
  | inr (inl below) ↦ let before : get_or xs i 0 < get_or xs j 0 = ascend xs i j h below (omega arith) in omega (arith, rw add-one at (h j (omega arith)))
  | inr (inr above) ↦ absurd (omega arith)
]

-- one instruction starts at an offset
pub one_index : (xs : List ℕ) (i j x : ℕ) → IsStrictlyIncreasing xs → slice_get xs i ≡ Some x → slice_get xs j ≡ Some x → i ≡ j
one_index xs i j x h e f =
    let at_i : get_or xs i 0 ≡ x = get_or_from_slice_get xs i x 0 e in
    let at_j : get_or xs j 0 ≡ x = get_or_from_slice_get xs j x 0 f in
    elim (cases_order i j) [
      | inl same ↦ same
      | inr (inl below) ↦ absurd (omega (arith, ascend xs i j h below (slice_get_within xs j x f)))
      | inr (inr above) ↦ absurd (omega (arith, ascend xs j i h above (slice_get_within xs i x e)))
    ]

elsewhere : (k : ℕ) (y : ℕ) (xs : List ℕ) (x : ℕ) → (y < x) ⊎ (x < y) → (Starts xs x → ⊥) → slice_get (y ∷ xs) k ≡ Some x → ⊥
elsewhere zero y xs x apart none e = let same : y ≡ x = cc in elim apart [ inl l ↦ omega arith | inr l ↦ omega arith ]
elsewhere (suc k) y xs x apart none e = none (k, e)

-- an instruction starts there, or none does
pub starts_or : (xs : List ℕ) (x : ℕ) → Starts xs x ⊎ (Starts xs x → ⊥)
starts_or [] x = inr (λ s. let e = s.1 in cc)
starts_or (y ∷ xs) x = elim (cases_order y x) [
  | inl e ↦ inl (0, ap (λ (z : ℕ). Some z) e)
  | inr apart ↦ elim (starts_or xs x) [
    | inl s ↦ inl (suc s.0, s.1)
    | inr none ↦ inr (λ s. elsewhere s.0 y xs x apart none s.1)
  ]
]

pub starts : (xs : List ℕ) (x : ℕ) → ((Starts xs x → ⊥) → ⊥) → Starts xs x
starts xs x h = elim (starts_or xs x) [ inl s ↦ s | inr none ↦ absurd (h none) ]

-- ---- distances

pub lands_at : (offsets : List ℕ) (at to index : ℕ) (distance : ℤ) → pos to ≡ pos at +ℤ distance → slice_get offsets index ≡ Some to → Leads offsets at distance index
lands_at offsets at to index distance e found = (slice_get_within offsets index to found, ap pos (get_or_from_slice_get offsets index to 0 found) ∙ e)

pub lands_nowhere : (offsets : List ℕ) (at to : ℕ) (distance : ℤ) → pos to ≡ pos at +ℤ distance → (Starts offsets to → ⊥) → Lands offsets at distance → ⊥
lands_nowhere offsets at to distance e none h =
    let same : get_or offsets h.0 0 ≡ to = cc in
    none (h.0, slice_get-get_or offsets h.0 0 h.1.0 ∙ ap (λ (z : ℕ). Some z) same)

-- the sum of an offset and a distance that is a number
pub sum_is : (at to : ℕ) (distance : ℤ) → FitsUnsigned w32 (pos at +ℤ distance) → to ≡ unsigned_abs (pos at +ℤ distance) → pos to ≡ pos at +ℤ distance
sum_is at to distance fits e = grind (arith, ints)
