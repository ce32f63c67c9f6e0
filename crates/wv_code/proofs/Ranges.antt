-- What sound ranges mean.
use Rattle.std.proofs.Common.{◌≡◌, ℕ, ◌+◌, ◌<◌, ◌≤◌, List, [], ◌∷◌, ◌++◌, length, get_or, take, None, sym, subst, ◌⊎◌, inl, inr, arith}
use Rattle.std.specs.List.{AllByRecursion}
use Rattle.std.specs.List.Sorted.{IsStrictlyIncreasing}
use Rattle.std.proofs.lemmas.Bool.{cases_eq}
use Rattle.std.proofs.lemmas.List.{take_more}
use Rattle.wv_base.specs.declared.class_file.PoolEntry.{PoolEntry}
use Rattle.wv_base.specs.declared.class_file.ExceptionRange.{ExceptionRange}
use Rattle.wv_pool.specs.Constants.{class_name}
use Rattle.wv_code.specs.declared.raw_body.RawRange.{RawRange}
use Rattle.wv_code.specs.Body.{IsRangeOf, AreRangesOf}
use Rattle.wv_code.specs.Breaks.{Starts, NamesClass}
use Rattle.wv_code.proofs.Lists.{AllByRecursion-at}
use Rattle.wv_code.proofs.Indices.{at_least}

-- there are no more instructions than bytes
pub few : (offsets : List ℕ) (len : ℕ) → IsStrictlyIncreasing offsets → AllByRecursion (λ o. o < len) offsets → length offsets ≤ len
few [] len ascend within = omega arith
few (o ∷ offsets) len ascend within =
    let last : ℕ = length offsets in
    let below : get_or (o ∷ offsets) last 0 < len = AllByRecursion-at (λ z. z < len) (o ∷ offsets) last 0 (omega arith) within in
    omega (arith, at_least (o ∷ offsets) last ascend (omega arith))

-- what is no start is the code's end
pub ends : (offsets : List ℕ) (len at : ℕ) → ((Starts offsets at ⊎ (at ≡ len) → ⊥) → ⊥) → (Starts offsets at → ⊥) → at ≡ len
ends offsets len at h none = elim (cases_eq at len) [
  | inl e ↦ e
  | inr ne ↦ absurd (h (λ either. elim either [ inl s ↦ none s | inr e ↦ ne e ]))
]

-- a number other than 0 names the class that is caught
pub caught : (pool : List PoolEntry) (number : ℕ) → (((number ≡ 0) ⊎ NamesClass pool number → ⊥) → ⊥) → (number ≡ 0 → ⊥) → class_name pool number ≡ None → ⊥
caught pool number h some none = h (λ either. elim either [ inl z ↦ some z | inr c ↦ let e = c.1 in cc ])

range_push : (pool : List PoolEntry) (offsets : List ℕ) (len : ℕ) (raws : List RawRange) (ranges : List ExceptionRange) (raw : RawRange) (r : ExceptionRange) → AreRangesOf pool offsets len raws ranges → IsRangeOf pool offsets len raw r
    → AreRangesOf pool offsets len (raws ++ raw ∷ []) (ranges ++ r ∷ [])
range_push pool offsets len [] [] raw r h k = (k, tt)
range_push pool offsets len [] (y ∷ ranges) raw r h k = absurd h
range_push pool offsets len (x ∷ raws) [] raw r h k = absurd h
range_push pool offsets len (x ∷ raws) (y ∷ ranges) raw r h k = (h.0, range_push pool offsets len raws ranges raw r h.1 k)

-- one range more
pub ranges_on : (pool : List PoolEntry) (offsets : List ℕ) (len : ℕ) (raws : List RawRange) (k : ℕ) (d : RawRange) (ranges : List ExceptionRange) (r : ExceptionRange) → k < length raws → AreRangesOf pool offsets len (take k raws) ranges
    → IsRangeOf pool offsets len (get_or raws k d) r → AreRangesOf pool offsets len (take (k + 1) raws) (ranges ++ r ∷ [])
ranges_on pool offsets len raws k d ranges r lt h is =
    subst (λ (front : List RawRange). AreRangesOf pool offsets len front (ranges ++ r ∷ [])) (sym (take_more raws k d lt)) (range_push pool offsets len (take k raws) ranges (get_or raws k d) r h is)
