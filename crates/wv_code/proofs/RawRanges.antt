-- Ranges with offsets and numbers.
use Rattle.std.proofs.Common.{◌≡◌, ℕ, zero, suc, ◌+◌, ◌<◌, List, [], ◌∷◌, ◌++◌, length, get_or, take, Option, Some, None, refl, sym, ap, subst, arith, ◌⊎◌, inl, inr}
use Rattle.std.specs.Prelude.{slice_get}
use Rattle.std.specs.List.{AllByRecursion}
use Rattle.std.proofs.lemmas.List.{take_more}
use Rattle.wv_base.specs.declared.class_file.PoolEntry.{PoolEntry}
use Rattle.wv_base.specs.declared.class_file.ExceptionRange.{ExceptionRange}
use Rattle.wv_code.specs.declared.raw_body.RawRange.{RawRange}
use Rattle.wv_base.specs.declared.insn.Insn.{Insn}
use Rattle.wv_pool.proofs.Behind.{some_is}
use Rattle.wv_code.specs.Laying.{Stand}
use Rattle.wv_code.specs.Body.{Catches, IsRangeOf, AreRangesOf}
use Rattle.wv_code.specs.Breaks.{NamesClass, RangeBreaks, start, end, handler, catch}
use Rattle.wv_code.specs.FormedBody.{IsFormedRange}
use Rattle.wv_code.proofs.OffsetFrames.{all_get, ascends, before_end}

range_push : (pool : List PoolEntry) (offsets : List ℕ) (len : ℕ) (raws : List RawRange) (ranges : List ExceptionRange) (raw : RawRange) (r : ExceptionRange) → AreRangesOf pool offsets len raws ranges → IsRangeOf pool offsets len raw r
    → AreRangesOf pool offsets len (raws ++ raw ∷ []) (ranges ++ r ∷ [])
range_push pool offsets len [] [] raw r h k = (k, tt)
range_push pool offsets len [] (y ∷ ranges) raw r h k = absurd h
range_push pool offsets len (x ∷ raws) [] raw r h k = absurd h
range_push pool offsets len (x ∷ raws) (y ∷ ranges) raw r h k = (h.0, range_push pool offsets len raws ranges raw r h.1 k)

-- one range more
pub ranges_on : (pool : List PoolEntry) (offsets : List ℕ) (len : ℕ) (raws : List RawRange) (ranges : List ExceptionRange) (k : ℕ) (raw : RawRange) (d : ExceptionRange) → k < length ranges → AreRangesOf pool offsets len raws (take k ranges)
    → IsRangeOf pool offsets len raw (get_or ranges k d) → AreRangesOf pool offsets len (raws ++ raw ∷ []) (take (k + 1) ranges)
ranges_on pool offsets len raws ranges k raw d lt h one =
    subst (λ (front : List ExceptionRange). AreRangesOf pool offsets len (raws ++ raw ∷ []) front) (sym (take_more ranges k d lt)) (range_push pool offsets len raws (take k ranges) raw (get_or ranges k d) h one)

-- ---- no item of a written range breaks what it must meet

range_get : (pool : List PoolEntry) (offsets : List ℕ) (len : ℕ) (raws : List RawRange) (ranges : List ExceptionRange) (k : ℕ) (raw : RawRange) → AreRangesOf pool offsets len raws ranges → slice_get raws k ≡ Some raw
    → (r : ExceptionRange) × (slice_get ranges k ≡ Some r) × IsRangeOf pool offsets len raw r
range_get pool offsets len [] ranges k raw h e = absurd cc
range_get pool offsets len (x ∷ raws) [] k raw h e = absurd h
range_get pool offsets len (x ∷ raws) (r ∷ ranges) zero raw h e = (r, refl, subst (λ (z : RawRange). IsRangeOf pool offsets len z r) (some_is x raw e) h.0)
range_get pool offsets len (x ∷ raws) (r ∷ ranges) (suc k) raw h e = range_get pool offsets len raws ranges k raw h.1 e

catch_sound : (pool : List PoolEntry) (number : ℕ) (caught : Option (List ℕ)) → Catches pool number caught → (number ≡ 0) ⊎ NamesClass pool number
catch_sound pool number None h = inl h
catch_sound pool number (Some name) h = inr (name, h)

-- what is before the end in instructions is before it in bytes
before_raw : (pool : List PoolEntry) (insns : List Insn) (offsets : List ℕ) (len : ℕ) (raw : RawRange) (r : ExceptionRange) → Stand pool 0 insns offsets len → IsRangeOf pool offsets len raw r → r.start < r.end → raw.start < raw.end
before_raw pool insns offsets len raw r stand h lt = elim h.1 [
  | inl there ↦ ascends pool 0 insns offsets len stand r.start r.end raw.start raw.end lt h.0 there
  | inr last ↦ let within : raw.start < len = before_end pool 0 insns offsets len r.start raw.start stand h.0 in omega (arith, last.1)
]

range_sound : (pool : List PoolEntry) (insns : List Insn) (offsets : List ℕ) (len total : ℕ) (raw : RawRange) (r : ExceptionRange) (place : ℕ) → Stand pool 0 insns offsets len → IsRangeOf pool offsets len raw r → IsFormedRange total r → RangeBreaks pool offsets len raw place → ⊥
range_sound pool insns offsets len total raw r place stand h formed (start never) = never ((r.start, h.0), before_raw pool insns offsets len raw r stand h formed.0)
range_sound pool insns offsets len total raw r place stand h formed (end never) = never (elim h.1 [ inl there ↦ inl (r.end, there) | inr last ↦ inr last.1 ])
range_sound pool insns offsets len total raw r place stand h formed (handler never) = never (r.handler, h.2)
range_sound pool insns offsets len total raw r place stand h formed (catch never) = never (catch_sound pool raw.catch r.catch h.3)

pub ranges_sound : (pool : List PoolEntry) (insns : List Insn) (offsets : List ℕ) (len total : ℕ) (raws : List RawRange) (ranges : List ExceptionRange) (k : ℕ) (raw : RawRange) (place : ℕ) → Stand pool 0 insns offsets len → AreRangesOf pool offsets len raws ranges
    → AllByRecursion (IsFormedRange total) ranges → slice_get raws k ≡ Some raw → RangeBreaks pool offsets len raw place → ⊥
ranges_sound pool insns offsets len total raws ranges k raw place stand h formed e b =
    let found = range_get pool offsets len raws ranges k raw h e in
    range_sound pool insns offsets len total raw found.0 place stand found.2 (all_get (IsFormedRange total) ranges k found.0 formed found.1) b

pub as_many_ranges : (pool : List PoolEntry) (offsets : List ℕ) (len : ℕ) (raws : List RawRange) (ranges : List ExceptionRange) → AreRangesOf pool offsets len raws ranges → length raws ≡ length ranges
as_many_ranges pool offsets len [] [] h = refl
as_many_ranges pool offsets len [] (r ∷ ranges) h = absurd h
as_many_ranges pool offsets len (x ∷ raws) [] h = absurd h
as_many_ranges pool offsets len (x ∷ raws) (r ∷ ranges) h = ap suc (as_many_ranges pool offsets len raws ranges h.1)
