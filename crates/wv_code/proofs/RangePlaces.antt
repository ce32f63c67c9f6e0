-- The places of ranges.
use Rattle.std.proofs.Common.{◌≡◌, ℕ, ◌+◌, ◌<◌, List, Option, arith, inl, inr, ◌⊎◌}
use Rattle.wv_base.specs.declared.class_file.PoolEntry.{PoolEntry}
use Rattle.wv_code.specs.declared.raw_body.RawRange.{RawRange}
use Rattle.wv_code.specs.Breaks.{Starts, NamesClass, RangeBreaks, start, end, handler, catch}
use Rattle.wv_code.specs.Least.{IsLeastOf, lesser, Broken, Behind}
use Rattle.wv_code.proofs.LeastPlaces.{same, either}

module _ (pool : List PoolEntry) (offsets : List ℕ) (len : ℕ) (r : RawRange) where
  abbrev RangePlaces : ℕ → ℕ → Type 0
  RangePlaces base n =
      (Broken (Starts offsets r.start × (r.start < r.end)) base n ⊎ Broken (Starts offsets r.end ⊎ (r.end ≡ len)) (base + 2) n)
      ⊎ (Broken (Starts offsets r.handler) (base + 4) n ⊎ Broken ((r.catch ≡ 0) ⊎ NamesClass pool r.catch) (base + 6) n)

  places_of : (base n m : ℕ) → RangeBreaks pool offsets len r m → n ≡ base + m → RangePlaces base n
  places_of base n m (start h) e = inl (inl (omega (arith, e), h))
  places_of base n m (end h) e = inl (inr (e, h))
  places_of base n m (handler h) e = inr (inl (e, h))
  places_of base n m (catch h) e = inr (inr (e, h))

  breaks_of : (base n : ℕ) → RangePlaces base n → Behind base (RangeBreaks pool offsets len r) n
  breaks_of base n (inl (inl h)) = (0, start h.1, omega (arith, h.0))
  breaks_of base n (inl (inr h)) = (2, end h.1, h.0)
  breaks_of base n (inr (inl h)) = (4, handler h.1, h.0)
  breaks_of base n (inr (inr h)) = (6, catch h.1, h.0)

  pub range_least : (base : ℕ) {a b c d x y o : Option ℕ} → o ≡ lesser x y → x ≡ lesser a b → y ≡ lesser c d → IsLeastOf (Broken (Starts offsets r.start × (r.start < r.end)) base) a → IsLeastOf (Broken (Starts offsets r.end ⊎ (r.end ≡ len)) (base + 2)) b
      → IsLeastOf (Broken (Starts offsets r.handler) (base + 4)) c → IsLeastOf (Broken ((r.catch ≡ 0) ⊎ NamesClass pool r.catch) (base + 6)) d → IsLeastOf (Behind base (RangeBreaks pool offsets len r)) o
  range_least base e f g h k l m = same (λ n p. breaks_of base n p) (λ n b. places_of base n b.0 b.1 b.2) (either e (either f h k) (either g l m))
