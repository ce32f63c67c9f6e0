-- The places of an instruction's operands, kind by kind.
use Rattle.std.proofs.Common.{◌≡◌, ℕ, zero, suc, ◌+◌, ◌*◌, ◌^◌, ◌<◌, ◌≤◌, ◌↔◌, ℤ, Bool, true, false, List, length, get_or, Option, Some, None, refl, sym, ap, subst, ◌∙◌, arith, inl, inr, ◌⊎◌}
use Rattle.std.specs.Prelude.{slice_get, IsTrue, ◌==◌, ◌<ℤ◌, ◌≤ℤ◌, ◌-ℤ◌, int_le, unsigned_abs, FitsSigned, if◌then◌else◌}
use Rattle.std.specs.Int.{w32}
use Rattle.std.proofs.lemmas.Bool.{eqb-true, eq-eqb}
use Rattle.std.specs.Int.Signed.{clash_ℤ}
use Rattle.std.proofs.lemmas.Int.{by_lt_z, ints}
use Rattle.std.proofs.lemmas.Option.{none-some, slice_get-get_or, slice_get_within}
use Rattle.wv_base.specs.declared.class_file.PoolEntry.{PoolEntry}
use Rattle.wv_insn.specs.declared.raw.Raw.{Raw}
use Rattle.wv_insn.specs.declared.raw.Raw.TheVariants as raws
use Rattle.wv_insn.specs.declared.raw.RawCase.{RawCase}
use Rattle.wv_insn.specs.Spelling.{padding, targets}
use Rattle.wv_pool.specs.Constants.{class_name}
use Rattle.wv_pool.proofs.Behind.{some_is}
use Rattle.wv_code.specs.Breaks.{Lands, Loads, Takes, TakesInterface, TakesSite, NamesClass, InsnBreaks, load, branch, table_other, table_low, table_target, lookup_other, lookup_key, lookup_target, reference, interface, count, zero as zero_byte, site, class, array, multi, dimensions}
use Rattle.wv_code.specs.Least.{IsLeastOf, lesser, Broken, Behind, InItems}
use Rattle.wv_code.specs.Operands.{IsCountOf, HasDimensions}
use Rattle.wv_code.specs.Checking.{IsAbove, TargetBreaks, CaseBreaks}
use Rattle.wv_code.proofs.LeastPlaces.{same, either, broken_at}
use Rattle.wv_code.proofs.NamedOperands.{one_interface}

-- the same places, by cases on the instruction
abbrev pub InsnPlaces : List PoolEntry → List ℕ → ℕ → Raw → ℕ → Type 0
InsnPlaces pool offsets at (raws.Load op number) m = Broken (Loads pool op number) 1 m
InsnPlaces pool offsets at (raws.Branch op distance) m = Broken (Lands offsets at distance) 1 m
InsnPlaces pool offsets at (raws.Table low high other distances) m =
    (Broken (Lands offsets at other) (1 + padding at) m ⊎ Broken (low ≤ℤ high) (1 + padding at + 4) m) ⊎ InItems distances (TargetBreaks offsets at (1 + padding at + 12)) m
InsnPlaces pool offsets at (raws.Lookup other cases) m = Broken (Lands offsets at other) (1 + padding at) m ⊎ InItems cases (CaseBreaks offsets at cases (1 + padding at + 8)) m
InsnPlaces pool offsets at (raws.Reference op number) m = Broken (Takes pool op number) 1 m
InsnPlaces pool offsets at (raws.Interface number c last) m =
    (((m ≡ 1) × ((descriptor : List ℕ) → TakesInterface pool number descriptor → ⊥)) ⊎ ((descriptor : List ℕ) × TakesInterface pool number descriptor × Broken (IsCountOf descriptor c) 3 m))
    ⊎ Broken (last ≡ 0) 4 m
InsnPlaces pool offsets at (raws.Dynamic number) m = Broken (TakesSite pool number) 1 m
InsnPlaces pool offsets at (raws.Class op number) m = Broken (NamesClass pool number) 1 m
InsnPlaces pool offsets at (raws.NewArray kind) m = Broken ((4 ≤ kind) × (kind ≤ 11)) 1 m
InsnPlaces pool offsets at (raws.MultiArray number d) m =
    Broken (NamesClass pool number) 1 m ⊎ ((name : List ℕ) × (class_name pool number ≡ Some name) × Broken (HasDimensions name d) 3 m)
InsnPlaces pool offsets at _ m = ⊥

key_not_above : (cases : List RawCase) (k : ℕ) (before case : RawCase) → slice_get cases k ≡ Some before → case.key ≤ℤ before.key → IsAbove cases (k + 1) case → ⊥
key_not_above cases k before case is le above = clash_ℤ (above k before refl is) le

pub places_of : (pool : List PoolEntry) (offsets : List ℕ) (at : ℕ) (r : Raw) (m : ℕ) → InsnBreaks pool offsets at r m → InsnPlaces pool offsets at r m
places_of pool offsets at r m (load un) = (refl, un)
places_of pool offsets at r m (branch un) = (refl, un)
places_of pool offsets at r m (table_other un) = inl (inl (refl, un))
places_of pool offsets at r m (table_low above) = inl (inr (refl, λ le. clash_ℤ above le))
places_of pool offsets at r m (table_target k distance is un) = inr (k, distance, is, (refl, un))
places_of pool offsets at r m (lookup_other un) = inl (refl, un)
places_of pool offsets at r m (lookup_key k before case here is le) = inr (k + 1, case, is, inl (refl, λ above. key_not_above _ k before case here le above))
places_of pool offsets at r m (lookup_target k case is un) = inr (k, case, is, inr (omega arith, un))
places_of pool offsets at r m (reference un) = (refl, un)
places_of pool offsets at r m (interface un) = inl (inl (refl, un))
places_of pool offsets at r m (count {descriptor = descriptor} takes un) = inl (inr (descriptor, takes, (refl, λ is. un is.0 is.1 is.2)))
places_of pool offsets at r m (zero_byte un) = inr (refl, un)
places_of pool offsets at r m (site un) = (refl, un)
places_of pool offsets at r m (class un) = (refl, un)
places_of pool offsets at r m (array un) = (refl, un)
places_of pool offsets at r m (multi un) = inl (refl, un)
places_of pool offsets at r m (dimensions {name = name} is un) = inr (name, is, (refl, un))

module _ (pool : List PoolEntry) (offsets : List ℕ) (at : ℕ) where
  -- at another spelling of its place
  placed : (r : Raw) (m n : ℕ) → m ≡ n → InsnBreaks pool offsets at r m → InsnBreaks pool offsets at r n
  placed r m n e h = subst (InsnBreaks pool offsets at r) e h

  key_breaks : (other : ℤ) (cases : List RawCase) (k : ℕ) (case : RawCase) → slice_get cases k ≡ Some case → (IsAbove cases k case → ⊥) → InsnBreaks pool offsets at (raws.Lookup other cases) (1 + padding at + 8 + 8 * k)
  key_breaks other cases zero case is un = absurd (un (λ j before e there. absurd (omega (arith, e))))
  key_breaks other cases (suc k) case is un =
      let within : suc k < length cases = slice_get_within cases (suc k) case is in
      let before : RawCase = get_or cases k case in
      let there : slice_get cases k ≡ Some before = slice_get-get_or cases k case (omega arith) in
      by_lt_z before.key case.key
      (λ lt. absurd (un (λ j other e is_other. let one : k ≡ j = omega (arith, e) in let same : before ≡ other = some_is before other (sym there ∙ subst (λ (z : ℕ). slice_get cases z ≡ Some other) (sym one) is_other) in subst (λ (z : RawCase). z.key <ℤ case.key) same lt)))
      (λ le. let one : k + 1 ≡ suc k = omega arith in subst (λ (z : ℕ). InsnBreaks pool offsets at (raws.Lookup other cases) (1 + padding at + 8 + 8 * z)) one (lookup_key k before case there (subst (λ (z : ℕ). slice_get cases z ≡ Some case) (sym one) is) le))

  pub breaks_of : (r : Raw) (m : ℕ) → InsnPlaces pool offsets at r m → InsnBreaks pool offsets at r m
  breaks_of (raws.Load op number) m h = placed (raws.Load op number) 1 m (sym h.0) (load h.1)
  breaks_of (raws.Branch op distance) m h = placed (raws.Branch op distance) 1 m (sym h.0) (branch h.1)
  breaks_of (raws.Table low high other distances) m (inl (inl h)) = placed (raws.Table low high other distances) (1 + padding at) m (sym h.0) (table_other h.1)
  breaks_of (raws.Table low high other distances) m (inl (inr h)) = placed (raws.Table low high other distances) (1 + padding at + 4) m (sym h.0) (by_lt_z high low (λ lt. table_low lt) (λ le. absurd (h.1 le)))
  breaks_of (raws.Table low high other distances) m (inr h) = placed (raws.Table low high other distances) (1 + padding at + 12 + 4 * h.0) m (sym h.3.0) (table_target h.0 h.1 h.2 h.3.1)
  breaks_of (raws.Lookup other cases) m (inl h) = placed (raws.Lookup other cases) (1 + padding at) m (sym h.0) (lookup_other h.1)
  breaks_of (raws.Lookup other cases) m (inr (k, case, is, inl h)) = placed (raws.Lookup other cases) (1 + padding at + 8 + 8 * k) m (sym h.0) (key_breaks other cases k case is h.1)
  breaks_of (raws.Lookup other cases) m (inr (k, case, is, inr h)) = placed (raws.Lookup other cases) (1 + padding at + 12 + 8 * k) m (omega (arith, h.0)) (lookup_target k case is h.1)
  breaks_of (raws.Reference op number) m h = placed (raws.Reference op number) 1 m (sym h.0) (reference h.1)
  breaks_of (raws.Interface number c last) m (inl (inl h)) = placed (raws.Interface number c last) 1 m (sym h.0) (interface h.1)
  breaks_of (raws.Interface number c last) m (inl (inr h)) = placed (raws.Interface number c last) 3 m (sym h.2.0) (count h.1 (λ words has is. h.2.1 (words, has, is)))
  breaks_of (raws.Interface number c last) m (inr h) = placed (raws.Interface number c last) 4 m (sym h.0) (zero_byte h.1)
  breaks_of (raws.Dynamic number) m h = placed (raws.Dynamic number) 1 m (sym h.0) (site h.1)
  breaks_of (raws.Class op number) m h = placed (raws.Class op number) 1 m (sym h.0) (class h.1)
  breaks_of (raws.NewArray kind) m h = placed (raws.NewArray kind) 1 m (sym h.0) (array h.1)
  breaks_of (raws.MultiArray number d) m (inl h) = placed (raws.MultiArray number d) 1 m (sym h.0) (multi h.1)
  breaks_of (raws.MultiArray number d) m (inr h) = placed (raws.MultiArray number d) 3 m (sym h.2.0) (dimensions h.1 h.2.1)
  breaks_of _ m h = absurd h

-- ---- the least of them, behind a base

pub insn_least : (pool : List PoolEntry) (offsets : List ℕ) (at base : ℕ) (r : Raw) {o : Option ℕ} → IsLeastOf (Behind base (InsnPlaces pool offsets at r)) o → IsLeastOf (Behind base (InsnBreaks pool offsets at r)) o
insn_least pool offsets at base r h = same (λ n b. (b.0, breaks_of pool offsets at r b.0 b.1, b.2)) (λ n b. (b.0, places_of pool offsets at r b.0 b.1, b.2)) h

pub asked_behind : (A : Type 0) (base place full : ℕ) {o : Option ℕ} → full ≡ base + place → IsLeastOf (Broken A full) o → IsLeastOf (Behind base (λ m. Broken A place m)) o
asked_behind A base place full e h = same (λ n k. (place, (refl, k.1), k.0 ∙ e)) (λ n b. (b.2 ∙ ap (λ (z : ℕ). base + z) b.1.0 ∙ sym e, b.1.1)) h

pub either_behind : {P Q : ℕ → Type 0} {a b o : Option ℕ} (base : ℕ) → o ≡ lesser a b → IsLeastOf (Behind base P) a → IsLeastOf (Behind base Q) b → IsLeastOf (Behind base (λ m. P m ⊎ Q m)) o
either_behind {P = P} {Q = Q} base e h k = same (λ n q. to n q) (λ n b. from n b) (either e h k)
  where
    to : (n : ℕ) → Behind base P n ⊎ Behind base Q n → Behind base (λ m. P m ⊎ Q m) n
    to n (inl b) = (b.0, inl b.1, b.2)
    to n (inr b) = (b.0, inr b.1, b.2)

    from : (n : ℕ) → Behind base (λ m. P m ⊎ Q m) n → Behind base P n ⊎ Behind base Q n
    from n (m, inl p, e) = inl (m, p, e)
    from n (m, inr q, e) = inr (m, q, e)

pub targets_behind : (offsets : List ℕ) (at : ℕ) (distances : List ℤ) (base place full : ℕ) {o : Option ℕ} → full ≡ base + place → IsLeastOf (InItems distances (TargetBreaks offsets at full)) o → IsLeastOf (Behind base (λ m. InItems distances (TargetBreaks offsets at place) m)) o
targets_behind offsets at distances base place full e h = same
    (λ n q. (place + 4 * q.0, (q.0, q.1, q.2, (refl, q.3.1)), omega (arith, q.3.0, e)))
    (λ n b. (b.1.0, b.1.1, b.1.2, (omega (arith, b.2, b.1.3.0, e), b.1.3.1))) h

pub cases_behind : (offsets : List ℕ) (at : ℕ) (cases : List RawCase) (base place full : ℕ) {o : Option ℕ} → full ≡ base + place → IsLeastOf (InItems cases (CaseBreaks offsets at cases full)) o
    → IsLeastOf (Behind base (λ m. InItems cases (CaseBreaks offsets at cases place) m)) o
cases_behind offsets at cases base place full e h = same (λ n q. to n q) (λ n b. from n b) h
  where
    to : (n : ℕ) → InItems cases (CaseBreaks offsets at cases full) n → Behind base (λ m. InItems cases (CaseBreaks offsets at cases place) m) n
    to n (k, case, is, inl q) = (place + 8 * k, (k, case, is, inl (refl, q.1)), omega (arith, q.0, e))
    to n (k, case, is, inr q) = (place + 8 * k + 4, (k, case, is, inr (refl, q.1)), omega (arith, q.0, e))

    from : (n : ℕ) → Behind base (λ m. InItems cases (CaseBreaks offsets at cases place) m) n → InItems cases (CaseBreaks offsets at cases full) n
    from n (m, (k, case, is, inl q), b) = (k, case, is, inl (omega (arith, q.0, b, e), q.1))
    from n (m, (k, case, is, inr q), b) = (k, case, is, inr (omega (arith, q.0, b, e), q.1))

-- ---- kinds whose places depend on what a number names

module _ (pool : List PoolEntry) (number base : ℕ) where
  pub multi_some : (offsets : List ℕ) (at d : ℕ) (name : List ℕ) {o : Option ℕ} → class_name pool number ≡ Some name → IsLeastOf (Broken (HasDimensions name d) (base + 3)) o
      → IsLeastOf (Behind base (InsnBreaks pool offsets at (raws.MultiArray number d))) o
  multi_some offsets at d name is h = insn_least pool offsets at base (raws.MultiArray number d) (same (λ n k. (3, inr (name, is, (refl, k.1)), k.0)) (λ n b. from n b) h)
    where
      from : (n : ℕ) → Behind base (InsnPlaces pool offsets at (raws.MultiArray number d)) n → Broken (HasDimensions name d) (base + 3) n
      from n (m, inl q, e) = absurd (q.1 (name, is))
      from n (m, inr (other, named, q), e) =
          let one : name ≡ other = some_is name other (sym is ∙ named) in
          (e ∙ ap (λ (z : ℕ). base + z) q.0, λ has. q.1 (subst (λ (z : List ℕ). HasDimensions z d) one has))

  pub multi_none : (offsets : List ℕ) (at d : ℕ) → class_name pool number ≡ None → IsLeastOf (Behind base (InsnBreaks pool offsets at (raws.MultiArray number d))) (Some (base + 1))
  multi_none offsets at d none = insn_least pool offsets at base (raws.MultiArray number d) (same (λ n k. (1, inl (refl, k.1), k.0)) (λ n b. from n b) (broken_at (NamesClass pool number) (base + 1) unnamed))
    where
      unnamed : NamesClass pool number → ⊥
      unnamed c = none-some c.0 (sym none ∙ c.1)

      from : (n : ℕ) → Behind base (InsnPlaces pool offsets at (raws.MultiArray number d)) n → Broken (NamesClass pool number) (base + 1) n
      from n (m, inl q, e) = (e ∙ ap (λ (z : ℕ). base + z) q.0, q.1)
      from n (m, inr (name, named, q), e) = absurd (unnamed (name, named))

  abbrev Named : ℕ → ℕ → Type 0
  Named c m = ((m ≡ 1) × ((descriptor : List ℕ) → TakesInterface pool number descriptor → ⊥)) ⊎ ((descriptor : List ℕ) × TakesInterface pool number descriptor × Broken (IsCountOf descriptor c) 3 m)

  pub interface_some : (offsets : List ℕ) (at c last : ℕ) (descriptor : List ℕ) {a b o : Option ℕ} → TakesInterface pool number descriptor → o ≡ lesser a b → IsLeastOf (Broken (IsCountOf descriptor c) (base + 3)) a → IsLeastOf (Broken (last ≡ 0) (base + 4)) b
      → IsLeastOf (Behind base (InsnBreaks pool offsets at (raws.Interface number c last))) o
  interface_some offsets at c last descriptor takes e h k =
      insn_least pool offsets at base (raws.Interface number c last) (either_behind base e (same (λ n q. (3, inr (descriptor, takes, (refl, q.1)), q.0)) (λ n b. from n b) h) (asked_behind (last ≡ 0) base 4 (base + 4) refl k))
    where
      from : (n : ℕ) → Behind base (Named c) n → Broken (IsCountOf descriptor c) (base + 3) n
      from n (m, inl q, e) = absurd (q.1 descriptor takes)
      from n (m, inr (other, takes_other, q), e) =
          let one : descriptor ≡ other = one_interface pool number descriptor other takes takes_other in
          (e ∙ ap (λ (z : ℕ). base + z) q.0, λ is. q.1 (subst (λ (z : List ℕ). IsCountOf z c) one is))

  pub interface_none : (offsets : List ℕ) (at c last : ℕ) {b o : Option ℕ} → ((descriptor : List ℕ) → TakesInterface pool number descriptor → ⊥) → o ≡ lesser (Some (base + 1)) b → IsLeastOf (Broken (last ≡ 0) (base + 4)) b
      → IsLeastOf (Behind base (InsnBreaks pool offsets at (raws.Interface number c last))) o
  interface_none offsets at c last none e k =
      insn_least pool offsets at base (raws.Interface number c last)
      (either_behind base e (same (λ n q. (1, inl (refl, none), q.0)) (λ n b. from n b) (broken_at ⊥ (base + 1) (λ z. z))) (asked_behind (last ≡ 0) base 4 (base + 4) refl k))
    where
      from : (n : ℕ) → Behind base (Named c) n → Broken ⊥ (base + 1) n
      from n (m, inl q, e) = (e ∙ ap (λ (z : ℕ). base + z) q.0, λ z. z)
      from n (m, inr (other, takes_other, q), e) = absurd (none other takes_other)

-- a tableswitch has at most 2^32 distances
pub distances_few : (low high : ℤ) → FitsSigned w32 low → FitsSigned w32 high → targets low high ≤ 2 ^ 32
unfolding targets
distances_few low high a b = either_small (int_le low high) (unsigned_abs (high -ℤ low) + 1) (omega (arith, ints, a.sfits, b.sfits))
  where
    either_small : (t : Bool) (n : ℕ) → n ≤ 2 ^ 32 → (if t then n else 0) ≤ 2 ^ 32
    either_small true n h = h
    either_small false n h = omega arith

-- what is asked of numbers
pub is_zero : (n : ℕ) → IsTrue (n == 0) ↔ (n ≡ 0)
is_zero n = ((λ t. eqb-true n 0 t), (λ e. eq-eqb n 0 e))

-- a switch's places, behind its opcode
pub table_least : (pool : List PoolEntry) (offsets : List ℕ) (at base place : ℕ) (low high other : ℤ) (distances : List ℤ) {a b c o t : Option ℕ} → place ≡ base + (1 + padding at) → o ≡ lesser t c → t ≡ lesser a b
    → IsLeastOf (Broken (Lands offsets at other) place) a → IsLeastOf (Broken (low ≤ℤ high) (place + 4)) b → IsLeastOf (InItems distances (TargetBreaks offsets at (place + 12))) c
    → IsLeastOf (Behind base (InsnBreaks pool offsets at (raws.Table low high other distances))) o
table_least pool offsets at base place low high other distances is e f h k l =
    insn_least pool offsets at base (raws.Table low high other distances)
    (either_behind base e
    (either_behind base f (asked_behind (Lands offsets at other) base (1 + padding at) place is h) (asked_behind (low ≤ℤ high) base (1 + padding at + 4) (place + 4) (behind_more 4) k))
    (targets_behind offsets at distances base (1 + padding at + 12) (place + 12) (behind_more 12) l))
  where
    behind_more : (n : ℕ) → place + n ≡ base + (1 + padding at + n)
    behind_more n = omega (arith, is)

pub lookup_least : (pool : List PoolEntry) (offsets : List ℕ) (at base place : ℕ) (other : ℤ) (cases : List RawCase) {a b o : Option ℕ} → place ≡ base + (1 + padding at) → o ≡ lesser a b
    → IsLeastOf (Broken (Lands offsets at other) place) a → IsLeastOf (InItems cases (CaseBreaks offsets at cases (place + 8))) b → IsLeastOf (Behind base (InsnBreaks pool offsets at (raws.Lookup other cases))) o
lookup_least pool offsets at base place other cases is e h k =
    insn_least pool offsets at base (raws.Lookup other cases)
    (either_behind base e (asked_behind (Lands offsets at other) base (1 + padding at) place is h) (cases_behind offsets at cases base (1 + padding at + 8) (place + 8) (omega (arith, is)) k))

-- of a kind with one operand, or none
pub one_least : (pool : List PoolEntry) (offsets : List ℕ) (at base : ℕ) (r : Raw) (A : Type 0) {o : Option ℕ} → ((m : ℕ) → InsnPlaces pool offsets at r m → Broken A 1 m) → ((m : ℕ) → Broken A 1 m → InsnPlaces pool offsets at r m)
    → IsLeastOf (Broken A (base + 1)) o → IsLeastOf (Behind base (InsnBreaks pool offsets at r)) o
one_least pool offsets at base r A f g h =
    insn_least pool offsets at base r (same (λ n b. (b.0, g b.0 b.1, b.2)) (λ n b. (b.0, f b.0 b.1, b.2)) (asked_behind A base 1 (base + 1) refl h))
