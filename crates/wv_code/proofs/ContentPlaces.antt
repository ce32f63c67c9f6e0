-- The places of a Code attribute's content.
use Rattle.std.proofs.Common.{◌≡◌, ℕ, ◌+◌, ◌*◌, ◌<◌, ◌≤◌, ◌↔◌, Bool, true, false, List, [], ◌∷◌, length, get_or, take, Option, Some, None, refl, sym, ap, subst, ◌∙◌, arith, inl, inr, ◌⊎◌}
use Rattle.std.specs.Prelude.{slice_get, IsTrue, IfSome, IfNone, not}
use Rattle.std.specs.List.{flat_map, AllByRecursion}
use Rattle.std.proofs.lemmas.Bool.{cases_lt}
use Rattle.std.proofs.lemmas.List.{length-append, length-take-le}
use Rattle.std.proofs.lemmas.Option.{slice_get-get_or, slice_get_within, get_or_from_slice_get}
use Rattle.wv_base.specs.declared.class_file.PoolEntry.{PoolEntry}
use Rattle.wv_base.specs.declared.class_file.Attribute.{Attribute}
use Rattle.wv_base.specs.declared.frame.Frame.{Frame}
use Rattle.wv_insn.specs.declared.raw.Raw.{Raw}
use Rattle.wv_insn.specs.Spelling.{IsTyped, IsInstruction}
use Rattle.wv_frames.specs.declared.raw.RawFrame.{RawFrame}
use Rattle.wv_pool.proofs.Behind.{some_is}
use Rattle.wv_code.specs.declared.splitting.RawCode.{RawCode}
use Rattle.wv_code.specs.declared.raw_body.RawRange.{RawRange}
use Rattle.wv_code.specs.declared.raw_body.RawAttribute.{RawAttribute}
use Rattle.wv_code.specs.declared.raw_body.RawAttribute.TheVariants as attributes
use Rattle.wv_code.specs.declared.raw_body.RawBody.{RawBody}
use Rattle.wv_code.specs.Code.{Follow}
use Rattle.wv_code.specs.Content.{range_bytes, attribute_bytes, IsContent}
use Rattle.wv_code.specs.Breaks.{FramesBreak, InsnBreaks, Breaks, len, insn, range, twice, frame, attribute_place, FirstBreak, IsSound}
use Rattle.wv_code.specs.Least.{IsLeastOf, lesser, unless, Broken, Behind, InItems}
use Rattle.wv_code.specs.Checking.{AreStarts, InsnAtBreaks, RangeAtBreaks, IsTable, HasTable, AttributeBreaks, AttributeAtBreaks}
use Rattle.wv_code.proofs.Starts.{follow_many, follow_below, follow_ascends}
use Rattle.wv_code.proofs.LeastPlaces.{none_of, same, either, taken_front, taken_within}

-- ---- the instructions of a content

follow_instructions : (code : List ℕ) (at : ℕ) (raws : List Raw) (offsets : List ℕ) (end : ℕ) → Follow code at raws offsets end → AllByRecursion IsTyped raws × AllByRecursion IsInstruction raws
follow_instructions code at [] [] end h = (tt, tt)
follow_instructions code at [] (o ∷ offsets) end h = absurd h
follow_instructions code at (r ∷ raws) [] end h = absurd h
follow_instructions code at (r ∷ raws) (o ∷ offsets) end h =
    let rest = follow_instructions code (at + h.1.0) raws offsets end h.1.2 in ((h.1.1.spelled.typed, rest.0), (h.1.1.spelled.instruction, rest.1))

pub content_starts : (pool : List PoolEntry) (raw : RawBody) (bytes : List ℕ) → IsContent pool raw bytes → AreStarts raw.code raw.len
content_starts pool raw bytes h = record {
  ascend = follow_ascends h.code 0 raw.code.raws raw.code.offsets raw.len h.follow;
  many = follow_many h.code 0 raw.code.raws raw.code.offsets raw.len h.follow;
  within = follow_below h.code 0 raw.code.raws raw.code.offsets raw.len h.follow;
  typed = (follow_instructions h.code 0 raw.code.raws raw.code.offsets raw.len h.follow).0;
  instructions = (follow_instructions h.code 0 raw.code.raws raw.code.offsets raw.len h.follow).1;
}

-- ---- attributes

not_there : IsTrue false → ⊥
not_there e = absurd cc

pub attribute_table : (pool : List PoolEntry) (first : Frame) (code : RawCode) (before : List RawAttribute) (name base : ℕ) (fs : List RawFrame) (seen : Bool) {a b o : Option ℕ} → IsTrue seen ↔ HasTable before → o ≡ lesser a b → a ≡ unless (not seen) base
    → IsLeastOf (Behind (base + 6) (FramesBreak pool first code fs)) b → IsLeastOf (Behind base (AttributeBreaks pool first code before (attributes.Frames name fs))) o
attribute_table pool first code before name base fs seen {a = a} there e f h = same (λ n q. to n q) (λ n b. from n b) (either e (table seen there a f) h)
  where
    table : (s : Bool) → IsTrue s ↔ HasTable before → (a : Option ℕ) → a ≡ unless (not s) base → IsLeastOf (λ n. (n ≡ base) × HasTable before) a
    table true t a f = subst (IsLeastOf (λ n. (n ≡ base) × HasTable before)) (sym f) (record { holds = (refl, t.0 refl); least = λ n k. omega (arith, k.0) })
    table false t a f = subst (IsLeastOf (λ n. (n ≡ base) × HasTable before)) (sym f) (none_of (λ n k. not_there (t.1 k.1)))

    to : (n : ℕ) → ((n ≡ base) × HasTable before) ⊎ Behind (base + 6) (FramesBreak pool first code fs) n → Behind base (AttributeBreaks pool first code before (attributes.Frames name fs)) n
    to n (inl k) = (0, inl (refl, tt, k.1), omega (arith, k.0))
    to n (inr k) = (6 + k.0, inr (k.0, k.1, refl), omega (arith, k.2))

    from : (n : ℕ) → Behind base (AttributeBreaks pool first code before (attributes.Frames name fs)) n → ((n ≡ base) × HasTable before) ⊎ Behind (base + 6) (FramesBreak pool first code fs) n
    from n (m, inl k, e) = inl (omega (arith, e, k.0), k.2)
    from n (m, inr k, e) = inr (k.0, k.1, omega (arith, e, k.2))

pub attribute_kept : (pool : List PoolEntry) (first : Frame) (code : RawCode) (before : List RawAttribute) (base : ℕ) (kept : Attribute) → IsLeastOf (Behind base (AttributeBreaks pool first code before (attributes.Kept kept))) None
attribute_kept pool first code before base kept = none_of (λ n b. never b.0 b.1)
  where
    never : (m : ℕ) → AttributeBreaks pool first code before (attributes.Kept kept) m → ⊥
    never m (inl k) = k.1
    never m (inr k) = k.1

-- one attribute more
pub table_none : IsTrue false ↔ HasTable []
table_none = ((λ t. absurd (not_there t)), (λ h. let e = h.2 in absurd cc))

pub table_more : (all : List RawAttribute) (i : ℕ) (d : RawAttribute) (seen now : Bool) → i < length all → IsTrue seen ↔ HasTable (take i all) → IsTrue now ↔ (IsTrue seen ⊎ IsTable (get_or all i d)) → IsTrue now ↔ HasTable (take (i + 1) all)
table_more all i d seen now lt before here = ((λ t. to (here.0 t)), (λ h. here.1 (from h)))
  where
    at : slice_get all i ≡ Some (get_or all i d)
    at = slice_get-get_or all i d lt

    to : IsTrue seen ⊎ IsTable (get_or all i d) → HasTable (take (i + 1) all)
    to (inl t) = let h = before.0 t in let below : h.0 < i = taken_within all i h.0 h.1 h.2 in (h.0, h.1, taken_front all (i + 1) h.0 (omega arith) ∙ sym (taken_front all i h.0 below) ∙ h.2, h.3)
    to (inr t) = (i, get_or all i d, taken_front all (i + 1) i (omega arith) ∙ at, t)

    from : HasTable (take (i + 1) all) → IsTrue seen ⊎ IsTable (get_or all i d)
    from (k, a, is, t) = elim (cases_lt k i) [
      | inl lt ↦ inl (before.1 (k, a, taken_front all i k lt ∙ sym (taken_front all (i + 1) k (omega arith)) ∙ is, t))
      | inr le ↦
          let below : k < i + 1 = taken_within all (i + 1) k a is in
          let one : k ≡ i = omega arith in
          let same : a ≡ get_or all i d = some_is a (get_or all i d) (sym is ∙ taken_front all (i + 1) k below ∙ ap (slice_get all) one ∙ at) in
          inr (subst IsTable same t)
    ]

pub attribute_at_least : (pool : List PoolEntry) (first : Frame) (code : RawCode) (all : List RawAttribute) (base i place : ℕ) (a : RawAttribute) {o : Option ℕ} → place ≡ base + length (flat_map attribute_bytes (take i all)) → a ≡ get_or all i a
    → IsLeastOf (Behind place (AttributeBreaks pool first code (take i all) a)) o → IsLeastOf (AttributeAtBreaks pool first code all base i (get_or all i a)) o
attribute_at_least pool first code all base i place a {o = o} e is h =
    subst (λ (z : RawAttribute). IsLeastOf (AttributeAtBreaks pool first code all base i z) o) is (subst (λ (p : ℕ). IsLeastOf (Behind p (AttributeBreaks pool first code (take i all) a)) o) e h)

-- ---- the whole content

ranges_len : (ranges : List RawRange) → length (flat_map range_bytes ranges) ≡ 8 * length ranges
ranges_len [] = refl
ranges_len (r ∷ ranges) = length-append (range_bytes r) (flat_map range_bytes ranges) ∙ omega (arith, ranges_len ranges)

before_len : (ranges : List RawRange) (k : ℕ) (r : RawRange) → slice_get ranges k ≡ Some r → length (flat_map range_bytes (take k ranges)) ≡ 8 * k
before_len ranges k r is = let within : k < length ranges = slice_get_within ranges k r is in ranges_len (take k ranges) ∙ ap (λ (z : ℕ). 8 * z) (length-take-le k ranges (omega arith))

module _ (pool : List PoolEntry) (first : Frame) (raw : RawBody) where
  abbrev behind_ranges : ℕ
  behind_ranges = 8 + raw.len + 4 + 8 * length raw.ranges

  abbrev Parts : ℕ → Type 0
  Parts n =
      (Broken ((1 ≤ raw.len) × (raw.len ≤ 65535)) 4 n ⊎ InItems raw.code.raws (InsnAtBreaks pool raw.code.offsets) n)
      ⊎ (InItems raw.ranges (RangeAtBreaks pool raw.code.offsets raw.len (8 + raw.len + 2)) n ⊎ InItems raw.attributes (AttributeAtBreaks pool first raw.code raw.attributes behind_ranges) n)

  attribute_at : (k : ℕ) → attribute_place raw k ≡ behind_ranges + length (flat_map attribute_bytes (take k raw.attributes))
  attribute_at k = omega (arith, ranges_len raw.ranges)

  insn_at : (k at : ℕ) (r : Raw) (place : ℕ) → slice_get raw.code.offsets k ≡ Some at → InsnBreaks pool raw.code.offsets at r place → InsnAtBreaks pool raw.code.offsets k r (8 + at + place)
  insn_at k at r place there h =
      let one : at ≡ get_or raw.code.offsets k 0 = sym (get_or_from_slice_get raw.code.offsets k at 0 there) in
      (place, subst (λ (z : ℕ). InsnBreaks pool raw.code.offsets z r place) one h, ap (λ (z : ℕ). 8 + z + place) one)

  parts_of : (n : ℕ) → Breaks pool first raw n → Parts n
  parts_of n (len h) = inl (inl (refl, h))
  parts_of n (insn k r at place is there h) = inl (inr (k, r, is, insn_at k at r place there h))
  parts_of n (range k r place is h) = inr (inl (k, r, is, (place, h, omega (arith, before_len raw.ranges k r is))))
  parts_of n (twice j k name other fs gs lt is_j is_k) =
      inr (inr (k, attributes.Frames other gs, is_k, (0, inl (refl, tt, (j, attributes.Frames name fs, taken_front raw.attributes k j lt ∙ is_j, tt)), omega (arith, attribute_at k))))
  parts_of n (frame k name place fs is h) = inr (inr (k, attributes.Frames name fs, is, (6 + place, inr (place, h, refl), omega (arith, attribute_at k))))

  breaks_of : AreStarts raw.code raw.len → (n : ℕ) → Parts n → Breaks pool first raw n
  breaks_of starts n (inl (inl h)) = subst (Breaks pool first raw) (sym h.0) (len h.1)
  breaks_of starts n (inl (inr (k, r, is, (place, h, e)))) =
      let within : k < length raw.code.raws = slice_get_within raw.code.raws k r is in
      subst (Breaks pool first raw) (sym e) (insn k r (get_or raw.code.offsets k 0) place is (slice_get-get_or raw.code.offsets k 0 (omega (arith, starts.many))) h)
  breaks_of starts n (inr (inl (k, r, is, (place, h, e)))) = subst (Breaks pool first raw) (omega (arith, e, before_len raw.ranges k r is)) (range k r place is h)
  breaks_of starts n (inr (inr (k, attributes.Kept a, is, (m, inl h, e)))) = absurd h.1
  breaks_of starts n (inr (inr (k, attributes.Kept a, is, (m, inr h, e)))) = absurd h.1
  breaks_of starts n (inr (inr (k, attributes.Frames name fs, is, (m, inl h, e)))) = second h.2
    where
      second : HasTable (take k raw.attributes) → Breaks pool first raw n
      second (j, attributes.Kept a, is_j, t) = absurd t
      second (j, attributes.Frames other gs, is_j, t) =
          let below : j < k = taken_within raw.attributes k j (attributes.Frames other gs) is_j in
          subst (Breaks pool first raw) (omega (arith, e, h.0, attribute_at k)) (twice j k other name gs fs below (sym (taken_front raw.attributes k j below) ∙ is_j) is)
  breaks_of starts n (inr (inr (k, attributes.Frames name fs, is, (m, inr h, e)))) = subst (Breaks pool first raw) (omega (arith, e, h.2, attribute_at k)) (frame k name h.0 fs is h.1)

  pub content_least : {a b c d x y o : Option ℕ} → AreStarts raw.code raw.len → o ≡ lesser x y → x ≡ lesser a b → y ≡ lesser c d → IsLeastOf (Broken ((1 ≤ raw.len) × (raw.len ≤ 65535)) 4) a
      → IsLeastOf (InItems raw.code.raws (InsnAtBreaks pool raw.code.offsets)) b → IsLeastOf (InItems raw.ranges (RangeAtBreaks pool raw.code.offsets raw.len (8 + raw.len + 2))) c
      → IsLeastOf (InItems raw.attributes (AttributeAtBreaks pool first raw.code raw.attributes (8 + raw.len + 4 + 8 * length raw.ranges))) d → IsLeastOf (Breaks pool first raw) o
  content_least starts e f g h k l m = same (λ n p. breaks_of starts n p) (λ n b. parts_of n b) (either e (either f h k) (either g l m))

  pub first_found : (o : Option ℕ) → IsLeastOf (Breaks pool first raw) o → IfSome o (FirstBreak pool first raw)
  first_found None h = tt
  first_found (Some at) h = record { breaks = h.holds; none = λ before lt b. omega (arith, lt, h.least before b) }

  pub none_found : (o : Option ℕ) → IsLeastOf (Breaks pool first raw) o → IfNone o (IsSound pool first raw)
  none_found None h = λ at b. h.least at b
  none_found (Some at) h = tt
