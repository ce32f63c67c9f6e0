-- A body that is read can be written: here one without frames and ranges.
use Rattle.std.proofs.Common.{◌≡◌, ℕ, ◌+◌, ◌≤◌, Bool, true, false, cond, List, [], ◌∷◌, length, refl, sym, ap, subst, arith}
use Rattle.std.specs.Prelude.{nat_le}
use Rattle.std.specs.List.{flat_map, AllByRecursion}
use Rattle.std.proofs.lemmas.Bool.{leb-true}
use Rattle.wv_base.specs.declared.class_file.PoolEntry.{PoolEntry}
use Rattle.wv_base.specs.declared.class_file.Attribute.{Attribute}
use Rattle.wv_base.specs.declared.class_file.Body.{Body}
use Rattle.wv_base.specs.declared.frame.Frame.{Frame}
use Rattle.wv_base.specs.declared.insn.Insn.{Insn}
use Rattle.wv_insn.specs.declared.raw.Raw.{Raw}
use Rattle.wv_pool.specs.References.{IsPool}
use Rattle.wv_code.specs.declared.raw_body.RawAttribute.{RawAttribute}
use Rattle.wv_code.specs.declared.raw_body.RawAttribute.TheVariants as attributes
use Rattle.wv_code.specs.declared.raw_body.RawBody.{RawBody}
use Rattle.wv_code.specs.Body.{IsBodyOf, kept_name, kept_in}
use Rattle.wv_code.specs.Breaks.{IsSound}
use Rattle.wv_code.specs.Breaks as breaks
use Rattle.wv_code.specs.Code.{Follow, AllMean}
use Rattle.wv_code.specs.Content.{IsContent, IsKept, IsAttribute}
use Rattle.wv_code.specs.FormedBody.{AreFormedRanges, AreFormedFrames, IsFormedKept, table_count, IsFormedBody}
use Rattle.wv_code.proofs.Shaped.{formed}
use Rattle.wv_code.proofs.Splits.{len_some}
use Rattle.wv_class.proofs.FormedDescriptors.{decided_stable, le_decided}

-- ---- names that are kept

pub kept_as : (pool : List PoolEntry) (n : ℕ) (P : ℕ → Type 0) → (n ≤ length pool → P n) → P 0 → P (kept_name pool n)
kept_as pool n P here nothing = go (nat_le n (length pool)) refl
  where
    go : (b : Bool) → nat_le n (length pool) ≡ b → P (cond b n 0)
    go true e = here (leb-true n (length pool) e)
    go false e = nothing

kept_one : (pool : List PoolEntry) (a : Attribute) → IsKept pool a → IsFormedKept pool (record { name = kept_name pool a.name; content = a.content })
kept_one pool a h =
    kept_as pool a.name (λ n. IsFormedKept pool (record { name = n; content = a.content })) (λ le. (le, h.1, h.2)) (omega arith, (λ e. absurd cc), h.2)

kept_formed : (pool : List PoolEntry) (all : List RawAttribute) → AllByRecursion (IsAttribute pool) all → AllByRecursion (IsFormedKept pool) (flat_map (kept_in pool) all)
kept_formed pool [] h = tt
kept_formed pool (attributes.Frames name frames ∷ all) h = kept_formed pool all h.1
kept_formed pool (attributes.Kept a ∷ all) h = (kept_one pool a h.0, kept_formed pool all h.1)

kept_few : (pool : List PoolEntry) (all : List RawAttribute) → length (flat_map (kept_in pool) all) ≤ length all
kept_few pool [] = omega arith
kept_few pool (attributes.Frames name frames ∷ all) = let h = kept_few pool all in omega (arith, h)
kept_few pool (attributes.Kept a ∷ all) = let h = kept_few pool all in omega (arith, h)

-- ---- instructions

insns_few : (pool : List PoolEntry) (offsets code : List ℕ) (at : ℕ) (raws : List Raw) (ats : List ℕ) (insns : List Insn) (end : ℕ) → Follow code at raws ats end → AllMean pool offsets raws ats insns → at + length insns ≤ end
insns_few pool offsets code at [] [] [] end follow mean = omega (arith, follow)
insns_few pool offsets code at [] [] (i ∷ insns) end follow mean = absurd mean
insns_few pool offsets code at [] (a ∷ ats) insns end follow mean = absurd mean
insns_few pool offsets code at (r ∷ raws) [] insns end follow mean = absurd mean
insns_few pool offsets code at (r ∷ raws) (a ∷ ats) [] end follow mean = absurd mean
insns_few pool offsets code at (r ∷ raws) (a ∷ ats) (i ∷ insns) end follow mean =
    let some = len_some code at r follow.1.0 follow.1.1 in
    let others = insns_few pool offsets code (at + follow.1.0) raws ats insns end follow.1.2 mean.1 in
    omega (arith, some, others)

insns_some : (pool : List PoolEntry) (offsets code : List ℕ) (raws : List Raw) (ats : List ℕ) (insns : List Insn) (end : ℕ) → Follow code 0 raws ats end → AllMean pool offsets raws ats insns → 1 ≤ end → 1 ≤ length insns
insns_some pool offsets code [] [] [] end follow mean some = absurd (omega (arith, follow, some))
insns_some pool offsets code [] (a ∷ ats) [] end follow mean some = absurd mean
insns_some pool offsets code (r ∷ raws) [] [] end follow mean some = absurd mean
insns_some pool offsets code (r ∷ raws) (a ∷ ats) [] end follow mean some = absurd mean
insns_some pool offsets code raws ats (i ∷ insns) end follow mean some = omega arith

-- ---- the body

module _ (pool : List PoolEntry) (first : Frame) (raw : RawBody) (body : Body) where
  len_fits : IsSound pool first raw → (1 ≤ raw.len) × (raw.len ≤ 65535)
  len_fits sound = (decided_stable (le_decided 1 raw.len) (λ no. sound 4 (breaks.len (λ h. no h.0))), decided_stable (le_decided raw.len 65535) (λ no. sound 4 (breaks.len (λ h. no h.1))))

  pub body_formed : (bytes : List ℕ) → IsPool pool → IsContent pool raw bytes → IsSound pool first raw → IsBodyOf pool first raw body → body.frames ≡ [] → body.ranges ≡ [] → IsFormedBody pool body
  body_formed bytes is c sound m no_frames no_ranges =
      let len = len_fits sound in
      let long = len.1 in
      let few = insns_few pool raw.code.offsets c.code 0 raw.code.raws raw.code.offsets body.insns raw.len c.follow m.insns in
      let kept = m.kept in
      let counted = kept_few pool raw.attributes in
      let attributes_few = c.few_attributes in
      record {
        insns = formed pool c.code raw.code.raws raw.code.offsets body.insns raw.len is c.follow m.insns (λ k r at place e f b. sound (8 + at + place) (breaks.insn k r at place e f b));
        some = insns_some pool raw.code.offsets c.code raw.code.raws raw.code.offsets body.insns raw.len c.follow m.insns len.0;
        few = omega (arith, few, long);
        ranges = subst (AreFormedRanges (length body.insns)) (sym no_ranges) (omega arith, tt);
        frames = subst (AreFormedFrames body.insns) (sym no_frames) (omega arith, tt);
        kept = (
          omega (arith, ap length kept, counted, attributes_few, ap table_count no_frames),
          subst (AllByRecursion (IsFormedKept pool)) (sym kept) (kept_formed pool raw.attributes c.attributes),
        );
      }
