-- Paths by their bytes, and those of the folders of mods: what lies in one folder stands together.
use Rattle.std.proofs.Common.{◌≡◌, ◌≢◌, ◌⊎◌, inl, inr, ℕ, ◌<◌, List, [], ◌∷◌, ◌++◌, length, get_or, Option, Some, None, MatchOption, codes, refl, ap, sym, ◌∙◌, subst, append_assoc, length-append, arith}
use Rattle.std.specs.Borrow.{Bor}
use Rattle.std.specs.Cmp.Lexicographic.{slice_cmp}
use Rattle.std.specs.Ordering.{nat_cmp, ordering_reverse, ordering_then, is_eq, MatchOrdering}
use Rattle.std.specs.declared.cmp.Ordering.{Ordering}
use Rattle.std.specs.declared.cmp.Ordering.TheVariants.{Less, Equal, Greater}
use Rattle.std.specs.Str.Pattern.{FindsTextPrefix, StripsPrefix}
use Rattle.std.proofs.lemmas.Cmp.{nat_list_cmp_total, tied_itself, ranked}
use Rattle.std.proofs.lemmas.Map.Text.{is_eq-slice_cmp}
use Rattle.std.proofs.lemmas.Slice.Eq.{bytes_eq-Decides}
use Rattle.std.proofs.Math.Seq.{get_or-append_seam}
use Rattle.wv_base.specs.Folder.{IsPathBefore}
use Rattle.wv_version.specs.Cut.{IsFree}
use Rattle.wv_version.proofs.Cutting.{cuts_same, IsFree-from_reads}
use Rattle.wv_resolve.specs.Discovery.{LiesIn, description_path}

-- ---- The order of paths

not_less : (o : Ordering) → o ≡ Less → o ≡ Equal → ⊥
not_less o e f = let clash : Less ≡ Equal = sym e ∙ f in cc

pub not-before_itself : (path : List ℕ) → IsPathBefore path path → ⊥
not-before_itself path before = not_less (slice_cmp nat_cmp path path) before (tied_itself nat_list_cmp_total path)

pub not-both_before : (path other : List ℕ) → IsPathBefore path other → IsPathBefore other path → ⊥
not-both_before path other before after = not-before_itself path (nat_list_cmp_total.trans path other path before after)

pub before-step : (path other third : List ℕ) → IsPathBefore path other → IsPathBefore other third → IsPathBefore path third
before-step path other third = nat_list_cmp_total.trans path other third

-- of two paths one is before the other, or they are the same
pub sides : (path other : List ℕ) → (path ≡ other) ⊎ (IsPathBefore path other ⊎ IsPathBefore other path)
sides path other = by (slice_cmp nat_cmp path other) refl
  where
    by : (o : Ordering) → slice_cmp nat_cmp path other ≡ o → (path ≡ other) ⊎ (IsPathBefore path other ⊎ IsPathBefore other path)
    by Less e = inr (inl e)
    by Equal e = inl ((bytes_eq-Decides path other).0 (sym (is_eq-slice_cmp path other) ∙ ap is_eq e))
    by Greater e = inr (inr (nat_list_cmp_total.antisymm other path ∙ ap ordering_reverse e))

-- ---- The folder in which a path lies

-- behind `mods/`, a path in the folder of a mod is the folder's name, a slash, and more
abbrev pub IsInner : (name path : List ℕ) → Type 0
IsInner name path = (further : List ℕ) × (path ≡ codes "mods/" ++ (name ++ 47 ∷ further))

pub inner : (name path : List ℕ) → LiesIn name path → IsInner name path
inner name path lies = (lies.further, lies.whole ∙ ap (λ inside. codes "mods/" ++ inside) (append_assoc name (47 ∷ []) lies.further))

pub from-inner : (name path : List ℕ) → IsInner name path → IsFree 47 name → LiesIn name path
from-inner name path (further, whole) free = record {
  further = further;
  whole = whole ∙ ap (λ inside. codes "mods/" ++ inside) (sym (append_assoc name (47 ∷ []) further));
  one_part = free;
}

same_inner : (a b : List ℕ) → codes "mods/" ++ a ≡ codes "mods/" ++ b → a ≡ b
same_inner a b e = cc

-- a path lies in one folder
pub lies-one : (name other path : List ℕ) → LiesIn name path → LiesIn other path → name ≡ other
lies-one name other path g h =
    let a = inner name path g in
    let b = inner other path h in
    (cuts_same 47 name other (Some a.0) (Some b.0) g.one_part h.one_part (same_inner (name ++ 47 ∷ a.0) (other ++ 47 ∷ b.0) (sym a.1 ∙ b.1))).0

-- ---- Paths of two folders stand as their descriptions do

nat_cmp-Equal : (x y : ℕ) → nat_cmp x y ≡ Equal → x ≡ y
nat_cmp-Equal x y e = subst (λ (o : Ordering). MatchOrdering o (x < y) (x ≡ y) (y < x)) e (ranked x y (nat_cmp x y) refl)

-- where the first bytes differ, what follows them makes no difference
apart : (o rest other : Ordering) → (o ≡ Equal → ⊥) → ordering_then o rest ≡ Less → ordering_then o other ≡ Less
apart Less rest other differ e = refl
apart Equal rest other differ e = absurd (differ refl)
apart Greater rest other differ e = e

-- of names before a slash, the same, or one before the other whatever follows
abbrev StandAs : (name other further : List ℕ) → Type 0
StandAs name other further = (name ≡ other) ⊎ IsPathBefore (name ++ 47 ∷ further) (other ++ 47 ∷ further)

stand-more : (x y : ℕ) (name other r s t : List ℕ) → (IsPathBefore (name ++ 47 ∷ r) (other ++ 47 ∷ s) → StandAs name other t) → IsPathBefore (x ∷ (name ++ 47 ∷ r)) (y ∷ (other ++ 47 ∷ s)) → StandAs (x ∷ name) (y ∷ other) t
stand-more x y name other r s t rest before = by (nat_cmp x y) refl before
  where
    tails : x ≡ y → nat_cmp x y ≡ Equal → StandAs name other t → StandAs (x ∷ name) (y ∷ other) t
    tails same tied (inl e) = inl (cc)
    tails same tied (inr less) = inr (rw tied less)

    by : (o : Ordering) → nat_cmp x y ≡ o → ordering_then o (slice_cmp nat_cmp (name ++ 47 ∷ r) (other ++ 47 ∷ s)) ≡ Less → StandAs (x ∷ name) (y ∷ other) t
    by Less e less = inr (rw e refl)
    by Equal e less = tails (nat_cmp-Equal x y e) e (rest less)
    by Greater e less = let clash : Greater ≡ Less = less in cc

stand : (name other r s t : List ℕ) → IsFree 47 name → IsFree 47 other → IsPathBefore (name ++ 47 ∷ r) (other ++ 47 ∷ s) → StandAs name other t
stand [] [] r s t f g before = inl refl
stand [] (y ∷ other) r s t f g before = inr (apart (nat_cmp 47 y) (slice_cmp nat_cmp r (other ++ 47 ∷ s)) (slice_cmp nat_cmp t (other ++ 47 ∷ t)) (λ tied. g.0 (sym (nat_cmp-Equal 47 y tied))) before)
stand (x ∷ name) [] r s t f g before = inr (apart (nat_cmp x 47) (slice_cmp nat_cmp (name ++ 47 ∷ r) s) (slice_cmp nat_cmp (name ++ 47 ∷ t) t) (λ tied. f.0 (nat_cmp-Equal x 47 tied)) before)
stand (x ∷ name) (y ∷ other) r s t f g before = stand-more x y name other r s t (stand name other r s t f.1 g.1) before

-- paths of one folder, or the description of the first comes before that of the second
pub descriptions-stand : (name other path later : List ℕ) → LiesIn name path → LiesIn other later → IsPathBefore path later → (name ≡ other) ⊎ IsPathBefore (description_path name) (description_path other)
descriptions-stand name other path later g h before =
    let a = inner name path g in
    let b = inner other later h in
    let within : IsPathBefore (name ++ 47 ∷ a.0) (other ++ 47 ∷ b.0) = subst (λ (p : List ℕ). IsPathBefore p (codes "mods/" ++ (other ++ 47 ∷ b.0))) a.1 (subst (λ (p : List ℕ). IsPathBefore path p) b.1 before) in
    stand name other a.0 b.0 (codes "fabric.mod.json") g.one_part h.one_part within

-- ---- A path taken apart

pub stripped : (front text : List ℕ) (r : Option (Bor (List ℕ))) → MatchOption r (FindsTextPrefix front text None) (λ x. StripsPrefix (FindsTextPrefix front) text x.now) → MatchOption r ((rest : List ℕ) → text ≢ front ++ rest) (λ x. text ≡ front ++ x.now)
stripped front text None h = h
stripped front text (Some x) h = h.1.1 ∙ ap (λ rest. front ++ rest) (sym h.2)

-- without `mods/` before it, a path lies in no folder
pub outside_mods : (path name : List ℕ) → ((rest : List ℕ) → path ≢ codes "mods/" ++ rest) → LiesIn name path → ⊥
outside_mods path name none lies = let a = inner name path lies in none (name ++ 47 ∷ a.0) a.1

-- nor does it without a slash behind that
pub loose : (path rest name : List ℕ) → path ≡ codes "mods/" ++ rest → ((i : ℕ) → i < length rest → get_or rest i 0 ≢ 47) → LiesIn name path → ⊥
loose path rest name is none lies =
    let a = inner name path lies in
    let same : name ++ 47 ∷ a.0 ≡ rest = same_inner (name ++ 47 ∷ a.0) rest (sym a.1 ∙ is) in
    slash (name ++ 47 ∷ a.0) (length name) (omega (arith, length-append name (47 ∷ a.0))) (get_or-append_seam name 47 a.0 0) (subst (λ (r : List ℕ). (i : ℕ) → i < length r → get_or r i 0 ≢ 47) (sym same) none)
  where
    slash : (xs : List ℕ) (i : ℕ) → i < length xs → get_or xs i 0 ≡ 47 → ((i : ℕ) → i < length xs → get_or xs i 0 ≢ 47) → ⊥
    slash xs i inside at none = none i inside at

pub lies : (path rest name further : List ℕ) → path ≡ codes "mods/" ++ rest → rest ≡ name ++ 47 ∷ further → ((i : ℕ) → i < length name → get_or name i 0 ≢ 47) → LiesIn name path
lies path rest name further is split free = from-inner name path (further, is ∙ ap (λ inside. codes "mods/" ++ inside) split) (IsFree-from_reads 47 name free)
