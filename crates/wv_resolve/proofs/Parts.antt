-- The folder of a mod by the parts of a path.
use Rattle.std.proofs.Common.{◌≡◌, ◌≢◌, ℕ, ◌==◌, Bool, true, false, cond, List, [], ◌∷◌, ◌++◌, length, Some, codes, refl, ap, sym, ◌∙◌, subst, arith}
use Rattle.std.specs.List.{AllByRecursion, onto_first, join_with_byte}
use Rattle.std.proofs.lemmas.Bool.Decides.{nat_tests}
use Rattle.std.proofs.lemmas.List.Splits.{join_with_byte-slice_split, length-slice_split}
use Rattle.wv_model.specs.FolderRead.{parts}
use Rattle.wv_version.specs.Cut.{IsFree}
use Rattle.wv_version.proofs.Cutting.{parts-cut}
use Rattle.wv_resolve.specs.Discovery.{LiesIn}
use Rattle.wv_resolve.proofs.Paths.{inner, from-inner}

-- three parts or more, of which the first is `mods`
abbrev pub HasThreeParts : (name path : List ℕ) → Type 0
HasThreeParts name path = (below : List ℕ) × (deeper : List (List ℕ)) × (parts path ≡ codes "mods" ∷ name ∷ below ∷ deeper)

free_mods : IsFree 47 (codes "mods")
free_mods = ((λ e. absurd (omega arith)), ((λ e. absurd (omega arith)), ((λ e. absurd (omega arith)), ((λ e. absurd (omega arith)), tt))))

some-part : (further : List ℕ) → (below : List ℕ) × (deeper : List (List ℕ)) × (parts further ≡ below ∷ deeper)
some-part further = by (parts further) refl
  where
    by : (pieces : List (List ℕ)) → parts further ≡ pieces → (below : List ℕ) × (deeper : List (List ℕ)) × (parts further ≡ below ∷ deeper)
    by [] e = absurd (omega (arith, length-slice_split (λ byte. byte == 47) further, ap length e))
    by (below ∷ deeper) e = (below, deeper, e)

pub in-three_parts : (name path : List ℕ) → LiesIn name path → HasThreeParts name path
in-three_parts name path lies =
    let whole = inner name path lies in
    let part = some-part whole.0 in
    let first : parts path ≡ codes "mods" ∷ parts (name ++ 47 ∷ whole.0) = parts-cut 47 path (codes "mods") (Some (name ++ 47 ∷ whole.0)) (record { whole = whole.1; free = free_mods }) in
    let second : parts (name ++ 47 ∷ whole.0) ≡ name ∷ parts whole.0 = parts-cut 47 (name ++ 47 ∷ whole.0) name (Some whole.0) (record { whole = refl; free = lies.one_part }) in
    (part.0, part.1, first ∙ ap (λ ps. codes "mods" ∷ ps) (second ∙ ap (λ ps. name ∷ ps) part.2))

-- ---- Parts have no slash

free_onto : (c : ℕ) (pieces : List (List ℕ)) → c ≢ 47 → AllByRecursion (IsFree 47) pieces → AllByRecursion (IsFree 47) (onto_first c pieces)
free_onto c [] other h = ((other, tt), tt)
free_onto c (piece ∷ pieces) other h = ((other, h.0), h.1)

free_step : (c : ℕ) (more : List (List ℕ)) (b : Bool) → (c == 47) ≡ b → AllByRecursion (IsFree 47) more → AllByRecursion (IsFree 47) (cond b ([] ∷ more) (onto_first c more))
free_step c more true is h = (tt, h)
free_step c more false is h = free_onto c more (differ c is) h
  where
    differ : (c : ℕ) → (c == 47) ≡ false → c ≢ 47
    differ c is = grind (arith, nat_tests)

parts_free : (path : List ℕ) → AllByRecursion (IsFree 47) (parts path)
parts_free [] = (tt, tt)
parts_free (c ∷ path) = free_step c (parts path) (c == 47) refl (parts_free path)

pub from-three_parts : (name path : List ℕ) → HasThreeParts name path → LiesIn name path
from-three_parts name path (below, deeper, split) =
    let free = subst (AllByRecursion (IsFree 47)) split (parts_free path) in
    from-inner name path (join_with_byte 47 (below ∷ deeper), sym (join_with_byte-slice_split 47 path) ∙ ap (join_with_byte 47) split) free.1.0
