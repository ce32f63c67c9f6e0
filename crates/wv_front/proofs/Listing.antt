-- Which listed path is the first that ends in `.jar`.
use Rattle.std.proofs.Common.{◌≡◌, inl, inr, ℕ, ◌+◌, ◌<◌, ◌≤◌, List, [], Bool, true, false, length, get_or, take, Any, codes, refl, ap, sym, ◌∙◌, subst, arith, length-take}
use Rattle.std.specs.Bool.{IsTrue}
use Rattle.std.proofs.lemmas.Bool.{cases_order}
use Rattle.std.proofs.lemmas.List.{get_or_default, get_or-take, take_all}
use Rattle.wv_base.specs.declared.broken.Broken.{Broken}
use Rattle.wv_base.specs.Folder.{File, IsInOrder, IsPathBefore}
use Rattle.wv_model.specs.FolderRead.{has_ending}
use Rattle.wv_mod.specs.FirstBroken.{IsKept, IsFirstBreak}
use Rattle.wv_resolve.proofs.Folders.{any-push_cases}
use Rattle.wv_resolve.proofs.Lists.{front-more}
use Rattle.wv_resolve.proofs.Paths.{not-before_itself, not-both_before}
use Rattle.wv_front.specs.Opening.{HasJar, jar_file}

-- a refusal is of this file
abbrev IsJarAt : Broken → File → Type 0
IsJarAt broken file = IsTrue (has_ending file.0 (codes ".jar")) × (broken ≡ jar_file file.0)

path-told : (broken : Broken) (path : List ℕ) → broken ≡ jar_file path → broken.place.file ≡ path
path-told broken path told = ap (λ (b : Broken). b.place.file) told

pub no-jars : IsKept (HasJar [])
no-jars broken (k, file, inside, at, jar) = let none : ⊥ = omega arith in none

both-ways : (b : Bool) → b ≡ true → b ≡ false → ⊥
both-ways b e f = cc

pub jars-more : (files : List File) (i : ℕ) (file : File) → i < length files → file ≡ get_or files i file → has_ending file.0 (codes ".jar") ≡ false → IsKept (HasJar (take i files)) → IsKept (HasJar (take (i + 1) files))
jars-more files i file inside at ends kept broken jar =
    elim (any-push_cases (IsJarAt broken) (take i files) file (subst (Any (IsJarAt broken)) (front-more files i file inside at) jar)) [
      | inl earlier ↦ kept broken earlier
      | inr here ↦ both-ways (has_ending file.0 (codes ".jar")) here.0 ends
    ]

pub jars-all : (files : List File) (i : ℕ) → length files ≤ i → IsKept (HasJar (take i files)) → IsKept (HasJar files)
jars-all files i past kept = subst (λ (fs : List File). IsKept (HasJar fs)) (take_all i files past) kept

pub jar-first : (files : List File) (i : ℕ) (file : File) → IsInOrder files → i < length files → file ≡ get_or files i file → has_ending file.0 (codes ".jar") ≡ true → IsKept (HasJar (take i files)) → IsFirstBreak (HasJar files) (jar_file file.0)
jar-first files i file order inside at is kept = record {
  here = (i, file, inside, sym at, (is, refl));
  first = λ other jar before. first other jar.0 jar.1 jar.2 jar.3 jar.4.0 jar.4.1 before;
}
  where
    first : (other : Broken) (k : ℕ) (found : File) → k < length files → get_or files k found ≡ found → IsTrue (has_ending found.0 (codes ".jar")) → other ≡ jar_file found.0 → IsPathBefore other.place.file file.0 → ⊥
    first other k found in_k at_k ends told before =
        let is_before : IsPathBefore found.0 file.0 = subst (λ (p : List ℕ). IsPathBefore p file.0) (path-told other found.0 told) before in
        elim (cases_order k i) [
          | inl same ↦ not-before_itself file.0 (subst (λ (f : File). IsPathBefore f.0 file.0) (sym at_k ∙ ap (λ n. get_or files n found) same ∙ get_or_default files i found file inside ∙ sym at) is_before)
          | inr (inl below) ↦ kept other (k, found, omega (arith, length-take i files), get_or-take i files k found below ∙ at_k, (ends, told))
          | inr (inr above) ↦ not-both_before found.0 file.0 is_before
              (subst (λ (f : File). IsPathBefore f.0 found.0) (get_or_default files i found file inside ∙ sym at)
              (subst (λ (f : File). IsPathBefore (get_or files i found).0 f.0) at_k (order i k found above in_k)))
        ]
