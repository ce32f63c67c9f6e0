-- The files that are written one after the other.
use Rattle.std.proofs.Common.{◌≡◌, ℕ, ◌+◌, ◌<◌, ◌≤◌, List, [], ◌∷◌, ◌++◌, length, get_or, take, All, AllPairs, Contains, ap, sym, ◌∙◌, subst, arith}
use Rattle.std.specs.List.{AllByRecursion, AllZip}
use Rattle.std.proofs.lemmas.List.{get_or-take, get_or_default, length_push}
use Rattle.std.proofs.lemmas.List.Elements.{All-contains, All-from_recursion}
use Rattle.wv_base.specs.Folder.{File, IsPathAfter, IsPathBefore}
use Rattle.wv_resolve.proofs.Lists.{front-more}
use Rattle.wv_weave.specs.declared.outgoing.Outgoing.{Outgoing}
use Rattle.wv_weave.specs.Outgoing.{CanBeWritten, IsFileFrom}
use Rattle.wv_weave.proofs.Zips.{zip-right}

module _ (folder : List File) (all yielded : List Outgoing) (one : Outgoing) (so_far : yielded ≡ take (length yielded) all)
    (inside : length yielded < length all) (at : one ≡ get_or all (length yielded) one) where
  pub next-writable : AllByRecursion (CanBeWritten folder) all → CanBeWritten folder one
  next-writable h = All-contains (CanBeWritten folder) all one (All-from_recursion (CanBeWritten folder) all h) (length yielded, inside, sym at)

  before-one : AllPairs (λ (o later : Outgoing). IsPathBefore o.path later.path) all → (o : Outgoing) → Contains yielded o → IsPathBefore o.path one.path
  before-one ordered o (k, within, there) =
      let same : get_or all k o ≡ o = sym (get_or-take (length yielded) all k o within) ∙ ap (λ os. get_or os k o) (sym so_far) ∙ there in
      let last : get_or all (length yielded) o ≡ one = get_or_default all (length yielded) o one inside ∙ sym at in
      subst (λ (x : Outgoing). IsPathBefore o.path x.path) last (subst (λ (x : Outgoing). IsPathBefore x.path (get_or all (length yielded) o).path) same (ordered k (length yielded) o within inside))

  pub next-after : AllPairs (λ (o later : Outgoing). IsPathBefore o.path later.path) all → (files : List File) → AllZip (IsFileFrom folder) yielded files → (path : List ℕ) → path ≡ one.path → IsPathAfter path files
  next-after ordered files zip path is = λ k d within.
      let file = get_or files k d in
      let found = zip-right (IsFileFrom folder) yielded files zip file (k, within, get_or_default files k file d within) in
      subst (λ p. IsPathBefore p path) (sym found.2.0) (subst (IsPathBefore found.0.path) (sym is) (before-one ordered found.0 found.1))

  pub so-far-more : yielded ++ one ∷ [] ≡ take (length (yielded ++ one ∷ [])) all
  so-far-more =
      ap (λ os. os ++ one ∷ []) so_far ∙ sym (front-more all (length yielded) one inside at) ∙ ap (λ n. take n all) (sym (length_push yielded one))

-- one file more
pub files-more : (folder : List File) (os : List Outgoing) (files : List File) (one : Outgoing) (file : File) → AllZip (IsFileFrom folder) os files → IsFileFrom folder one file → AllZip (IsFileFrom folder) (os ++ one ∷ []) (files ++ file ∷ [])
files-more folder [] [] one file zip is = (is, tt)
files-more folder [] (f ∷ files) one file zip is = elim zip [ ]
files-more folder (o ∷ os) [] one file zip is = elim zip [ ]
files-more folder (o ∷ os) (f ∷ files) one file (first, more) is = (first, files-more folder os files one file more is)
