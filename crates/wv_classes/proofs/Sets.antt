-- Sets of the names of folders.
use Rattle.std.proofs.Common.{◌≡◌, ◌↔◌, inl, inr, ℕ, ◌+◌, ◌<◌, ◌≤◌, Bool, true, false, cond, IsTrue, List, [], ◌∷◌, ◌++◌, length, get_or, take, map, Contains, ap, sym, ◌∙◌, subst, arith, true≢false}
use Rattle.std.specs.Borrow.{Bor}
use Rattle.std.specs.BTreeMap.{is_at}
use Rattle.std.specs.BTreeSet.{BTreeSet}
use Rattle.std.specs.List.{list_any}
use Rattle.std.specs.Cmp.Lexicographic.{slice_cmp}
use Rattle.std.specs.Ordering.{nat_cmp, is_eq}
use Rattle.std.proofs.lemmas.Bool.{cases_Bool}
use Rattle.std.proofs.lemmas.List.{map-append, take_all}
use Rattle.std.proofs.lemmas.List.Elements.{All-contains, Contains-append_left, Contains-push, Contains-push_cases}
use Rattle.std.proofs.lemmas.Map.Text.{is_eq-slice_cmp}
use Rattle.std.proofs.lemmas.Slice.Eq.{bytes_eq-Decides}
use Rattle.wv_base.specs.declared.side.Side.{Side}
use Rattle.wv_base.specs.Folder.{File}
use Rattle.wv_resolve.specs.Finding.{texts_at}
use Rattle.wv_resolve.specs.LoadedFolder.{IsLoadedFolder, AreLoadedFolders}
use Rattle.wv_resolve.proofs.Lists.{front-more}
use Rattle.wv_classes.specs.Roots.{has, HasExactly}

-- the order ties texts that are the same, and no others
tied : (a b : List ℕ) → a ≡ b → is_eq (slice_cmp nat_cmp a b) ≡ true
tied a b same = is_eq-slice_cmp a b ∙ (bytes_eq-Decides a b).1 same

same-tied : (a b : List ℕ) → is_eq (slice_cmp nat_cmp a b) ≡ true → a ≡ b
same-tied a b e = (bytes_eq-Decides a b).0 (sym (is_eq-slice_cmp a b) ∙ e)

pub empty-exact : (set : BTreeSet (Bor (List ℕ))) → set.keys ≡ [] → HasExactly [] set
empty-exact set none text = (
  λ t. absurd (true≢false (sym t ∙ ap (list_any (is_at (λ (key : Bor (List ℕ)). slice_cmp nat_cmp text key.now))) none)),
  λ (k, inside, at). absurd (omega arith),
)

-- one more that is put in
pub insert-exact : (list : List (List ℕ)) (old new : BTreeSet (Bor (List ℕ))) (key : List ℕ) → ((text : List ℕ) → has new text ≡ cond (is_eq (slice_cmp nat_cmp key text)) true (has old text)) → HasExactly list old → HasExactly (list ++ key ∷ []) new
insert-exact list old new key updates h text = elim (cases_Bool (is_eq (slice_cmp nat_cmp key text))) [
  | inl same ↦ (
    λ _. subst (Contains (list ++ key ∷ [])) (same-tied key text same) (Contains-push list key),
    λ _. updates text ∙ ap (λ b. cond b true (has old text)) same,
  )
  | inr apart ↦
      let kept : has new text ≡ has old text = updates text ∙ ap (λ b. cond b true (has old text)) apart in (
        λ t. Contains-append_left list (key ∷ []) text ((h text).0 (sym kept ∙ t)),
        λ found. elim (Contains-push_cases list key text found) [
          | inl earlier ↦ kept ∙ (h text).1 earlier
          | inr same ↦ absurd (true≢false (sym (tied key text same) ∙ apart))
        ],
      )
]

-- ---- The loop over the names

module _ (names : List (Bor (List ℕ))) (i : ℕ) where
  pub set-more : (name : Bor (List ℕ)) (old new : BTreeSet (Bor (List ℕ))) → i < length names → name ≡ get_or names i name → ((text : List ℕ) → has new text ≡ cond (is_eq (slice_cmp nat_cmp name.now text)) true (has old text)) → HasExactly (texts_at (take i names)) old → HasExactly (texts_at (take (i + 1) names)) new
  set-more name old new inside at updates h =
      subst (λ (list : List (List ℕ)). HasExactly list new)
      (sym (ap texts_at (front-more names i name inside at) ∙ map-append (λ (n : Bor (List ℕ)). n.now) (take i names) (name ∷ [])))
      (insert-exact (texts_at (take i names)) old new name.now updates h)

  pub set-all : (set : BTreeSet (Bor (List ℕ))) → length names ≤ i → HasExactly (texts_at (take i names)) set → HasExactly (texts_at names) set
  set-all set past h = subst (λ (ns : List (Bor (List ℕ))). HasExactly (texts_at ns) set) (take_all i names past) h

-- ---- The folders of loaded mods

pub roots-of : (folder : List File) (side : Side) (names : List (List ℕ)) (set : BTreeSet (Bor (List ℕ))) → AreLoadedFolders folder side names → HasExactly names set → (name : List ℕ) → IsTrue (has set name) ↔ IsLoadedFolder folder side name
roots-of folder side names set folders h name = (
  λ t. All-contains (IsLoadedFolder folder side) names name folders.each ((h name).0 t),
  λ loaded. (h name).1 (folders.all name loaded),
)
