-- Tables and sets that are filled from class files in turn.
use Rattle.std.proofs.Common.{◌≡◌, ℕ, ◌+◌, ◌<◌, ◌≤◌, Bool, true, cond, List, [], ◌∷◌, ◌++◌, length, get_or, take, map, flat_map, ap, sym, ◌∙◌, subst}
use Rattle.std.specs.Borrow.{Bor}
use Rattle.std.specs.BTreeMap.{BTreeMap}
use Rattle.std.specs.BTreeSet.{BTreeSet}
use Rattle.std.specs.Cmp.Lexicographic.{slice_cmp}
use Rattle.std.specs.Ordering.{nat_cmp, is_eq}
use Rattle.std.proofs.lemmas.List.{append-nil, map-append, take_all}
use Rattle.wv_classes.specs.Roots.{has, HasExactly}
use Rattle.wv_classes.proofs.Sets.{insert-exact}
use Rattle.wv_resolve.proofs.Lists.{front-more, flat-more}
use Rattle.wv_form.specs.declared.kinds.KnownFile.{KnownFile}
use Rattle.wv_form.specs.declared.placing.Place.{Place}
use Rattle.wv_form.specs.Placing.{TellsPlaces}

module _ (files : List KnownFile) (i : ℕ) (one : KnownFile) (inside : i < length files) (at : one ≡ get_or files i one) where
  module _ {B : Type 0} (f : KnownFile → List B) where
    none-new : f one ≡ [] → flat_map f (take (i + 1) files) ≡ flat_map f (take i files)
    none-new none = flat-more f files i one inside at ∙ ap (λ ys. flat_map f (take i files) ++ ys) none ∙ append-nil (flat_map f (take i files))

    one-new : (y : B) → f one ≡ y ∷ [] → flat_map f (take (i + 1) files) ≡ flat_map f (take i files) ++ y ∷ []
    one-new y some = flat-more f files i one inside at ∙ ap (λ ys. flat_map f (take i files) ++ ys) some

  -- ---- Sets of names

  pub same-names : (f : KnownFile → List (List ℕ)) (set : BTreeSet (Bor (List ℕ))) → f one ≡ [] → HasExactly (flat_map f (take i files)) set → HasExactly (flat_map f (take (i + 1) files)) set
  same-names f set none h = subst (λ (list : List (List ℕ)). HasExactly list set) (sym (none-new f none)) h

  pub name-more : (f : KnownFile → List (List ℕ)) (name : List ℕ) (old new : BTreeSet (Bor (List ℕ))) → f one ≡ name ∷ [] → ((text : List ℕ) → has new text ≡ cond (is_eq (slice_cmp nat_cmp name text)) true (has old text)) → HasExactly (flat_map f (take i files)) old → HasExactly (flat_map f (take (i + 1) files)) new
  name-more f name old new some updates h =
      subst (λ (list : List (List ℕ)). HasExactly list new) (sym (one-new f name some)) (insert-exact (flat_map f (take i files)) old new name updates h)

  -- ---- Tables of places

  pub same-places : (f : KnownFile → List (List ℕ × List ℕ)) (table : BTreeMap (Bor (List ℕ)) Place) → f one ≡ [] → TellsPlaces (flat_map f (take i files)) table → TellsPlaces (flat_map f (take (i + 1) files)) table
  same-places f table none h = subst (λ (list : List (List ℕ × List ℕ)). TellsPlaces list table) (sym (none-new f none)) h

  pub place-more : (f : KnownFile → List (List ℕ × List ℕ)) (pair : List ℕ × List ℕ) (new : BTreeMap (Bor (List ℕ)) Place) → f one ≡ pair ∷ [] → TellsPlaces (flat_map f (take i files) ++ pair ∷ []) new → TellsPlaces (flat_map f (take (i + 1) files)) new
  place-more f pair new some h = subst (λ (list : List (List ℕ × List ℕ)). TellsPlaces list new) (sym (one-new f pair some)) h

  pub mapped-more : (f : KnownFile → List ℕ × List ℕ) (new : BTreeMap (Bor (List ℕ)) Place) → TellsPlaces (map f (take i files) ++ f one ∷ []) new → TellsPlaces (map f (take (i + 1) files)) new
  mapped-more f new h =
      subst (λ (list : List (List ℕ × List ℕ)). TellsPlaces list new)
      (sym (ap (map f) (front-more files i one inside at) ∙ map-append f (take i files) (one ∷ []))) h

module _ (files : List KnownFile) (i : ℕ) (past : length files ≤ i) where
  pub mapped-all : (f : KnownFile → List ℕ × List ℕ) (table : BTreeMap (Bor (List ℕ)) Place) → TellsPlaces (map f (take i files)) table → TellsPlaces (map f files) table
  mapped-all f table h = subst (λ (list : List KnownFile). TellsPlaces (map f list) table) (take_all i files past) h

  pub places-all : (f : KnownFile → List (List ℕ × List ℕ)) (table : BTreeMap (Bor (List ℕ)) Place) → TellsPlaces (flat_map f (take i files)) table → TellsPlaces (flat_map f files) table
  places-all f table h = subst (λ (list : List KnownFile). TellsPlaces (flat_map f list) table) (take_all i files past) h
