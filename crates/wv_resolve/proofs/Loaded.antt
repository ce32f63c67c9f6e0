-- The folders of loaded mods, as the folders of mods are gone over.
use Rattle.std.proofs.Common.{◌≡◌, inl, inr, ℕ, ◌+◌, ◌<◌, ◌≤◌, Bool, true, false, MatchBool, List, [], ◌∷◌, ◌++◌, length, get_or, take, filter, All, Any, AllPairs, Contains, Some, None, refl, ap, sym, ◌∙◌, subst, arith, true≢false, codes}
use Rattle.std.specs.Borrow.{Bor}
use Rattle.std.specs.List.{take-map}
use Rattle.std.proofs.lemmas.Bool.{cases_Bool}
use Rattle.std.proofs.lemmas.List.{length-map, map-append, get_or-map, take_all, append_cancel_right}
use Rattle.std.proofs.lemmas.List.Elements.{All-contains, All-push, All-weaker, Contains-append_left, Contains-push, Contains-push_cases}
use Rattle.std.proofs.lemmas.List.Quantifiers.{all_pairs_push}
use Rattle.std.proofs.lemmas.List.Sorted.{Contains-permutation, IsPermutation-sym}
use Rattle.wv_base.specs.declared.side.Side.{Side}
use Rattle.wv_base.specs.Folder.{File, IsPathBefore, content_of}
use Rattle.wv_mod.specs.declared.mod_info.ModInfo.{ModInfo}
use Rattle.wv_mod.specs.ModInfo.{IsMod}
use Rattle.wv_mod.specs.Flaw.{IsFlawOf, IsModFault}
use Rattle.wv_base.specs.declared.broken.Broken.{Broken}
use Rattle.wv_mod.specs.declared.fault.Flaw.{Flaw}
use Rattle.wv_mod.specs.declared.fault.ModFault.TheVariants as fault
use Rattle.wv_mod.proofs.OneFlaw.{mod-no_flaw}
use Rattle.wv_mod.proofs.OneMod.{mod-one}
use Rattle.wv_resolve.specs.Resolution.{is_loaded}
use Rattle.wv_resolve.specs.Discovery.{IsModFolder, IsDescribed, AreLoadedMods, description_path}
use Rattle.wv_resolve.specs.Finding.{texts_at, AreModFolders}
use Rattle.wv_resolve.specs.LoadedFolder.{SaysLoaded, IsLoadedFolder, AreLoadedFolders}
use Rattle.wv_resolve.proofs.Lists.{front-more, all-before}
use Rattle.wv_resolve.proofs.Orders.{filter-here, filter-skip}
use Rattle.wv_resolve.proofs.OneMods.{same-ordered, contains-cases, contains-head, contains-later}
use Rattle.wv_resolve.proofs.Paths.{not-both_before}

some-same : (x y : List ℕ) → Some x ≡ Some y → x ≡ y
some-same x y e = cc

-- ---- Those of a list that have a property

-- kept in order are those of the list that have the property
pub record AreThose {A : Type 0} (R : A → A → Type 0) (P : A → Type 0) (list kept : List A) : Type 0 where
  pub ordered : AllPairs R kept
  pub each : All (λ x. Contains list x × P x) kept
  pub all : (x : A) → Contains list x → P x → Contains kept x

pub those-none : {A : Type 0} (R : A → A → Type 0) (P : A → Type 0) → AreThose R P [] []
those-none R P = record {
  ordered = λ i j d below inside. absurd (omega arith);
  each = λ k d inside. absurd (omega arith);
  all = λ x found has. found;
}

module _ {A : Type 0} (R : A → A → Type 0) (P : A → Type 0) (list kept : List A) (x : A) (h : AreThose R P list kept) where
  wider : All (λ y. Contains (list ++ x ∷ []) y × P y) kept
  wider = All-weaker (λ y. Contains list y × P y) (λ y. Contains (list ++ x ∷ []) y × P y) (λ y has. (Contains-append_left list (x ∷ []) y has.0, has.1)) kept h.each

  pub those-skip : (P x → ⊥) → AreThose R P (list ++ x ∷ []) kept
  those-skip none = record {
    ordered = h.ordered;
    each = wider;
    all = λ y found has. elim (Contains-push_cases list x y found) [ inl earlier ↦ h.all y earlier has | inr same ↦ absurd (none (subst P (sym same) has)) ];
  }

  pub those-push : All (λ y. R y x) list → P x → AreThose R P (list ++ x ∷ []) (kept ++ x ∷ [])
  those-push before one = record {
    ordered = all_pairs_push R kept x h.ordered (λ k d inside. All-contains (λ y. R y x) list (get_or kept k d) before (h.each k d inside).0);
    each = All-push (λ y. Contains (list ++ x ∷ []) y × P y) kept x wider (Contains-push list x, one);
    all = λ y found has. elim (Contains-push_cases list x y found) [
      | inl earlier ↦ Contains-append_left kept (x ∷ []) y (h.all y earlier has)
      | inr same ↦ subst (Contains (kept ++ x ∷ [])) same (Contains-push kept x)
    ];
  }

-- ---- The loop over the folders of mods

abbrev pub IsBefore : (name later : List ℕ) → Type 0
IsBefore name later = IsPathBefore (description_path name) (description_path later)

text-of : Bor (List ℕ) → List ℕ
text-of name = name.now

-- the names so far, of which those that are loaded are kept
abbrev pub AreLoadedOf : List File → Side → (names kept : List (Bor (List ℕ))) → Type 0
AreLoadedOf folder side names kept = AreThose IsBefore (SaysLoaded folder side) (texts_at names) (texts_at kept)

module _ (folder : List File) (side : Side) (names : List (Bor (List ℕ))) (i : ℕ) (name : Bor (List ℕ)) (kept : List (Bor (List ℕ))) (inside : i < length names) (at : name ≡ get_or names i name) (h : AreLoadedOf folder side (take i names) kept) where
  one-more : texts_at (take (i + 1) names) ≡ texts_at (take i names) ++ name.now ∷ []
  one-more = ap texts_at (front-more names i name inside at) ∙ map-append (λ (n : Bor (List ℕ)). n.now) (take i names) (name ∷ [])

  pub loaded-skip : (SaysLoaded folder side name.now → ⊥) → AreLoadedOf folder side (take (i + 1) names) kept
  loaded-skip none =
      subst (λ (ns : List (List ℕ)). AreThose IsBefore (SaysLoaded folder side) ns (texts_at kept)) (sym one-more)
      (those-skip IsBefore (SaysLoaded folder side) (texts_at (take i names)) (texts_at kept) name.now h none)

  before : AllPairs IsBefore (texts_at names) → All (λ n. IsBefore n name.now) (texts_at (take i names))
  before ordered =
      subst (λ (ns : List (List ℕ)). All (λ n. IsBefore n name.now) ns) (take-map (λ (n : Bor (List ℕ)). n.now) i names)
      (all-before IsBefore (texts_at names) i name.now ordered (omega (arith, length-map names (λ (n : Bor (List ℕ)). n.now)))
      (ap (λ (n : Bor (List ℕ)). n.now) at ∙ sym (get_or-map (λ (n : Bor (List ℕ)). n.now) names i name name.now inside)))

  pub loaded-push : AreModFolders folder (texts_at names) → SaysLoaded folder side name.now → AreLoadedOf folder side (take (i + 1) names) (kept ++ name ∷ [])
  loaded-push folders says =
      subst (λ (ns : List (List ℕ)). AreThose IsBefore (SaysLoaded folder side) ns (texts_at (kept ++ name ∷ []))) (sym one-more)
      (subst (AreThose IsBefore (SaysLoaded folder side) (texts_at (take i names) ++ name.now ∷ [])) (sym (map-append (λ (n : Bor (List ℕ)). n.now) kept (name ∷ [])))
      (those-push IsBefore (SaysLoaded folder side) (texts_at (take i names)) (texts_at kept) name.now h (before folders.ordered) says))

are-loaded_folders : (folder : List File) (side : Side) (names kept : List (List ℕ)) → AreModFolders folder names → AreThose IsBefore (SaysLoaded folder side) names kept → AreLoadedFolders folder side kept
are-loaded_folders folder side names kept folders those = record {
  ordered = those.ordered;
  each = All-weaker (λ name. Contains names name × SaysLoaded folder side name) (IsLoadedFolder folder side) (λ name has. (All-contains (IsModFolder folder) names name folders.each has.0, has.1)) kept those.each;
  all = λ name is. those.all name (folders.all name is.0) is.1;
}

pub all-loaded : (folder : List File) (side : Side) (names : List (Bor (List ℕ))) (i : ℕ) (kept : List (Bor (List ℕ))) → AreModFolders folder (texts_at names) → length names ≤ i → AreLoadedOf folder side (take i names) kept → AreLoadedFolders folder side (texts_at kept)
all-loaded folder side names i kept folders past those =
    are-loaded_folders folder side (texts_at names) (texts_at kept) folders
    (subst (λ (ns : List (Bor (List ℕ))). AreLoadedOf folder side ns kept) (take_all i names past) those)

-- ---- One description

none-some : (content : List ℕ) → None ≡ Some content → ⊥
none-some content e = cc

-- one that isn't there says nothing
pub absent-not_loaded : (folder : List File) (side : Side) (name : List ℕ) → None ≡ content_of (description_path name) folder → SaysLoaded folder side name → ⊥
absent-not_loaded folder side name lacks says = none-some says.content (lacks ∙ says.there)

module _ (folder : List File) (side : Side) (name content : List ℕ) (there : Some content ≡ content_of (description_path name) folder) where
  same-content : (says : SaysLoaded folder side name) → says.content ≡ content
  same-content says = some-same says.content content (sym says.there ∙ sym there)

  pub flawed-not_loaded : (flaw : Flaw) → IsFlawOf content flaw → SaysLoaded folder side name → ⊥
  flawed-not_loaded flaw is says = mod-no_flaw (description_path name) says.content side says.info flaw says.says (subst (λ (c : List ℕ). IsFlawOf c flaw) (sym (same-content says)) is)

  other-not_loaded : (info : ModInfo) → IsMod (description_path name) content side info → info.loaded ≡ false → SaysLoaded folder side name → ⊥
  other-not_loaded info is not says =
      let same : info ≡ says.info = mod-one (description_path name) content side info says.info is (subst (λ (c : List ℕ). IsMod (description_path name) c side says.info) (same-content says) says.says) in
      true≢false (sym says.loaded ∙ sym (ap (λ (m : ModInfo). m.loaded) same) ∙ not)

  pub told-loaded : (info : ModInfo) → IsMod (description_path name) content side info → MatchBool info.loaded (SaysLoaded folder side name) (SaysLoaded folder side name → ⊥)
  told-loaded info is = by info.loaded refl
    where
      by : (b : Bool) → info.loaded ≡ b → MatchBool b (SaysLoaded folder side name) (SaysLoaded folder side name → ⊥)
      by true e = record { content = content; there = sym there; info = info; says = is; loaded = e }
      by false e = other-not_loaded info is e

-- ---- Laws

pub one-folder_list : (folder : List File) (side : Side) (names other : List (List ℕ)) → AreLoadedFolders folder side names → AreLoadedFolders folder side other → names ≡ other
one-folder_list folder side names other g h =
    same-ordered IsBefore (λ a b. not-both_before (description_path a) (description_path b)) names other g.ordered h.ordered
    (λ name found. h.all name (All-contains (IsLoadedFolder folder side) names name g.each found))
    (λ name found. g.all name (All-contains (IsLoadedFolder folder side) other name h.each found))

same-name : (name other : List ℕ) → description_path name ≡ description_path other → name ≡ other
same-name name other e = by name other cc
  where
    by : (a b : List ℕ) → a ++ codes "/fabric.mod.json" ≡ b ++ codes "/fabric.mod.json" → a ≡ b
    by a b f = append_cancel_right a b (codes "/fabric.mod.json") f

filter-has : {A : Type 0} (p : A → Bool) (x : A) (xs : List A) → Contains xs x → p x ≡ true → Contains (filter p xs) x
filter-has {A} p x [] (k, inside, at) e = absurd (omega arith)
filter-has {A} p x (y ∷ xs) found e = elim (contains-cases y xs x found) [
  | inl same ↦ subst (λ (list : List A). Contains list x) (sym (filter-here p y xs (ap p same ∙ e))) (subst (Contains (y ∷ filter p xs)) same (contains-head y (filter p xs)))
  | inr later ↦ elim (cases_Bool (p y)) [
    | inl passes ↦ subst (λ (list : List A). Contains list x) (sym (filter-here p y xs passes)) (contains-later y (filter p xs) x (filter-has p x xs later e))
    | inr fails ↦ subst (λ (list : List A). Contains list x) (sym (filter-skip p y xs fails)) (filter-has p x xs later e)
  ]
]

filter-of : {A : Type 0} (p : A → Bool) (x : A) (xs : List A) → Contains (filter p xs) x → Contains xs x × (p x ≡ true)
filter-of {A} p x [] (k, inside, at) = absurd (omega arith)
filter-of {A} p x (y ∷ xs) found = elim (cases_Bool (p y)) [
  | inl passes ↦ elim (contains-cases y (filter p xs) x (subst (λ (list : List A). Contains list x) (filter-here p y xs passes) found)) [
    | inl same ↦ (subst (Contains (y ∷ xs)) same (contains-head y xs), sym (ap p same) ∙ passes)
    | inr later ↦ let rest = filter-of p x xs later in (contains-later y xs x rest.0, rest.1)
  ]
  | inr fails ↦ let rest = filter-of p x xs (subst (λ (list : List A). Contains list x) (filter-skip p y xs fails) found) in (contains-later y xs x rest.0, rest.1)
]

module _ (builtin : List (List ℕ × List ℕ)) (folder : List File) (side : Side) (loaded : List ModInfo) (h : AreLoadedMods builtin folder side loaded) (name : List ℕ) where
  -- the mod in a folder of a loaded mod is among those that are loaded
  pub in-loaded_mods : IsLoadedFolder folder side name → Any (λ info. info.path ≡ description_path name) loaded
  in-loaded_mods (is, says) =
      let mods = h.0 in
      let there = h.1.all (description_path name) (name, is, refl) in
      let info = there.1 in
      let found : Contains mods info = (there.0, there.2, there.3) in
      let described = All-contains (IsDescribed folder side) mods info h.1.each found in
      let contents : described.0 ≡ says.content = some-same described.0 says.content (sym described.1.1 ∙ ap (λ p. content_of p folder) there.4 ∙ says.there) in
      let same : info ≡ says.info = mod-one (description_path name) says.content side info says.info
      (subst (λ (p : List ℕ). IsMod p says.content side info) there.4 (subst (λ (c : List ℕ). IsMod info.path c side info) contents described.2)) says.says in
      let of = h.2 in
      let kept = filter-has is_loaded info mods found (ap (λ (m : ModInfo). m.loaded) same ∙ says.loaded) in
      let last = Contains-permutation of.0 loaded info of.3.same (Contains-permutation (filter is_loaded mods) of.0 info of.1.same kept) in
      (last.0, info, last.1, last.2, there.4)

  -- the folder of a mod that is loaded is the folder of a loaded mod
  pub of-loaded_mods : Any (λ info. info.path ≡ description_path name) loaded → IsLoadedFolder folder side name
  of-loaded_mods (k, info, inside, at, same) =
      let mods = h.0 in
      let of = h.2 in
      let first = Contains-permutation of.0 (filter is_loaded mods) info (IsPermutation-sym (filter is_loaded mods) of.0 of.1.same) (Contains-permutation loaded of.0 info (IsPermutation-sym of.0 loaded of.3.same) (k, inside, at)) in
      let found = filter-of is_loaded info mods first in
      let described = All-contains (IsDescribed folder side) mods info h.1.each found.0 in
      let needs = described.1.0 in
      let names : needs.0 ≡ name = same-name needs.0 name (sym needs.2 ∙ same) in (
        subst (IsModFolder folder) names needs.1,
        record {
          content = described.0;
          there = subst (λ (p : List ℕ). content_of p folder ≡ Some described.0) same described.1.1;
          info = info;
          says = subst (λ (p : List ℕ). IsMod p described.0 side info) same described.2;
          loaded = found.1;
        },
      )

-- what is said at a path, which is that of the description
pub told-at : (folder : List File) (side : Side) (name path content : List ℕ) (info : ModInfo) → path ≡ description_path name → Some content ≡ content_of path folder → IsMod path content side info → MatchBool info.loaded (SaysLoaded folder side name) (SaysLoaded folder side name → ⊥)
told-at folder side name path content info at there is =
    told-loaded folder side name content (there ∙ ap (λ p. content_of p folder) at) info (subst (λ (p : List ℕ). IsMod p content side info) at is)

pub flawed-at : (folder : List File) (side : Side) (name path content : List ℕ) (broken : Broken) → path ≡ description_path name → Some content ≡ content_of path folder → IsModFault path content (fault.Broken broken) → SaysLoaded folder side name → ⊥
flawed-at folder side name path content broken at there flawed =
    flawed-not_loaded folder side name content (there ∙ ap (λ p. content_of p folder) at) flawed.0 flawed.1
