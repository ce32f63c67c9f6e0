-- The names of the folders of mods, as the files are gone over.
use Rattle.std.proofs.Common.{◌≡◌, ◌⊎◌, inl, inr, ℕ, ◌+◌, ◌-◌, ◌<◌, Bool, true, false, true≢false, MatchBool, List, [], ◌∷◌, ◌++◌, length, get_or, take, All, Any, Contains, Some, refl, ap, sym, ◌∙◌, subst, arith, length-append, bytes_eq}
use Rattle.std.specs.Borrow.{Bor}
use Rattle.std.specs.List.{slice_get}
use Rattle.std.proofs.lemmas.Bool.{cases_order}
use Rattle.std.proofs.lemmas.List.{map-append, get_or_default}
use Rattle.std.proofs.lemmas.List.Elements.{All-push, All-weaker, Contains-append_left, Contains-push, Contains-push_cases}
use Rattle.std.proofs.lemmas.List.Quantifiers.{all_pairs_push}
use Rattle.std.proofs.lemmas.Option.{slice_get-get_or}
use Rattle.std.proofs.lemmas.Slice.Eq.{bytes_eq-Decides}
use Rattle.std.proofs.Math.Seq.{get_or-append_seam}
use Rattle.wv_base.specs.Folder.{File, IsPathBefore, IsPathAfter, IsInOrder}
use Rattle.wv_resolve.specs.Discovery.{LiesIn, IsModFolder, description_path}
use Rattle.wv_resolve.specs.Finding.{texts_at, IsLast, AddsOnce, AreModFolders}
use Rattle.wv_resolve.proofs.Lists.{any-append, front-more, all-before}
use Rattle.wv_resolve.proofs.Paths.{not-both_before, lies-one, descriptions-stand}

-- ---- The last of a list

last-of : {A : Type 0} (x : A) (xs : List A) → IsLast (x ∷ xs) (get_or (x ∷ xs) (length xs) x)
last-of x [] = ([], refl)
last-of x (y ∷ xs) =
    let rest = last-of y xs in
    (x ∷ rest.0, ap (λ zs. x ∷ zs) (rest.1 ∙ ap (λ z. rest.0 ++ z ∷ []) (get_or_default (y ∷ xs) (length xs) y x (omega arith))))

last-at : {A : Type 0} (xs : List A) (k : ℕ) (x : A) → k + 1 ≡ length xs → get_or xs k x ≡ x → IsLast xs x
last-at [] k x long at = absurd (omega arith)
last-at (y ∷ xs) k x long at =
    let same : k ≡ length xs = omega arith in
    subst (IsLast (y ∷ xs)) (get_or_default (y ∷ xs) (length xs) y x (omega arith) ∙ ap (λ i. get_or (y ∷ xs) i x) (sym same) ∙ at) (last-of y xs)

some-same : {A : Type 0} (x y : A) → Some x ≡ Some y → x ≡ y
some-same x y e = cc

last-found : {A : Type 0} (xs : List A) (x : A) → Some x ≡ slice_get xs (length xs - 1) → IsLast xs x
last-found [] x e = cc
last-found (y ∷ xs) x e =
    let k = length (y ∷ xs) - 1 in
    last-at (y ∷ xs) k x (omega arith) (sym (some-same x (get_or (y ∷ xs) k x) (e ∙ slice_get-get_or (y ∷ xs) k x (omega arith))))

pub last-text : (names : List (Bor (List ℕ))) (name : Bor (List ℕ)) → Some name ≡ slice_get names (length names - 1) → IsLast (texts_at names) name.now
last-text names name e =
    let last = last-found names name e in
    (texts_at last.0, ap texts_at last.1 ∙ map-append (λ (n : Bor (List ℕ)). n.now) last.0 (name ∷ []))

push_same : {A : Type 0} (xs ys : List A) (x y : A) → xs ++ x ∷ [] ≡ ys ++ y ∷ [] → x ≡ y
push_same [] [] x y e = cc
push_same [] (w ∷ ys) x y e = let rest : [] ≡ ys ++ y ∷ [] = cc in absurd (omega (arith, ap length rest, length-append ys (y ∷ [])))
push_same (v ∷ xs) [] x y e = let rest : xs ++ x ∷ [] ≡ [] = cc in absurd (omega (arith, ap length rest, length-append xs (x ∷ [])))
push_same (v ∷ xs) (w ∷ ys) x y e = let rest : xs ++ x ∷ [] ≡ ys ++ y ∷ [] = cc in push_same xs ys x y rest

-- what comparing with the last tells
pub last-tested : (names : List (List ℕ)) (last name : List ℕ) (b : Bool) → IsLast names last → b ≡ bytes_eq last name → MatchBool b (IsLast names name) (IsLast names name → ⊥)
last-tested names last name true is e = subst (IsLast names) ((bytes_eq-Decides last name).0 (sym e)) is
last-tested names last name false is e = λ other.
    let same : last ≡ name = push_same is.0 other.0 last name (sym is.1 ∙ other.1) in
    true≢false (sym ((bytes_eq-Decides last name).1 same) ∙ sym e)

-- ---- One file more

pub any-push_cases : {A : Type 0} (P : A → Type 0) (xs : List A) (y : A) → Any P (xs ++ y ∷ []) → Any P xs ⊎ P y
any-push_cases {A} P xs y (k, x, inside, at, h) = by (Contains-push_cases xs y x (k, inside, at))
  where
    by : Contains xs x ⊎ (y ≡ x) → Any P xs ⊎ P y
    by (inl found) = inl (found.0, x, found.1, found.2, h)
    by (inr same) = inr (subst P (sym same) h)

pub folders-none : AreModFolders [] []
folders-none = record {
  ordered = λ i j d below inside. absurd (omega arith);
  each = λ k d inside. absurd (omega arith);
  all = λ name folder. absurd (let inside = folder.2 in omega arith);
}

module _ (files : List File) (file : File) where
  wider : (names : List (List ℕ)) → All (IsModFolder files) names → All (IsModFolder (files ++ file ∷ [])) names
  wider names each = All-weaker (IsModFolder files) (IsModFolder (files ++ file ∷ [])) (λ name h. any-append (λ (f : File). LiesIn name f.0) files (file ∷ []) h) names each

  -- it lies in no folder of a mod
  pub folders-skip : (names : List (List ℕ)) → ((name : List ℕ) → LiesIn name file.0 → ⊥) → AreModFolders files names → AreModFolders (files ++ file ∷ []) names
  folders-skip names none h = record {
    ordered = h.ordered;
    each = wider names h.each;
    all = λ name folder. elim (any-push_cases (λ (f : File). LiesIn name f.0) files file folder) [ inl earlier ↦ h.all name earlier | inr here ↦ absurd (none name here) ];
  }

  has : (names : List (List ℕ)) (name other : List ℕ) → Contains names name → LiesIn name file.0 → LiesIn other file.0 → Contains names other
  has names name other found here also = subst (Contains names) (lies-one name other file.0 here also) found

  -- it lies in the folder of the last one
  pub folders-again : (names : List (List ℕ)) (name : List ℕ) → LiesIn name file.0 → IsLast names name → AreModFolders files names → AreModFolders (files ++ file ∷ []) names
  folders-again names name here last h = record {
    ordered = h.ordered;
    each = wider names h.each;
    all = λ other folder. elim (any-push_cases (λ (f : File). LiesIn other f.0) files file folder) [
      | inl earlier ↦ h.all other earlier
      | inr also ↦ has names name other (subst (λ (ns : List (List ℕ)). Contains ns name) (sym last.1) (Contains-push last.0 name)) here also
    ];
  }

  module _ (names : List (List ℕ)) (name : List ℕ) (h : AreModFolders files names) (after : IsPathAfter file.0 files) (here : LiesIn name file.0) (not_last : IsLast names name → ⊥) where
    -- it lies in the folder of an earlier file, or that one's description comes before
    beside : (other : List ℕ) → IsModFolder files other → (other ≡ name) ⊎ IsPathBefore (description_path other) (description_path name)
    beside other (k, f, inside, at, lies) =
        descriptions-stand other name f.0 file.0 lies here (subst (λ (g : File). IsPathBefore g.0 file.0) at (after k f inside))

    new : (k : ℕ) (d : List ℕ) → k < length names → get_or names k d ≡ name → ⊥
    new k d inside same = elim (cases_order (k + 1) (length names)) [
      | inl long ↦ not_last (last-at names k name long (get_or_default names k name d inside ∙ same))
      | inr (inl below) ↦ earlier below
      | inr (inr above) ↦ absurd (omega arith)
    ]
      where
        earlier : k + 1 < length names → ⊥
        earlier below =
            let n = length names - 1 in
            let within : n < length names = omega arith in
            elim (beside (get_or names n d) (h.each n d within)) [
              | inl last ↦ not_last (last-at names n name (omega arith) (get_or_default names n name d within ∙ last))
              | inr before ↦ not-both_before (description_path (get_or names n d)) (description_path name) before (subst (λ (x : List ℕ). IsPathBefore (description_path x) (description_path (get_or names n d))) same (h.ordered k n d (omega arith) within))
            ]

    behind : (k : ℕ) (d : List ℕ) → k < length names → IsPathBefore (description_path (get_or names k d)) (description_path name)
    behind k d inside = elim (beside (get_or names k d) (h.each k d inside)) [ inl same ↦ absurd (new k d inside same) | inr before ↦ before ]

    -- it lies in a folder of which there was no file
    pub folders-push : AreModFolders (files ++ file ∷ []) (names ++ name ∷ [])
    folders-push = record {
      ordered = all_pairs_push (λ n later. IsPathBefore (description_path n) (description_path later)) names name h.ordered behind;
      each = All-push (IsModFolder (files ++ file ∷ [])) names name (wider names h.each) (length files, file, omega (arith, length-append files (file ∷ [])), get_or-append_seam files file [] file, here);
      all = λ other folder. elim (any-push_cases (λ (f : File). LiesIn other f.0) files file folder) [
        | inl earlier ↦ Contains-append_left names (name ∷ []) other (h.all other earlier)
        | inr also ↦ has (names ++ name ∷ []) name other (Contains-push names name) here also
      ];
    }

-- ---- The loop over the files

module _ (folder : List File) (i : ℕ) (file : File) (inside : i < length folder) (at : file ≡ get_or folder i file) (names : List (Bor (List ℕ))) (h : AreModFolders (take i folder) (texts_at names)) where
  onward : (next : List (List ℕ)) → AreModFolders (take i folder ++ file ∷ []) next → AreModFolders (take (i + 1) folder) next
  onward next done = subst (λ (files : List File). AreModFolders files next) (sym (front-more folder i file inside at)) done

  pub step-skip : ((name : List ℕ) → LiesIn name file.0 → ⊥) → AreModFolders (take (i + 1) folder) (texts_at names)
  step-skip none = onward (texts_at names) (folders-skip (take i folder) file (texts_at names) none h)

  pub step-add : (name : Bor (List ℕ)) (more : List (List ℕ)) → IsInOrder folder → LiesIn name.now file.0 → AddsOnce (texts_at names) name.now more → AreModFolders (take (i + 1) folder) more
  step-add name more order here (inl again) =
      onward more (subst (AreModFolders (take i folder ++ file ∷ [])) (sym again.1) (folders-again (take i folder) file (texts_at names) name.now here again.0 h))
  step-add name more order here (inr new) =
      onward more (subst (AreModFolders (take i folder ++ file ∷ [])) (sym new.1) (folders-push (take i folder) file (texts_at names) name.now h (all-before (λ (f later : File). IsPathBefore f.0 later.0) folder i file order inside at) here new.0))
