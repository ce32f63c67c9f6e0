-- The descriptions of mods, as the names of their folders are gone over.
use Rattle.std.proofs.Common.{◌≡◌, inl, inr, ℕ, zero, suc, ◌<◌, ◌≤◌, List, [], ◌∷◌, length, get_or, take, Any, Some, None, refl, ap, sym, ◌∙◌, subst, arith, length-take}
use Rattle.std.specs.Borrow.{Bor}
use Rattle.std.specs.List.{AllZip}
use Rattle.std.proofs.lemmas.Bool.{cases_order}
use Rattle.std.proofs.lemmas.List.{get_or_default, get_or-take, get_or-map, length-map, take-map, take_all}
use Rattle.wv_base.specs.declared.broken.Broken.{Broken}
use Rattle.wv_base.specs.Folder.{File, IsPathBefore, content_of}
use Rattle.wv_mod.specs.FirstBroken.{IsFirstBreak}
use Rattle.wv_mod.specs.declared.fault.ModFault.{ModFault}
use Rattle.wv_mod.specs.declared.fault.ModFault.TheVariants as fault
use Rattle.wv_resolve.specs.declared.discovery.Description.{Description}
use Rattle.wv_resolve.specs.Refusal.{IsBrokenFault}
use Rattle.wv_resolve.specs.Discovery.{IsModFolder, LacksDescription, description_path}
use Rattle.wv_resolve.specs.Finding.{texts_at, AreModFolders, IsDescriptionIn, LacksIn, AreDescriptions}
use Rattle.wv_resolve.proofs.Paths.{not-before_itself, not-both_before}

-- ---- Two lists that go together

pub any-here : {A : Type 0} (P : A → Type 0) (x : A) (xs : List A) → P x → Any P (x ∷ xs)
any-here P x xs h = (0, x, omega arith, refl, h)

pub any-later : {A : Type 0} (P : A → Type 0) (x : A) (xs : List A) → Any P xs → Any P (x ∷ xs)
any-later P x xs (k, y, inside, at, h) = (suc k, y, omega arith, at, h)

pub zip-at : {A B : Type 0} (R : A → B → Type 0) (xs : List A) (ys : List B) → AllZip R xs ys → (k : ℕ) (d : A) (e : B) → k < length ys → (k < length xs) × R (get_or xs k d) (get_or ys k e)
zip-at R [] [] h k d e inside = absurd (omega arith)
zip-at R [] (y ∷ ys) h k d e inside = absurd h
zip-at R (x ∷ xs) [] h k d e inside = absurd h
zip-at R (x ∷ xs) (y ∷ ys) h zero d e inside = (omega arith, h.0)
zip-at R (x ∷ xs) (y ∷ ys) h (suc k) d e inside = let rest = zip-at R xs ys h.1 k d e (omega arith) in let within = rest.0 in (omega arith, rest.1)

zip-any : {A B : Type 0} (R : A → B → Type 0) (xs : List A) (ys : List B) → AllZip R xs ys → (x : A) (k : ℕ) → k < length xs → get_or xs k x ≡ x → Any (R x) ys
zip-any R [] ys h x k inside at = absurd (omega arith)
zip-any R (w ∷ xs) [] h x k inside at = absurd h
zip-any R (w ∷ xs) (y ∷ ys) h x zero inside at = any-here (R x) y ys (subst (λ v. R v y) at h.0)
zip-any R (w ∷ xs) (y ∷ ys) h x (suc k) inside at = any-later (R x) y ys (zip-any R xs ys h.1 x k (omega arith) at)

any-as : {A : Type 0} (P Q : A → Type 0) → ((x : A) → P x → Q x) → (xs : List A) → Any P xs → Any Q xs
any-as P Q weaker xs (k, x, inside, at, h) = (k, x, inside, at, weaker x h)

zip-texts : {B : Type 0} (R : List ℕ → B → Type 0) (xs : List (Bor (List ℕ))) (ys : List B) → AllZip (λ x. R x.now) xs ys → AllZip R (texts_at xs) ys
zip-texts R [] [] h = tt
zip-texts R [] (y ∷ ys) h = absurd h
zip-texts R (x ∷ xs) [] h = absurd h
zip-texts R (x ∷ xs) (y ∷ ys) h = (h.0, zip-texts R xs ys h.1)

-- ---- All of them are there

are-descriptions : (folder : List File) (names : List (List ℕ)) (descriptions : List Description) → AreModFolders folder names → AllZip (IsDescriptionIn folder) names descriptions → AreDescriptions folder descriptions
are-descriptions folder names descriptions folders zip = record {
  ordered = λ i j d below inside.
      let first = zip-at (IsDescriptionIn folder) names descriptions zip i [] d (omega arith) in
      let second = zip-at (IsDescriptionIn folder) names descriptions zip j [] d inside in
      subst (λ (p : List ℕ). IsPathBefore p (get_or descriptions j d).path) (sym first.1.0)
      (subst (λ (p : List ℕ). IsPathBefore (description_path (get_or names i [])) p) (sym second.1.0)
      (folders.ordered i j [] below second.0));
  each = λ k d inside.
      let one = zip-at (IsDescriptionIn folder) names descriptions zip k [] d inside in
      ((get_or names k [], folders.each k [] one.0, one.1.0), one.1.1);
  all = λ path needs.
      let found = folders.all needs.0 needs.1 in
      any-as (IsDescriptionIn folder needs.0) (λ (d : Description). d.path ≡ path) (λ d is. is.0 ∙ sym needs.2) descriptions
      (zip-any (IsDescriptionIn folder) names descriptions zip needs.0 found.0 found.1 found.2);
}

pub all-described : (folder : List File) (names : List (Bor (List ℕ))) (i : ℕ) (descriptions : List Description) → AreModFolders folder (texts_at names) → length names ≤ i → AllZip (λ name. IsDescriptionIn folder name.now) (take i names) descriptions → AreDescriptions folder descriptions
all-described folder names i descriptions folders past zip =
    are-descriptions folder (texts_at names) descriptions folders
    (zip-texts (IsDescriptionIn folder) names descriptions (subst (λ (ns : List (Bor (List ℕ))). AllZip (λ (name : Bor (List ℕ)). IsDescriptionIn folder name.now) ns descriptions) (take_all i names past) zip))

-- ---- One of them is missing

path-is : (broken : Broken) (path : List ℕ) → broken.place.file ≡ path → (other : Broken) (later : List ℕ) → other.place.file ≡ later → IsPathBefore broken.place.file other.place.file → IsPathBefore path later
path-is broken path is other later also before = subst (IsPathBefore path) also (subst (λ (p : List ℕ). IsPathBefore p other.place.file) is before)

none-some : (content : List ℕ) → None ≡ Some content → ⊥
none-some content e = cc

module _ (folder : List File) (names : List (List ℕ)) (i : ℕ) (descriptions : List Description) (folders : AreModFolders folder names) (inside : i < length names) (zip : AllZip (IsDescriptionIn folder) (take i names) descriptions) where
  -- one that is missing doesn't come before the first
  none-before : (name other : List ℕ) (j : ℕ) → get_or names i name ≡ name → j < length names → get_or names j other ≡ other → content_of (description_path other) folder ≡ None → IsPathBefore (description_path other) (description_path name) → ⊥
  none-before name other j at inside' at' lacks before = elim (cases_order j i) [
    | inl same ↦ not-before_itself (description_path name) (subst (λ (n : List ℕ). IsPathBefore (description_path n) (description_path name)) (sym at' ∙ get_or_default names j other name inside' ∙ ap (λ k. get_or names k name) same ∙ at) before)
    | inr (inl below) ↦
        let early : j < length (take i names) = omega (arith, length-take i names) in
        let found = zip-any (IsDescriptionIn folder) (take i names) descriptions zip other j early (get_or-take i names j other below ∙ at') in
        let described = found.4 in
        none-some found.1.bytes.now (sym lacks ∙ ap (λ p. content_of p folder) (sym described.0) ∙ described.1)
    | inr (inr above) ↦
        not-both_before (description_path name) (description_path other)
        (subst (λ (n : List ℕ). IsPathBefore (description_path n) (description_path other)) at (subst (λ (n : List ℕ). IsPathBefore (description_path (get_or names i name)) (description_path n)) (get_or_default names j name other inside' ∙ at') (folders.ordered i j name above inside')))
        before
  ]

  first-missing : (name : List ℕ) (broken : Broken) → name ≡ get_or names i name → LacksIn folder name broken → IsFirstBreak (LacksDescription folder) broken
  first-missing name broken at lacks = record {
    here = (description_path name, (name, subst (IsModFolder folder) (sym at) (folders.each i name inside), refl), lacks.0, lacks.1);
    first = λ other h before.
        let needs = h.1 in
        let found = folders.all needs.0 needs.1 in
        none-before name needs.0 found.0 (sym at) found.1 found.2 (ap (λ p. content_of p folder) (sym needs.2) ∙ h.2)
        (path-is other (description_path needs.0) (ap (λ (b : Broken). b.place.file) h.3 ∙ needs.2) broken (description_path name) (ap (λ (b : Broken). b.place.file) lacks.1) before);
  }

  missing-fault : (name : List ℕ) (f : ModFault) → name ≡ get_or names i name → IsBrokenFault (LacksIn folder name) f → IsBrokenFault (IsFirstBreak (LacksDescription folder)) f
  missing-fault name fault.Memory at h = tt
  missing-fault name (fault.Broken broken) at h = first-missing name broken at h

pub lacking : (folder : List File) (names : List (Bor (List ℕ))) (i : ℕ) (descriptions : List Description) (name : Bor (List ℕ)) (f : ModFault) → AreModFolders folder (texts_at names) → i < length names → name ≡ get_or names i name → AllZip (λ n. IsDescriptionIn folder n.now) (take i names) descriptions → IsBrokenFault (LacksIn folder name.now) f → IsBrokenFault (IsFirstBreak (LacksDescription folder)) f
lacking folder names i descriptions name f folders inside at zip h =
    missing-fault folder (texts_at names) i descriptions folders (omega (arith, length-map names (λ (n : Bor (List ℕ)). n.now)))
    (subst (λ (ns : List (List ℕ)). AllZip (IsDescriptionIn folder) ns descriptions) (sym (take-map (λ (n : Bor (List ℕ)). n.now) i names)) (zip-texts (IsDescriptionIn folder) (take i names) descriptions zip))
    name.now f (ap (λ (n : Bor (List ℕ)). n.now) at ∙ sym (get_or-map (λ (n : Bor (List ℕ)). n.now) names i name name.now inside)) h
