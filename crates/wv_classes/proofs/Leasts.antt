-- Class files that are checked in turn: the class of each, or the first rule that they break.
use Rattle.std.proofs.Common.{◌≡◌, inl, inr, ℕ, ◌+◌, ◌<◌, ◌≤◌, List, [], ◌∷◌, ◌++◌, length, get_or, take, Option, Some, None, MatchOption, IfSome, IsSomeAnd, refl, ap, sym, ◌∙◌, subst, append_assoc, arith}
use Rattle.std.specs.List.{AllZip, AllByRecursion}
use Rattle.wv_base.specs.declared.broken.Broken.{Broken}
use Rattle.wv_base.specs.Rule.{number_of}
use Rattle.wv_mod.proofs.Relating.{relates-each}
use Rattle.wv_resolve.proofs.Lists.{each-append, front-more}
use Rattle.wv_classes.specs.declared.checking.Checking.{Checking}
use Rattle.wv_classes.specs.declared.folder_class.FolderClass.{FolderClass}
use Rattle.wv_classes.specs.declared.loaded_class.LoadedClass.{LoadedClass}
use Rattle.wv_classes.specs.LoadedClass.{IsLoadedAs}
use Rattle.wv_classes.specs.Rules.{Breaks, BreaksAbove, BreaksFrom, IsLeastOf, IsLeastBreak}
use Rattle.wv_classes.specs.Checking.{IsCheckingOf}
use Rattle.wv_classes.proofs.Breaking.{loaded-none}

each-weaker : {A : Type 0} (P Q : A → Type 0) → ((x : A) → P x → Q x) → (xs : List A) → AllByRecursion P xs → AllByRecursion Q xs
each-weaker P Q weaker [] h = tt
each-weaker P Q weaker (x ∷ xs) h = (weaker x h.0, each-weaker P Q weaker xs h.1)

zip-push : {A B : Type 0} (R : A → B → Type 0) (xs : List A) (ys : List B) (x : A) (y : B) → AllZip R xs ys → R x y → AllZip R (xs ++ x ∷ []) (ys ++ y ∷ [])
zip-push R [] [] x y h one = (one, tt)
zip-push R [] (z ∷ ys) x y h one = absurd h
zip-push R (w ∷ xs) [] x y h one = absurd h
zip-push R (w ∷ xs) (z ∷ ys) x y h one = (h.0, zip-push R xs ys x y h.1 one)

-- what loaded class files break has any number
none-above : (number : ℕ) (files : List FolderClass) (loaded : List LoadedClass) → AllZip IsLoadedAs files loaded → AllByRecursion (BreaksAbove number) files
none-above number files loaded zip = relates-each IsLoadedAs (BreaksAbove number) (λ file class is other breaks. absurd (loaded-none file class other is breaks)) files loaded zip

-- what the files break has no smaller number than the first
all-from : (files : List FolderClass) (first : Broken) → IsLeastBreak files first → AllByRecursion (BreaksFrom (number_of first.rule)) files
all-from files first h =
    let from = BreaksFrom (number_of first.rule) in
    subst (AllByRecursion from) (sym h.split)
    (each-append from h.before (h.file ∷ h.after)
    (each-weaker (BreaksAbove (number_of first.rule)) from (λ file above other breaks. let less = above other breaks in omega arith) h.before h.earlier)
    (h.here.1, h.later))

module _ (done : List FolderClass) (next : FolderClass) where
  abbrev More : List FolderClass
  More = done ++ next ∷ []

  -- one more that breaks nothing with a smaller number
  least-later : (first : Broken) → IsLeastBreak done first → BreaksFrom (number_of first.rule) next → IsLeastBreak More first
  least-later first h from = record {
    before = h.before;
    file = h.file;
    after = h.after ++ next ∷ [];
    split = ap (λ files. files ++ next ∷ []) h.split ∙ append_assoc h.before (h.file ∷ h.after) (next ∷ []);
    here = h.here;
    earlier = h.earlier;
    later = each-append (BreaksFrom (number_of first.rule)) h.after (next ∷ []) h.later (from, tt);
  }

  -- one more that is loaded
  pub add-loaded : (first : Option Broken) (loaded : List LoadedClass) (class : LoadedClass) → MatchOption first (AllZip IsLoadedAs done loaded) (IsLeastBreak done) → IsLoadedAs next class → MatchOption first (AllZip IsLoadedAs More (loaded ++ class ∷ [])) (IsLeastBreak More)
  add-loaded None loaded class h is = zip-push IsLoadedAs done loaded next class h is
  add-loaded (Some first) loaded class h is = least-later first h (λ other breaks. absurd (loaded-none next class other is breaks))

  module _ (broken : Broken) (least : IsLeastOf next broken) where
    least-last : AllByRecursion (BreaksAbove (number_of broken.rule)) done → IsLeastBreak More broken
    least-last above = record { before = done; file = next; after = []; split = refl; here = least; earlier = above; later = tt }

    -- one more that breaks a rule with a smaller number than any so far
    pub add-first : (first : Option Broken) (loaded : List LoadedClass) → MatchOption first (AllZip IsLoadedAs done loaded) (IsLeastBreak done) → IfSome first (λ f. number_of broken.rule < number_of f.rule) → IsLeastBreak More broken
    add-first None loaded h less = least-last (none-above (number_of broken.rule) done loaded h)
    add-first (Some first) loaded h less =
        least-last (each-weaker (BreaksFrom (number_of first.rule)) (BreaksAbove (number_of broken.rule)) (λ file from other breaks. let most = from other breaks in omega arith) done (all-from done first h))

    -- one more that breaks a rule with no smaller number
    pub add-later : (first : Option Broken) (loaded : List LoadedClass) → MatchOption first (AllZip IsLoadedAs done loaded) (IsLeastBreak done) → IsSomeAnd first (λ f. number_of f.rule ≤ number_of broken.rule) → MatchOption first (AllZip IsLoadedAs More loaded) (IsLeastBreak More)
    add-later None loaded h most = absurd most
    add-later (Some first) loaded h most = least-later first h (λ other breaks. let from = least.1 other breaks in omega arith)

-- ---- The loop over the class files

pub check-more : (files : List FolderClass) (i : ℕ) (next : FolderClass) (checking : Checking) → i < length files → next ≡ get_or files i next → IsCheckingOf (take i files ++ next ∷ []) checking → IsCheckingOf (take (i + 1) files) checking
check-more files i next checking inside at h = subst (λ (fs : List FolderClass). IsCheckingOf fs checking) (sym (front-more files i next inside at)) h
