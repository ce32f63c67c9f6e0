-- Class files that are checked in turn.
use Rattle.std.proofs.Common.{◌≡◌, ℕ, ◌+◌, ◌<◌, ◌≤◌, List, ◌∷◌, length, get_or, take, map, ap, sym, ◌∙◌, subst}
use Rattle.std.specs.List.{AllByRecursion}
use Rattle.std.proofs.lemmas.List.{map-append, take_all}
use Rattle.std.proofs.lemmas.List.Elements.{All-from_recursion}
use Rattle.wv_base.specs.declared.broken.Broken.{Broken}
use Rattle.wv_base.specs.Folder.{File}
use Rattle.wv_classes.specs.declared.folder_class.FolderClass.{FolderClass}
use Rattle.wv_resolve.proofs.Entries.{first-at}
use Rattle.wv_resolve.proofs.Lists.{each-map}
use Rattle.wv_form.specs.declared.kinds.KnownFile.{KnownFile}
use Rattle.wv_form.specs.Form.{IsOfForm, AreOfForm, IsOutOfForm, IsFirstOutOfForm, out_of_form}
use Rattle.wv_form.specs.Kinds.{IsKnown, AreKnown}

module _ (folder : List File) (classes : List FolderClass) (files : List KnownFile) (known : AreKnown folder classes files) (i : ℕ) where
  -- each kind is that of its file
  pub known-at : (one : KnownFile) → i < length files → one ≡ get_or files i one → IsKnown folder one
  known-at one inside at = subst (IsKnown folder) (sym at) (All-from_recursion (IsKnown folder) files known.each i one inside)

  -- those so far have the form, and the one at the place hasn't
  pub first-file : (one : KnownFile) (broken : Broken) → i < length files → one ≡ get_or files i one → AllByRecursion (λ (k : KnownFile). IsOfForm folder classes k.file.now) (take i files) → IsOutOfForm folder classes one.file.now → broken ≡ out_of_form one.file.now.path → IsFirstOutOfForm folder classes broken
  first-file one broken inside at formed lacks is =
      let first = first-at (λ (k : KnownFile). IsOfForm folder classes k.file.now) (λ (k : KnownFile). IsOutOfForm folder classes k.file.now) files i one inside at formed lacks in (
        one.file.now,
        record {
          front = map (λ (k : KnownFile). k.file.now) first.front;
          after = map (λ (k : KnownFile). k.file.now) first.after;
          split = sym known.files ∙ ap (map (λ (k : KnownFile). k.file.now)) first.split ∙ map-append (λ (k : KnownFile). k.file.now) first.front (one ∷ first.after);
          before = each-map (IsOfForm folder classes) (λ (k : KnownFile). k.file.now) first.front first.before;
          here = (lacks, is);
        },
      )

  -- all of them have the form
  pub all-files : length files ≤ i → AllByRecursion (λ (k : KnownFile). IsOfForm folder classes k.file.now) (take i files) → AreOfForm folder classes
  all-files past formed =
      subst (AllByRecursion (IsOfForm folder classes)) known.files
      (each-map (IsOfForm folder classes) (λ (k : KnownFile). k.file.now) files
      (subst (AllByRecursion (λ (k : KnownFile). IsOfForm folder classes k.file.now)) (take_all i files past) formed))
