-- The class files of a folder, as its files are gone over.
use Rattle.std.proofs.Common.{◌≡◌, inl, inr, ℕ, ◌+◌, ◌<◌, ◌≤◌, List, [], ◌∷◌, ◌++◌, length, get_or, take, All, Any, AllPairs, Contains, Some, ap, sym, ◌∙◌, subst, arith}
use Rattle.std.proofs.lemmas.List.{take_all}
use Rattle.std.proofs.lemmas.List.Elements.{All-contains, All-push, All-weaker}
use Rattle.std.proofs.lemmas.List.Quantifiers.{Any-push, all_pairs_push}
use Rattle.wv_base.specs.declared.side.Side.{Side}
use Rattle.wv_base.specs.Folder.{File, IsPathBefore, IsInOrder, content_of}
use Rattle.wv_resolve.proofs.Lists.{any-append, front-more, all-before}
use Rattle.wv_classes.specs.declared.folder_class.FolderClass.{FolderClass}
use Rattle.wv_classes.specs.ClassPath.{IsClassPath}
use Rattle.wv_classes.specs.FolderClass.{IsReadOf, IsFolderClass, AreFolderClasses}
use Rattle.wv_classes.proofs.Contents.{content-of_file, file-of_content}

-- the class file is this file
pub record IsClassOf (folder : List File) (side : Side) (class : FolderClass) (file : File) : Type 0 where
  pub path : class.path ≡ file.0
  pub name : IsClassPath folder side file.0 class.name
  pub read : IsReadOf file.1 class.read

-- there is such a class file
abbrev pub IsFound : List File → Side → List FolderClass → File → Type 0
IsFound folder side classes file = (name : List ℕ) → IsClassPath folder side file.0 name → Any (λ class. class.path ≡ file.0) classes

abbrev pub IsEarlier : FolderClass → FolderClass → Type 0
IsEarlier class later = IsPathBefore class.path later.path

-- those of the folder's class files that are among these files
pub record AreRead (folder : List File) (side : Side) (files : List File) (classes : List FolderClass) : Type 0 where
  pub ordered : AllPairs IsEarlier classes
  pub each : All (λ class. Any (IsClassOf folder side class) files) classes
  pub all : All (IsFound folder side classes) files

pub read-none : (folder : List File) (side : Side) → AreRead folder side [] []
read-none folder side = record {
  ordered = λ i j d below inside. absurd (omega arith);
  each = λ k d inside. absurd (omega arith);
  all = λ k d inside. absurd (omega arith);
}

module _ (folder : List File) (side : Side) (files : List File) (file : File) (classes : List FolderClass) (h : AreRead folder side files classes) where
  wider : All (λ class. Any (IsClassOf folder side class) (files ++ file ∷ [])) classes
  wider = All-weaker (λ class. Any (IsClassOf folder side class) files) (λ class. Any (IsClassOf folder side class) (files ++ file ∷ [])) (λ class found. any-append (IsClassOf folder side class) files (file ∷ []) found) classes h.each

  pub read-skip : ((name : List ℕ) → IsClassPath folder side file.0 name → ⊥) → AreRead folder side (files ++ file ∷ []) classes
  read-skip none = record {
    ordered = h.ordered;
    each = wider;
    all = All-push (IsFound folder side classes) files file h.all (λ name is. absurd (none name is));
  }

  module _ (class : FolderClass) (before : All (λ f. IsPathBefore f.0 file.0) files) (is : IsClassOf folder side class file) where
    behind : (k : ℕ) (d : FolderClass) → k < length classes → IsPathBefore (get_or classes k d).path class.path
    behind k d inside =
        let found = h.each k d inside in
        let earlier = All-contains (λ (f : File). IsPathBefore f.0 file.0) files found.1 before (found.0, found.2, found.3) in
        subst (IsPathBefore (get_or classes k d).path) (sym is.path) (subst (λ (p : List ℕ). IsPathBefore p file.0) (sym found.4.path) earlier)

    pub read-push : AreRead folder side (files ++ file ∷ []) (classes ++ class ∷ [])
    read-push = record {
      ordered = all_pairs_push IsEarlier classes class h.ordered behind;
      each = All-push (λ c. Any (IsClassOf folder side c) (files ++ file ∷ [])) classes class wider (Any-push (IsClassOf folder side class) files file is);
      all = All-push (IsFound folder side (classes ++ class ∷ [])) files file
          (All-weaker (IsFound folder side classes) (IsFound folder side (classes ++ class ∷ [])) (λ f found name path. any-append (λ c. c.path ≡ f.0) classes (class ∷ []) (found name path)) files h.all)
          (λ name path. Any-push (λ c. c.path ≡ file.0) classes class is.path);
    }

-- ---- The loop over the files

module _ (folder : List File) (side : Side) (files : List File) (i : ℕ) (file : File) (classes : List FolderClass) (inside : i < length files) (at : file ≡ get_or files i file) (h : AreRead folder side (take i files) classes) where
  onward : (next : List FolderClass) → AreRead folder side (take i files ++ file ∷ []) next → AreRead folder side (take (i + 1) files) next
  onward next done = subst (λ (fs : List File). AreRead folder side fs next) (sym (front-more files i file inside at)) done

  pub step-skip : ((name : List ℕ) → IsClassPath folder side file.0 name → ⊥) → AreRead folder side (take (i + 1) files) classes
  step-skip none = onward classes (read-skip folder side (take i files) file classes h none)

  pub step-push : (class : FolderClass) → IsInOrder files → IsClassOf folder side class file → AreRead folder side (take (i + 1) files) (classes ++ class ∷ [])
  step-push class order is =
      onward (classes ++ class ∷ [])
      (read-push folder side (take i files) file classes h class (all-before (λ (f later : File). IsPathBefore f.0 later.0) files i file order inside at) is)

are-classes : (folder : List File) (side : Side) (classes : List FolderClass) → IsInOrder folder → AreRead folder side folder classes → AreFolderClasses folder side classes
are-classes folder side classes order h = record {
  ordered = h.ordered;
  each = All-weaker (λ class. Any (IsClassOf folder side class) folder) (IsFolderClass folder side) of-folder classes h.each;
  all = λ path name content is. All-contains (IsFound folder side classes) folder (path, content) h.all (file-of_content folder path content is.1) name is.0;
}
  where
    of-folder : (class : FolderClass) → Any (IsClassOf folder side class) folder → IsFolderClass folder side class
    of-folder class (k, file, inside, at, is) = (
      file.1,
      (
        subst (λ (p : List ℕ). IsClassPath folder side p class.name) (sym is.path) is.name,
        subst (λ (p : List ℕ). content_of p folder ≡ Some file.1) (sym is.path) (content-of_file folder file order (k, inside, at)),
      ),
      is.read,
    )

pub all-read : (folder : List File) (side : Side) (files : List File) (i : ℕ) (classes : List FolderClass) → files ≡ folder → IsInOrder folder → length files ≤ i → AreRead folder side (take i files) classes → AreFolderClasses folder side classes
all-read folder side files i classes same order past h =
    are-classes folder side classes order (subst (λ (fs : List File). AreRead folder side fs classes) (take_all i files past ∙ same) h)
