-- The classes of a folder, and the first rule that one breaks.
use Rattle.std.proofs.Common.{◌≡◌, ◌⊎◌, inl, inr, ℕ, ◌<◌, ◌≤◌, List, [], ◌∷◌, ◌++◌, length, get_or, All, Any, AllPairs, Contains, Result, Ok, Err, IfOk, IfErr, refl, ap, sym, ◌∙◌, subst, arith}
use Rattle.std.specs.List.{AllZip, AllByRecursion}
use Rattle.std.proofs.lemmas.Bool.{cases_order}
use Rattle.std.proofs.lemmas.List.Elements.{All-contains, All-from_recursion}
use Rattle.wv_base.specs.declared.broken.Broken.{Broken}
use Rattle.wv_base.specs.declared.class_file.ClassFile.{ClassFile}
use Rattle.wv_base.specs.declared.side.Side.{Side}
use Rattle.wv_base.specs.Folder.{File, IsPathBefore, content_of}
use Rattle.wv_base.specs.Rule.{number_of}
use Rattle.wv_class.specs.Meaning.{Spells}
use Rattle.wv_class.proofs.OneMeaning.{one_class}
use Rattle.wv_resolve.specs.Finding.{IsBrokenBefore}
use Rattle.wv_resolve.proofs.Described.{any-here, any-later, zip-at}
use Rattle.wv_resolve.proofs.OneMods.{same-ordered, contains-cases, contains-head, contains-later}
use Rattle.wv_resolve.proofs.Paths.{not-before_itself, not-both_before, sides}
use Rattle.wv_classes.specs.declared.class_read.ClassRead.{ClassRead}
use Rattle.wv_classes.specs.declared.class_read.ClassRead.TheVariants.{Class, Layout}
use Rattle.wv_classes.specs.declared.fault.ClassesFault.{ClassesFault}
use Rattle.wv_classes.specs.declared.fault.ClassesFault.TheVariants as fault
use Rattle.wv_classes.specs.declared.folder_class.FolderClass.{FolderClass}
use Rattle.wv_classes.specs.declared.loaded_class.LoadedClass.{LoadedClass}
use Rattle.wv_classes.specs.ClassPath.{IsClassFile}
use Rattle.wv_classes.specs.FolderClass.{IsReadOf, IsFolderClass, AreFolderClasses}
use Rattle.wv_classes.specs.LoadedClass.{IsLoadedAs, IsLoadedClass, AreLoadedClasses}
use Rattle.wv_classes.specs.Rules.{Breaks, BreaksAbove, BreaksFrom, IsBrokenIn, IsFirstBroken, IsLeastBreak, IsBrokenFault}
use Rattle.wv_classes.proofs.Breaking.{place-of, loaded-none, one-break}
use Rattle.wv_classes.proofs.Contents.{pairs-head, pairs-tail}
use Rattle.wv_classes.proofs.OneReading.{one-read, one-file, one-class_at, among}

-- ---- The classes of the class files

nothing : FolderClass
nothing = record { path = []; name = []; read = Layout 0 }

any-zip : {A B : Type 0} (R : A → B → Type 0) (P : A → Type 0) (Q : B → Type 0) → ((x : A) (y : B) → R x y → P x → Q y) → (xs : List A) (ys : List B) → AllZip R xs ys → (x : A) → Contains xs x → P x → Any Q ys
any-zip R P Q to [] ys zip x (k, inside, at) h = absurd (omega arith)
any-zip R P Q to (w ∷ xs) [] zip x found h = absurd zip
any-zip R P Q to (w ∷ xs) (y ∷ ys) zip x found h = elim (contains-cases w xs x found) [
  | inl same ↦ any-here Q y ys (to w y zip.0 (subst P (sym same) h))
  | inr later ↦ any-later Q y ys (any-zip R P Q to xs ys zip.1 x later h)
]

of-folder : (folder : List File) (side : Side) (file : FolderClass) (loaded : LoadedClass) → IsFolderClass folder side file → IsLoadedAs file loaded → IsLoadedClass folder side loaded
of-folder folder side file loaded (content, is, read) h = (
  content,
  subst (λ (p : List ℕ). IsClassFile folder side p loaded.name content) (sym h.path) (subst (λ (n : List ℕ). IsClassFile folder side file.path n content) (sym h.name) is),
  subst (IsReadOf content) h.read read,
  h.own,
)

pub are-loaded : (folder : List File) (side : Side) (files : List FolderClass) (loaded : List LoadedClass) → AreFolderClasses folder side files → AllZip IsLoadedAs files loaded → AreLoadedClasses folder side loaded
are-loaded folder side files loaded are zip = record {
  ordered = λ i j d below inside.
      let first = zip-at IsLoadedAs files loaded zip i nothing d (omega arith) in
      let second = zip-at IsLoadedAs files loaded zip j nothing d inside in
      subst (λ (p : List ℕ). IsPathBefore p (get_or loaded j d).path) (sym first.1.path)
      (subst (IsPathBefore (get_or files i nothing).path) (sym second.1.path) (are.ordered i j nothing below second.0));
  each = λ k d inside.
      let one = zip-at IsLoadedAs files loaded zip k nothing d inside in
      of-folder folder side (get_or files k nothing) (get_or loaded k d) (are.each k nothing one.0) one.1;
  all = λ path name content is.
      let there = are.all path name content is in
      any-zip IsLoadedAs (λ file. file.path ≡ path) (λ class. class.path ≡ path) (λ file class is_as same. is_as.path ∙ same) files loaded zip there.1 (there.0, there.2, there.3) there.4;
}

-- ---- The first rule

-- an element of a list that is split is before the place, at it or behind it
split-cases : {A : Type 0} (front : List A) (x : A) (after : List A) (z : A) → Contains (front ++ x ∷ after) z → Contains front z ⊎ (x ≡ z) ⊎ Contains after z
split-cases [] x after z found = inr (contains-cases x after z found)
split-cases (y ∷ front) x after z found = elim (contains-cases y (front ++ x ∷ after) z found) [
  | inl same ↦ inl (subst (Contains (y ∷ front)) same (contains-head y front))
  | inr later ↦ elim (split-cases front x after z later) [ inl here ↦ inl (contains-later y front z here) | inr other ↦ inr other ]
]

split-contains : {A : Type 0} (front : List A) (x : A) (after : List A) → Contains (front ++ x ∷ after) x
split-contains [] x after = contains-head x after
split-contains (y ∷ front) x after = contains-later y (front ++ x ∷ after) x (split-contains front x after)

split-before : {A : Type 0} (R : A → A → Type 0) (front : List A) (x : A) (after : List A) (z : A) → AllPairs R (front ++ x ∷ after) → Contains after z → R x z
split-before R [] x after z pairs found = pairs-head R x after z pairs found
split-before R (y ∷ front) x after z pairs found = split-before R front x after z (pairs-tail R y (front ++ x ∷ after) pairs) found

abbrev IsEarlier : FolderClass → FolderClass → Type 0
IsEarlier class later = IsPathBefore class.path later.path

module _ (folder : List File) (side : Side) (files : List FolderClass) (are : AreFolderClasses folder side files) (broken : Broken) (h : IsLeastBreak files broken) where
  not-above : (file : FolderClass) (other : Broken) → BreaksAbove (number_of broken.rule) file → Breaks file other → IsBrokenBefore other broken → ⊥
  not-above file other above breaks (inl less) = let more = above other breaks in omega arith
  not-above file other above breaks (inr same) = let more = above other breaks in let equal = same.0 in omega arith

  not-from : (file : FolderClass) (other : Broken) → BreaksFrom (number_of broken.rule) file → Breaks file other → (IsPathBefore file.path h.file.path → ⊥) → IsBrokenBefore other broken → ⊥
  not-from file other from breaks behind (inl less) = let more = from other breaks in omega arith
  not-from file other from breaks behind (inr same) =
      behind (subst (λ (p : List ℕ). IsPathBefore p h.file.path) (place-of file other breaks) (subst (IsPathBefore other.place.file) (place-of h.file broken h.here.0) same.1))

  none-before : (other : Broken) → IsBrokenIn folder side other → IsBrokenBefore other broken → ⊥
  none-before other (file, is, breaks) before =
      let found = subst (λ (fs : List FolderClass). Contains fs file) h.split (among folder side files file are is) in
      elim (split-cases h.before h.file h.after file found) [
        | inl earlier ↦ not-above file other (All-contains (BreaksAbove (number_of broken.rule)) h.before file (All-from_recursion (BreaksAbove (number_of broken.rule)) h.before h.earlier) earlier) breaks before
        | inr (inl same) ↦ not-from file other (subst (BreaksFrom (number_of broken.rule)) same h.here.1) breaks
            (λ path. not-before_itself h.file.path (subst (λ (f : FolderClass). IsPathBefore f.path h.file.path) (sym same) path)) before
        | inr (inr later) ↦ not-from file other (All-contains (BreaksFrom (number_of broken.rule)) h.after file (All-from_recursion (BreaksFrom (number_of broken.rule)) h.after h.later) later) breaks
            (not-both_before h.file.path file.path (split-before IsEarlier h.before h.file h.after file (subst (AllPairs IsEarlier) h.split are.ordered) later)) before
      ]

  pub first-broken : IsFirstBroken folder side broken
  first-broken = record {
    here = (h.file, All-contains (IsFolderClass folder side) files h.file are.each (subst (λ (fs : List FolderClass). Contains fs h.file) (sym h.split) (split-contains h.before h.file h.after)), h.here.0);
    first = none-before;
  }

-- ---- What was answered

module _ {V : Type 0} (items : V → List LoadedClass) (folder : List File) (side : Side) (files : List FolderClass) (are : AreFolderClasses folder side files) where
  pub answer-loaded : (r : Result V ClassesFault) → IfOk r (λ v. AllZip IsLoadedAs files (items v)) → IfOk r (λ v. AreLoadedClasses folder side (items v))
  answer-loaded (Ok v) h = are-loaded folder side files (items v) are h
  answer-loaded (Err f) h = tt

  fault-of : (f : ClassesFault) → IsBrokenFault (IsLeastBreak files) f → IsBrokenFault (IsFirstBroken folder side) f
  fault-of fault.Memory h = tt
  fault-of (fault.Broken broken) h = first-broken folder side files are broken h

  pub answer-refused : (r : Result V ClassesFault) → IfErr r (IsBrokenFault (IsLeastBreak files)) → IfErr r (IsBrokenFault (IsFirstBroken folder side))
  answer-refused (Ok v) h = tt
  answer-refused (Err f) h = fault-of f h

-- ---- One answer

-- a class file whose class is loaded breaks no rule
pub loaded-unbroken : (folder : List File) (side : Side) (loaded : List LoadedClass) (broken : Broken) → AreLoadedClasses folder side loaded → IsBrokenIn folder side broken → ⊥
loaded-unbroken folder side loaded broken h (file, (content, is, read), breaks) =
    let there = h.all file.path file.name content is in
    let class = there.1 in
    let of = All-contains (IsLoadedClass folder side) loaded class h.each (there.0, there.2, there.3) in
    let one = one-file folder side class.path file.path class.name file.name of.0 content there.4 of.1 is in
    let spells = subst (λ (c : List ℕ). Spells c class.class) one.1 of.2 in
    loaded-none file class broken
    (record { path = there.4; name = one.0; read = one-read content file.read (Class class.class) read spells; own = of.3 })
    breaks

same-parts : (class other : LoadedClass) → class.path ≡ other.path → class.name ≡ other.name → class.class ≡ other.class → class ≡ other
same-parts class other paths names classes =
    ap (λ (p : List ℕ). record { path = p; name = class.name; class = class.class }) paths
    ∙ ap (λ (n : List ℕ). record { path = other.path; name = n; class = class.class }) names
    ∙ ap (λ (c : ClassFile). record { path = other.path; name = other.name; class = c }) classes

within : (folder : List File) (side : Side) (loaded other : List LoadedClass) → AreLoadedClasses folder side loaded → AreLoadedClasses folder side other → (class : LoadedClass) → Contains loaded class → Contains other class
within folder side loaded other g h class found =
    let of = All-contains (IsLoadedClass folder side) loaded class g.each found in
    let there = h.all class.path class.name of.0 of.1 in
    let found' : Contains other there.1 = (there.0, there.2, there.3) in
    let of' = All-contains (IsLoadedClass folder side) other there.1 h.each found' in
    let one = one-file folder side there.1.path class.path there.1.name class.name of'.0 of.0 there.4 of'.1 of.1 in
    subst (Contains other)
    (same-parts there.1 class there.4 one.0 (one_class of.0 there.1.class class.class (subst (λ (c : List ℕ). Spells c there.1.class) one.1 of'.2) of.2))
    found'

pub one-loaded : (folder : List File) (side : Side) (loaded other : List LoadedClass) → AreLoadedClasses folder side loaded → AreLoadedClasses folder side other → loaded ≡ other
one-loaded folder side loaded other g h =
    same-ordered (λ class later. IsPathBefore class.path later.path) (λ a b. not-both_before a.path b.path) loaded other g.ordered h.ordered
    (within folder side loaded other g h) (within folder side other loaded h g)

pub one-first : (folder : List File) (side : Side) (broken other : Broken) → IsFirstBroken folder side broken → IsFirstBroken folder side other → broken ≡ other
one-first folder side broken other g h = elim (cases_order (number_of broken.rule) (number_of other.rule)) [
  | inl same ↦ at-path same
  | inr (inl below) ↦ absurd (h.first broken g.here (inl below))
  | inr (inr above) ↦ absurd (g.first other h.here (inl above))
]
  where
    one-file_broken : number_of broken.rule ≡ number_of other.rule → broken.place.file ≡ other.place.file → broken ≡ other
    one-file_broken same path =
        let mine = g.here in
        let theirs = h.here in
        let paths : mine.0.path ≡ theirs.0.path = sym (place-of mine.0 broken mine.2) ∙ path ∙ place-of theirs.0 other theirs.2 in
        let files : mine.0 ≡ theirs.0 = one-class_at folder side mine.0 theirs.0 mine.1 theirs.1 paths in
        one-break theirs.0 broken other (subst (λ (f : FolderClass). Breaks f broken) files mine.2) theirs.2 same

    at-path : number_of broken.rule ≡ number_of other.rule → broken ≡ other
    at-path same = elim (sides broken.place.file other.place.file) [
      | inl path ↦ one-file_broken same path
      | inr (inl before) ↦ absurd (h.first broken g.here (inr (same, before)))
      | inr (inr after) ↦ absurd (g.first other h.here (inr (sym same, after)))
    ]
