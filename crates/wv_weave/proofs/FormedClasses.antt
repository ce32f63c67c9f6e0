-- Classes whose class files have the form that is built.
use Rattle.std.proofs.Common.{◌≡◌, ◌≢◌, ◌⊎◌, inl, inr, ℕ, zero, suc, ◌<◌, List, [], ◌∷◌, length, get_or, AllPairs, Contains, Some, refl, ap, sym, ◌∙◌, subst, arith}
use Rattle.std.specs.List.{AllByRecursion, AllZip}
use Rattle.std.proofs.lemmas.Bool.{cases_order}
use Rattle.std.proofs.lemmas.List.{get_or_default}
use Rattle.std.proofs.lemmas.List.Elements.{All-contains, All-from_recursion}
use Rattle.std.proofs.lemmas.List.Kept.{AllPairs-cons}
use Rattle.wv_base.specs.declared.class_file.ClassFile.{ClassFile}
use Rattle.wv_base.specs.declared.side.Side.{Side}
use Rattle.wv_base.specs.Folder.{File, IsPathBefore, content_of}
use Rattle.wv_class.specs.Meaning.{Spells}
use Rattle.wv_classes.specs.declared.class_read.ClassRead.{ClassRead}
use Rattle.wv_classes.specs.declared.class_read.ClassRead.TheVariants.{Class}
use Rattle.wv_classes.specs.declared.folder_class.FolderClass.{FolderClass}
use Rattle.wv_classes.specs.declared.loaded_class.LoadedClass.{LoadedClass}
use Rattle.wv_classes.specs.FolderClass.{AreFolderClasses, IsFolderClass, IsReadOf}
use Rattle.wv_classes.specs.LoadedClass.{IsLoadedAs}
use Rattle.wv_form.specs.FileForm.{HasTarget, IsCandidate, IsThinFile, TargetsFile}
use Rattle.wv_form.specs.Form.{AreOfForm, HasForm, IsOfForm}
use Rattle.wv_merge.specs.ThinClass.{IsReadThin, IsThin}
use Rattle.wv_model.specs.PlainCode.{Role, Game, Mixin}
use Rattle.wv_resolve.proofs.OneMods.{contains-cases, contains-head, contains-later}
use Rattle.wv_resolve.proofs.Paths.{not-before_itself}
use Rattle.wv_weave.specs.Formed.{AreFormed, HasThinTarget, IsThinLoaded}
use Rattle.wv_weave.proofs.OneTarget.{game-or-mixin}
use Rattle.wv_weave.proofs.Zips.{zip-left, zip-right}

same-content : (a b : List ℕ) → Some a ≡ Some b → a ≡ b
same-content a b e = cc

same-class : (c d : ClassFile) → Class c ≡ Class d → c ≡ d
same-class c d e = cc

same-fields : (c d : LoadedClass) → c.path ≡ d.path → c.name ≡ d.name → c.class ≡ d.class → c ≡ d
same-fields c d path name class =
    ap (λ p. record { path = p; name = c.name; class = c.class }) path
    ∙ ap (λ n. record { path = d.path; name = n; class = c.class }) name
    ∙ ap (λ k. record { path = d.path; name = d.name; class = k }) class

-- a class file is loaded as one class
same-loaded : (f : FolderClass) (c d : LoadedClass) → IsLoadedAs f c → IsLoadedAs f d → c ≡ d
same-loaded f c d h k = same-fields c d (h.path ∙ sym k.path) (h.name ∙ sym k.name) (same-class c.class d.class (sym h.read ∙ k.read))

-- one class file has a path
one-file : (files : List FolderClass) → AllPairs (λ (f later : FolderClass). IsPathBefore f.path later.path) files
    → (f g : FolderClass) → Contains files f → Contains files g → f.path ≡ g.path → f ≡ g
one-file files ordered f g (i, inside, at) (j, inside', at') same = elim (cases_order i j) [
  | inl equal ↦ sym at ∙ get_or_default files i f g inside ∙ ap (λ k. get_or files k g) equal ∙ at'
  | inr (inl below) ↦ absurd (not-before_itself f.path (subst (IsPathBefore f.path) (sym same)
      (subst (λ (x : FolderClass). IsPathBefore f.path x.path) (get_or_default files j f g inside' ∙ at') (subst (λ (x : FolderClass). IsPathBefore x.path (get_or files j f).path) at (ordered i j f below inside')))))
  | inr (inr above) ↦ absurd (not-before_itself g.path (subst (IsPathBefore g.path) same
      (subst (λ (x : FolderClass). IsPathBefore g.path x.path) (get_or_default files i g f inside ∙ at) (subst (λ (x : FolderClass). IsPathBefore x.path (get_or files i g).path) at' (ordered j i g above inside)))))
]

module _ (folder : List File) (side : Side) (files : List FolderClass) (loaded : List LoadedClass)
    (are : AreFolderClasses folder side files) (formed : AreOfForm folder files) (as_loaded : AllZip IsLoadedAs files loaded) where
  -- a class file is thin in the role in which its class was found to be
  read-thin : (role : Role) (file : FolderClass) (class : ClassFile) → Contains files file → file.read ≡ Class class → IsThinFile folder role file → IsReadThin role class
  read-thin role file class there read thin = by (All-contains (IsFolderClass folder side) files file are.each there)
    where
      by : IsFolderClass folder side file → IsReadThin role class
      by (content, is, means) =
          let bytes : content ≡ thin.content = same-content content thin.content (sym is.1 ∙ thin.there) in
          let of_class : thin.class ≡ class = same-class thin.class class (sym thin.read ∙ read) in
          let spelled : Spells content class = subst (IsReadOf content) read means in
          (thin.content, (subst (λ b. Spells b class) bytes spelled, subst (λ (c : ClassFile). IsThin role thin.content c) of_class thin.thin))

  form-of : (file : FolderClass) (class : LoadedClass) → Contains files file → IsLoadedAs file class → HasForm folder files file
  form-of file class there is = All-contains (IsOfForm folder files) files file (All-from_recursion (IsOfForm folder files) files formed) there class.class is.read

  either-thin : (file : FolderClass) (class : LoadedClass) → Contains files file → IsLoadedAs file class
      → IsThinFile folder Game file ⊎ IsThinFile folder Mixin file → IsReadThin Game class.class ⊎ IsReadThin Mixin class.class
  either-thin file class there is (inl thin) = inl (read-thin Game file class.class there is.read thin)
  either-thin file class there is (inr thin) = inr (read-thin Mixin file class.class there is.read thin)

  -- a thin mixin's class file is one
  mixin-file : (file : FolderClass) (class : LoadedClass) → Contains files file → IsLoadedAs file class → IsReadThin Mixin class.class → IsThinFile folder Mixin file
  mixin-file file class there is mixin = by (form-of file class there is).thin
    where
      by : IsThinFile folder Game file ⊎ IsThinFile folder Mixin file → IsThinFile folder Mixin file
      by (inl thin) = absurd (game-or-mixin class.class (read-thin Game file class.class there is.read thin) mixin)
      by (inr thin) = thin

  file-of : (class : LoadedClass) → Contains loaded class → (file : FolderClass) × Contains files file × IsLoadedAs file class
  file-of class there = zip-right IsLoadedAs files loaded as_loaded class there

  all-thin : (fs : List FolderClass) (cs : List LoadedClass) → ((f : FolderClass) → Contains fs f → Contains files f) → AllZip IsLoadedAs fs cs → AllByRecursion IsThinLoaded cs
  all-thin [] [] within zip = tt
  all-thin [] (c ∷ cs) within zip = elim zip [ ]
  all-thin (f ∷ fs) [] within zip = elim zip [ ]
  all-thin (f ∷ fs) (c ∷ cs) within (one, more) =
      let there : Contains files f = within f (contains-head f fs) in (
        record { thin = either-thin f c there one (form-of f c there one).thin; own = one.own },
        all-thin fs cs (λ g inside. within g (contains-later f fs g inside)) more,
      )

  -- two of the class files have two names
  names-apart : (f g : FolderClass) (c d : LoadedClass) → Contains files f → Contains files g → IsLoadedAs f c → IsLoadedAs g d → IsPathBefore f.path g.path → c.name ≢ d.name
  names-apart f g c d in_f in_g is is' before same =
      let names : g.name ≡ f.name = sym is'.name ∙ sym same ∙ is.name in
      let paths : g.path ≡ f.path = (form-of f c in_f is).once g in_g names in
      not-before_itself f.path (subst (IsPathBefore f.path) paths before)

  all-apart : (fs : List FolderClass) (cs : List LoadedClass) → ((f : FolderClass) → Contains fs f → Contains files f)
      → AllPairs (λ (f later : FolderClass). IsPathBefore f.path later.path) fs → AllZip IsLoadedAs fs cs → AllPairs (λ (c later : LoadedClass). c.name ≢ later.name) cs
  all-apart [] [] within ordered zip = λ i j d below inside. absurd (omega arith)
  all-apart [] (c ∷ cs) within ordered zip = elim zip [ ]
  all-apart (f ∷ fs) [] within ordered zip = elim zip [ ]
  all-apart (f ∷ fs) (c ∷ cs) within ordered (one, more) =
      AllPairs-cons (λ (a b : LoadedClass). a.name ≢ b.name) c cs
      (λ j d inside. let found = zip-right IsLoadedAs fs cs more (get_or cs j d) (j, inside, get_or_default cs j (get_or cs j d) d inside) in
      names-apart f found.0 c (get_or cs j d) (within f (contains-head f fs)) (within found.0 (contains-later f fs found.0 found.1)) one found.2 (before found.0 found.1))
      (all-apart fs cs (λ g inside. within g (contains-later f fs g inside)) (λ i j d below inside. ordered (suc i) (suc j) d (omega arith) (omega arith)) more)
    where
      before : (g : FolderClass) → Contains fs g → IsPathBefore f.path g.path
      before g (k, inside, at) = subst (λ (x : FolderClass). IsPathBefore f.path x.path) at (ordered 0 (suc k) g (omega arith) (omega arith))

  -- each class file is loaded, so one that may be a target's is thin
  candidate-thin : (file : FolderClass) (class : LoadedClass) → IsLoadedAs file class → IsCandidate folder file → IsThinFile folder Game file
  candidate-thin file class is (inl thin) = thin
  candidate-thin file class is (inr none) = absurd (none class.class is.read)

  -- the target of a thin mixin
  thin-target : (class : LoadedClass) → Contains loaded class → IsReadThin Mixin class.class → HasThinTarget loaded class
  thin-target class there mixin = by (file-of class there)
    where
      with : (file target : FolderClass) → IsLoadedAs file class → Contains files target → IsCandidate folder target → TargetsFile file target → HasThinTarget loaded class
      with file target is in_files candidate (c, read, names) =
          made (zip-left IsLoadedAs files loaded as_loaded target in_files)
        where
          made : (t : LoadedClass) × Contains loaded t × IsLoadedAs target t → HasThinTarget loaded class
          made (t, in_loaded, is_t) = (
            t,
            in_loaded,
            read-thin Game target t.class in_files is_t.read (candidate-thin target t is_t candidate),
            subst (HasTarget class.class) (sym is_t.name) (subst (λ (x : ClassFile). HasTarget x target.name) (same-class c class.class (sym read ∙ is.read)) names),
          )

      by : (file : FolderClass) × Contains files file × IsLoadedAs file class → HasThinTarget loaded class
      by (file, in_files, is) =
          let target = (form-of file class in_files is).targets (mixin-file file class in_files is mixin) in
          with file target.0 is target.1 target.2 target.3

  -- no other has it
  alone : (class other : LoadedClass) → Contains loaded class → Contains loaded other → IsReadThin Mixin class.class → IsReadThin Mixin other.class
      → (name : List ℕ) → HasTarget class.class name → HasTarget other.class name → class ≡ other
  alone class other there there' mixin mixin' name target target' = by (file-of class there) (file-of other there')
    where
      by : (file : FolderClass) × Contains files file × IsLoadedAs file class → (file : FolderClass) × Contains files file × IsLoadedAs file other → class ≡ other
      by (file, in_files, is) (second, in_second, is') =
          let paths : second.path ≡ file.path = (form-of file class in_files is).alone (mixin-file file class in_files is mixin) second in_second
          (mixin-file second other in_second is' mixin') (class.class, is.read, (other.class, is'.read, (name, target, target'))) in
          let same : second ≡ file = one-file files are.ordered second file in_second in_files paths in
          same-loaded file class other is (subst (λ (x : FolderClass). IsLoadedAs x other) same is')

  pub are-formed : AreFormed loaded
  are-formed = record {
    thin = all-thin files loaded (λ f there. there) as_loaded;
    distinct = all-apart files loaded (λ f there. there) are.ordered as_loaded;
    targets = thin-target;
    alone = alone;
  }
