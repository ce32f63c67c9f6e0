-- What the kinds of class files say of the class files of a folder.
use Rattle.std.proofs.Common.{◌≡◌, inl, inr, ℕ, zero, suc, Option, Some, None, List, [], ◌∷◌, map, flat_map, Contains, refl, ap, sym, ◌∙◌, subst, arith}
use Rattle.std.specs.Borrow.{Bor}
use Rattle.std.proofs.lemmas.List.Elements.{All-contains, All-from_recursion}
use Rattle.wv_base.specs.declared.class_file.ClassFile.{ClassFile}
use Rattle.wv_base.specs.Folder.{File}
use Rattle.wv_classes.specs.declared.class_read.ClassRead.TheVariants.{Class}
use Rattle.wv_classes.specs.declared.folder_class.FolderClass.{FolderClass}
use Rattle.wv_model.specs.PlainCode.{Role, Game, Mixin}
use Rattle.wv_resolve.proofs.OneMods.{contains-head}
use Rattle.wv_form.specs.declared.kinds.FileKind.{FileKind}
use Rattle.wv_form.specs.declared.kinds.FileKind.TheVariants as kinds
use Rattle.wv_form.specs.declared.kinds.KnownFile.{KnownFile}
use Rattle.wv_form.specs.FileForm.{IsThinFile, IsCandidate, HasTarget}
use Rattle.wv_form.specs.Kinds.{IsKindOf, IsKnown, AreKnown}
use Rattle.wv_form.specs.Placing.{StandsElsewhere}
use Rattle.wv_form.specs.Tables.{name_place, target_place_of, target_places, candidate_name_of, candidate_names, mixin_name_of, mixin_names}
use Rattle.wv_form.proofs.Mapped.{mapped-contains, contains-mapped, flat-contains, contains-flat}
use Rattle.wv_form.proofs.OneTarget.{one-name, thin-apart}

-- ---- Of one class file

none-there : {A : Type 0} (x : A) → Contains [] x → ⊥
none-there x (k, inside, at) = omega arith

only : {A : Type 0} (x y : A) → Contains (x ∷ []) y → x ≡ y
only x y (zero, inside, at) = at
only x y (suc k, inside, at) = absurd (omega arith)

pub same-class : (file : FolderClass) (class other : ClassFile) → file.read ≡ Class class → file.read ≡ Class other → class ≡ other
same-class file class other h h' = let e : Class class ≡ Class other = sym h ∙ h' in cc

-- the class file spells a class whose target has this name
abbrev pub TargetsName : FolderClass → List ℕ → Type 0
TargetsName file name = (class : ClassFile) × (file.read ≡ Class class) × HasTarget class name

-- it is one name
pub one-target_name : (file : FolderClass) (class : ClassFile) (name other : List ℕ) → file.read ≡ Class class → HasTarget class name → TargetsName file other → name ≡ other
one-target_name file class name other read on (class', read', on') =
    one-name class name other on (subst (λ (c : ClassFile). HasTarget c other) (same-class file class' class read' read) on')

module _ (folder : List File) (file : FolderClass) where
  kind-candidate : (kind : FileKind) → IsKindOf folder file kind → IsCandidate folder file → Contains (candidate_name_of kind file.name) file.name
  kind-candidate kinds.NoClass h candidate = contains-head file.name []
  kind-candidate (kinds.Thin class) h candidate = contains-head file.name []
  kind-candidate (kinds.Mixin class target) h (inl thin) = absurd (thin-apart folder file thin h.0.1)
  kind-candidate (kinds.Mixin class target) h (inr none) = absurd (none class.now h.0.0)
  kind-candidate kinds.Other h (inl thin) = absurd (h.1 thin)
  kind-candidate kinds.Other h (inr none) = absurd (none h.0.0 h.0.1)

  candidate-kind : (kind : FileKind) (name : List ℕ) → IsKindOf folder file kind → Contains (candidate_name_of kind file.name) name → IsCandidate folder file × (file.name ≡ name)
  candidate-kind kinds.NoClass name h found = (inr h, only file.name name found)
  candidate-kind (kinds.Thin class) name h found = (inl h.1, only file.name name found)
  candidate-kind (kinds.Mixin class target) name h found = absurd (none-there name found)
  candidate-kind kinds.Other name h found = absurd (none-there name found)

  kind-mixin : (kind : FileKind) → IsKindOf folder file kind → IsThinFile folder Mixin file → Contains (mixin_name_of kind file.name) file.name
  kind-mixin kinds.NoClass h thin = absurd (h thin.class thin.read)
  kind-mixin (kinds.Thin class) h thin = absurd (thin-apart folder file h.1 thin)
  kind-mixin (kinds.Mixin class target) h thin = contains-head file.name []
  kind-mixin kinds.Other h thin = absurd (h.2 thin)

  mixin-kind : (kind : FileKind) (name : List ℕ) → IsKindOf folder file kind → Contains (mixin_name_of kind file.name) name → IsThinFile folder Mixin file × (file.name ≡ name)
  mixin-kind kinds.NoClass name h found = absurd (none-there name found)
  mixin-kind (kinds.Thin class) name h found = absurd (none-there name found)
  mixin-kind (kinds.Mixin class target) name h found = (h.0.1, only file.name name found)
  mixin-kind kinds.Other name h found = absurd (none-there name found)

  kind-target : (kind : FileKind) (name : List ℕ) → IsKindOf folder file kind → IsThinFile folder Mixin file → TargetsName file name → Contains (target_place_of kind file.path) (name, file.path)
  kind-target kinds.NoClass name h thin on = absurd (h thin.class thin.read)
  kind-target (kinds.Thin class) name h thin on = absurd (thin-apart folder file h.1 thin)
  kind-target (kinds.Mixin class None) name h thin (class', read', on') =
      absurd (h.1 name (subst (λ (c : ClassFile). HasTarget c name) (same-class file class' class.now read' h.0.0) on'))
  kind-target (kinds.Mixin class (Some target)) name h thin on =
      subst (λ (n : List ℕ). Contains {X = List ℕ × List ℕ} ((target, file.path) ∷ []) (n, file.path)) (one-target_name file class.now target name h.0.0 h.1 on)
      (contains-head (target, file.path) [])
  kind-target kinds.Other name h thin on = absurd (h.2 thin)

  target-kind : (kind : FileKind) (name path : List ℕ) → IsKindOf folder file kind → Contains (target_place_of kind file.path) (name, path) → IsThinFile folder Mixin file × TargetsName file name × (file.path ≡ path)
  target-kind kinds.NoClass name path h found = absurd (none-there (name, path) found)
  target-kind (kinds.Thin class) name path h found = absurd (none-there (name, path) found)
  target-kind (kinds.Mixin class None) name path h found = absurd (none-there (name, path) found)
  target-kind (kinds.Mixin class (Some target)) name path h found =
      let same : (target, file.path) ≡ (name, path) = only (target, file.path) (name, path) found in (
        h.0.1,
        (class.now, h.0.0, subst (HasTarget class.now) (ap (λ (p : List ℕ × List ℕ). p.0) same) h.1),
        ap (λ (p : List ℕ × List ℕ). p.1) same,
      )
  target-kind kinds.Other name path h found = absurd (none-there (name, path) found)

-- ---- Of all class files

module _ (folder : List File) (classes : List FolderClass) (files : List KnownFile) (known : AreKnown folder classes files) where
  known-file : (file : FolderClass) → Contains classes file → (one : KnownFile) × Contains files one × (one.file.now ≡ file)
  known-file file found = contains-mapped (λ (one : KnownFile). one.file.now) files file (subst (λ (list : List FolderClass). Contains list file) (sym known.files) found)

  file-known : (one : KnownFile) → Contains files one → Contains classes one.file.now
  file-known one found = subst (λ (list : List FolderClass). Contains list one.file.now) known.files (mapped-contains (λ (one : KnownFile). one.file.now) files one found)

  kind-known : (one : KnownFile) → Contains files one → IsKnown folder one
  kind-known one found = All-contains (IsKnown folder) files one (All-from_recursion (IsKnown folder) files known.each) found

  pub twice-known : (name path : List ℕ) → StandsElsewhere (map name_place files) name path → (other : FolderClass) × Contains classes other × (other.name ≡ name) × (other.path ≡ path → ⊥)
  twice-known name path (elsewhere, found, differs) =
      let m = contains-mapped name_place files (name, elsewhere) found in (
        m.0.file.now,
        file-known m.0 m.1,
        ap (λ (p : List ℕ × List ℕ). p.0) m.2,
        λ e. differs (sym (ap (λ (p : List ℕ × List ℕ). p.1) m.2) ∙ e),
      )

  pub known-twice : (other : FolderClass) (path : List ℕ) → Contains classes other → (other.path ≡ path → ⊥) → StandsElsewhere (map name_place files) other.name path
  known-twice other path found differs =
      let m = known-file other found in (
        other.path,
        subst (λ (f : FolderClass). Contains (map name_place files) (f.name, f.path)) m.2 (mapped-contains name_place files m.0 m.1),
        differs,
      )

  pub candidate-known : (name : List ℕ) → Contains (flat_map candidate_names files) name → (file : FolderClass) × Contains classes file × IsCandidate folder file × (file.name ≡ name)
  candidate-known name found =
      let m = contains-flat candidate_names files name found in
      let is = candidate-kind folder m.0.file.now m.0.kind name (kind-known m.0 m.1) m.2 in
      (m.0.file.now, file-known m.0 m.1, is.0, is.1)

  pub known-candidate : (file : FolderClass) → Contains classes file → IsCandidate folder file → Contains (flat_map candidate_names files) file.name
  known-candidate file found candidate =
      let m = known-file file found in
      subst (λ (f : FolderClass). Contains (flat_map candidate_names files) f.name) m.2
      (flat-contains candidate_names files m.0 m.0.file.now.name m.1 (kind-candidate folder m.0.file.now m.0.kind (kind-known m.0 m.1) (subst (IsCandidate folder) (sym m.2) candidate)))

  pub mixin-known : (name : List ℕ) → Contains (flat_map mixin_names files) name → (file : FolderClass) × Contains classes file × IsThinFile folder Mixin file × (file.name ≡ name)
  mixin-known name found =
      let m = contains-flat mixin_names files name found in
      let is = mixin-kind folder m.0.file.now m.0.kind name (kind-known m.0 m.1) m.2 in
      (m.0.file.now, file-known m.0 m.1, is.0, is.1)

  pub known-mixin : (file : FolderClass) → Contains classes file → IsThinFile folder Mixin file → Contains (flat_map mixin_names files) file.name
  known-mixin file found thin =
      let m = known-file file found in
      subst (λ (f : FolderClass). Contains (flat_map mixin_names files) f.name) m.2
      (flat-contains mixin_names files m.0 m.0.file.now.name m.1 (kind-mixin folder m.0.file.now m.0.kind (kind-known m.0 m.1) (subst (IsThinFile folder Mixin) (sym m.2) thin)))

  pub shared-known : (name path : List ℕ) → StandsElsewhere (flat_map target_places files) name path → (other : FolderClass) × Contains classes other × IsThinFile folder Mixin other × TargetsName other name × (other.path ≡ path → ⊥)
  shared-known name path (elsewhere, found, differs) =
      let m = contains-flat target_places files (name, elsewhere) found in
      let is = target-kind folder m.0.file.now m.0.kind name elsewhere (kind-known m.0 m.1) m.2 in
      (m.0.file.now, file-known m.0 m.1, is.0, is.1, λ e. differs (sym is.2 ∙ e))

  pub known-shared : (other : FolderClass) (name path : List ℕ) → Contains classes other → IsThinFile folder Mixin other → TargetsName other name → (other.path ≡ path → ⊥) → StandsElsewhere (flat_map target_places files) name path
  known-shared other name path found thin on differs =
      let m = known-file other found in (
        other.path,
        subst (λ (f : FolderClass). Contains (flat_map target_places files) (name, f.path)) m.2
            (flat-contains target_places files m.0 (name, m.0.file.now.path) m.1 (kind-target folder m.0.file.now m.0.kind name (kind-known m.0 m.1) (subst (IsThinFile folder Mixin) (sym m.2) thin) (subst (λ (f : FolderClass). TargetsName f name) (sym m.2) on))),
        differs,
      )
