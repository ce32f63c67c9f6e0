-- Class files have the form, or are refused in one way.
use Rattle.std.proofs.Common.{◌≡◌, inl, inr, List, ap, sym, ◌∙◌, subst}
use Rattle.wv_base.specs.declared.broken.Broken.{Broken}
use Rattle.wv_base.specs.Folder.{File}
use Rattle.wv_classes.specs.declared.folder_class.FolderClass.{FolderClass}
use Rattle.wv_front.proofs.FirstOnes.{one-first, none-first}
use Rattle.wv_form.specs.Form.{HasForm, LacksForm, not_thin, twice, no_target, shared, names_mixin, IsOfForm, AreOfForm, IsOutOfForm, IsFirstOutOfForm, out_of_form}

lacks : (folder : List File) (classes : List FolderClass) (file : FolderClass) → HasForm folder classes file → LacksForm folder classes file → ⊥
lacks folder classes file h (not_thin game mixin) = elim h.thin [ inl thin ↦ game thin | inr thin ↦ mixin thin ]
lacks folder classes file h (twice other found same differs) = differs (h.once other found same)
lacks folder classes file h (no_target mixin none) =
    let (target, found, thin, targets) = h.targets mixin in none target found thin targets
lacks folder classes file h (shared mixin other found thin shares differs) = differs (h.alone mixin other found thin shares)
lacks folder classes file h (names_mixin mixin found thin names differs) = differs (h.names mixin found thin names)

apart : (folder : List File) (classes : List FolderClass) (broken : Broken) (file : FolderClass) → IsOfForm folder classes file → IsOutOfForm folder classes file × (broken ≡ out_of_form file.path) → ⊥
apart folder classes broken file formed (((class, read), lacking), is) = lacks folder classes file (formed class read) lacking

Here : List File → List FolderClass → Broken → FolderClass → Type 0
Here folder classes broken file = IsOutOfForm folder classes file × (broken ≡ out_of_form file.path)

pub one-refusal : (folder : List File) (classes : List FolderClass) (broken other : Broken) → IsFirstOutOfForm folder classes broken → IsFirstOutOfForm folder classes other → broken ≡ other
unfolding Here
one-refusal folder classes broken other (file, first) (file', first') =
    let same : file ≡ file' = one-first (IsOfForm folder classes) (Here folder classes broken) (Here folder classes other) (apart folder classes broken) (apart folder classes other) classes file file' first first' in
    first.here.1 ∙ ap (λ (f : FolderClass). out_of_form f.path) same ∙ sym first'.here.1

pub formed-not_refused : (folder : List File) (classes : List FolderClass) (broken : Broken) → AreOfForm folder classes → IsFirstOutOfForm folder classes broken → ⊥
unfolding Here
formed-not_refused folder classes broken formed (file, first) = none-first (IsOfForm folder classes) (Here folder classes broken) (apart folder classes broken) classes file formed first
