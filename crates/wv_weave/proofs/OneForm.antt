-- The form of class files and what they lack of it exclude each other, and one file is the first that isn't of it.
use Rattle.std.proofs.Common.{◌≡◌, List, inl, inr, ap, sym, ◌∙◌}
use Rattle.wv_base.specs.declared.broken.Broken.{Broken}
use Rattle.wv_base.specs.Folder.{File}
use Rattle.wv_classes.specs.declared.folder_class.FolderClass.{FolderClass}
use Rattle.wv_form.specs.Form.{HasForm, LacksForm, not_thin, twice, no_target, shared, names_mixin, IsOfForm, AreOfForm, IsOutOfForm, IsFirstOutOfForm, out_of_form}
use Rattle.wv_front.proofs.FirstOnes.{one-first, none-first}

has-or-lacks : (folder : List File) (classes : List FolderClass) (file : FolderClass) → HasForm folder classes file → LacksForm folder classes file → ⊥
has-or-lacks folder classes file has (not_thin no_game no_mixin) = elim has.thin [ inl game ↦ no_game game | inr mixin ↦ no_mixin mixin ]
has-or-lacks folder classes file has (twice other among same apart) = apart (has.once other among same)
has-or-lacks folder classes file has (no_target mixin none) =
    let (target, among, thin, targets) = has.targets mixin in none target among thin targets
has-or-lacks folder classes file has (shared mixin other among thin share apart) = apart (has.alone mixin other among thin share)
has-or-lacks folder classes file has (names_mixin mixin among thin names apart) = apart (has.names mixin among thin names)

-- a file that is out of the form, and is refused so
abbrev IsRefused : List File → List FolderClass → Broken → FolderClass → Type 0
IsRefused folder classes broken file = IsOutOfForm folder classes file × (broken ≡ out_of_form file.path)

of-or-out : (folder : List File) (classes : List FolderClass) (broken : Broken) (file : FolderClass) → IsOfForm folder classes file → IsRefused folder classes broken file → ⊥
of-or-out folder classes broken file of ((spells, lacks), told) = has-or-lacks folder classes file (of spells.0 spells.1) lacks

pub one-out : (folder : List File) (classes : List FolderClass) (broken other : Broken) → IsFirstOutOfForm folder classes broken → IsFirstOutOfForm folder classes other → broken ≡ other
one-out folder classes broken other (file, first) (file', first') =
    let same : file ≡ file' = one-first (IsOfForm folder classes) (IsRefused folder classes broken) (IsRefused folder classes other) (of-or-out folder classes broken) (of-or-out folder classes other) classes file file' first first' in
    first.here.1 ∙ ap (λ (f : FolderClass). out_of_form f.path) same ∙ sym first'.here.1

pub none-out : (folder : List File) (classes : List FolderClass) (broken : Broken) → AreOfForm folder classes → IsFirstOutOfForm folder classes broken → ⊥
none-out folder classes broken of (file, first) =
    none-first (IsOfForm folder classes) (IsRefused folder classes broken) (of-or-out folder classes broken) classes file of first
