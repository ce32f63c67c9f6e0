-- Class files whose kinds are found in turn.
use Rattle.std.proofs.Common.{◌≡◌, ℕ, ◌+◌, ◌<◌, ◌≤◌, List, [], ◌∷◌, ◌++◌, length, get_or, take, map, Some, Result, Ok, Err, IfOk, ap, sym, ◌∙◌, subst}
use Rattle.std.proofs.lemmas.List.{map-append, take_all}
use Rattle.wv_base.specs.declared.class_file.ClassFile.{ClassFile}
use Rattle.wv_base.specs.Folder.{File, content_of}
use Rattle.wv_classes.specs.declared.class_read.ClassRead.TheVariants.{Class}
use Rattle.wv_classes.specs.declared.folder_class.FolderClass.{FolderClass}
use Rattle.wv_merge.specs.ThinClass.{IsThin}
use Rattle.wv_model.specs.PlainCode.{Role, Game, Mixin}
use Rattle.wv_resolve.proofs.Lists.{front-more, each-append}
use Rattle.wv_form.specs.declared.kinds.FileKind.{FileKind}
use Rattle.wv_form.specs.declared.kinds.FileKind.TheVariants as kinds
use Rattle.wv_form.specs.declared.kinds.KnownFile.{KnownFile}
use Rattle.wv_form.specs.FileForm.{IsThinFile}
use Rattle.wv_form.specs.Kinds.{IsClassKind, IsKindOf, IsTargetOf, IsKnown, AreKnown}

module _ (folder : List File) (classes : List FolderClass) (i : ℕ) (files : List KnownFile) where
  pub known-more : (one : KnownFile) → i < length classes → one.file.now ≡ get_or classes i one.file.now → IsKnown folder one → AreKnown folder (take i classes) files → AreKnown folder (take (i + 1) classes) (files ++ one ∷ [])
  known-more one inside at is h = record {
    files = map-append (λ (k : KnownFile). k.file.now) files (one ∷ []) ∙ ap (λ (list : List FolderClass). list ++ one.file.now ∷ []) h.files ∙ sym (front-more classes i one.file.now inside at);
    each = each-append (IsKnown folder) files (one ∷ []) h.each (is, tt);
  }

  pub known-all : length classes ≤ i → AreKnown folder (take i classes) files → AreKnown folder classes files
  known-all past h = subst (λ (list : List FolderClass). AreKnown folder list files) (take_all i classes past) h

-- ---- The kind of a file

-- what the class is that its bytes spell
pub kind-is : {E : Type 0} (folder : List File) (file : FolderClass) (content : List ℕ) (class : ClassFile) (r : Result FileKind E) → content_of file.path folder ≡ Some content → file.read ≡ Class class → IfOk r (IsClassKind content class) → IfOk r (IsKindOf folder file)
kind-is folder file content class (Err e) there read h = tt
kind-is folder file content class (Ok kinds.NoClass) there read h = absurd h
kind-is folder file content class (Ok (kinds.Thin same)) there read (is, thin) = (
  read ∙ ap Class (sym is),
  record { content = content; there = there; class = class; read = read; thin = thin },
)
kind-is folder file content class (Ok (kinds.Mixin same target)) there read (is, thin, on) = (
  (read ∙ ap Class (sym is), record { content = content; there = there; class = class; read = read; thin = thin }),
  subst (λ (c : ClassFile). IsTargetOf c target) (sym is) on,
)
kind-is folder file content class (Ok kinds.Other) there read (game, mixin) = (
  (class, read),
  λ h. game (thin-here Game h),
  λ h. mixin (thin-here Mixin h),
)
  where
    thin-here : (role : Role) → IsThinFile folder role file → IsThin role content class
    thin-here role h =
        let contents : Some h.content ≡ Some content = sym h.there ∙ there in
        let classes : Class h.class ≡ Class class = sym h.read ∙ read in
        let same : h.content ≡ content = cc in
        let same' : h.class ≡ class = cc in
        subst (λ (bytes : List ℕ). IsThin role bytes class) same (subst (IsThin role h.content) same' h.thin)
