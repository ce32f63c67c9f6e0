-- Whether a class file has the form, by its kind.
use Rattle.std.proofs.Common.{◌≡◌, ℕ, Bool, true, false, not, List, Option, Result, Ok, Err, IfOk, MatchBool, sym, subst}
use Rattle.std.specs.Borrow.{Bor}
use Rattle.wv_base.specs.declared.class_file.ClassFile.{ClassFile}
use Rattle.wv_base.specs.Folder.{File}
use Rattle.wv_classes.specs.declared.folder_class.FolderClass.{FolderClass}
use Rattle.wv_model.specs.PlainCode.{Game, Mixin}
use Rattle.wv_form.specs.declared.kinds.FileKind.TheVariants as kinds
use Rattle.wv_form.specs.declared.kinds.KnownFile.{KnownFile}
use Rattle.wv_form.specs.Form.{not_thin, IsOfForm, IsOutOfForm}
use Rattle.wv_form.specs.declared.tables.Tables.{Tables}
use Rattle.wv_form.specs.Placing.{is_elsewhere, place_of}
use Rattle.wv_form.specs.Tables.{StandsAlone, Clashes, named, names_mixin}
use Rattle.wv_form.specs.Kinds.{IsThinAs, IsTargetOf, IsKindOf, IsKnown}

-- an answer that says more
pub answer-is : {E S C F O : Type 0} (r : Result Bool E) → (S → F) → (C → O) → IfOk r (λ b. MatchBool b S C) → IfOk r (λ b. MatchBool b F O)
answer-is (Err e) f g h = tt
answer-is (Ok true) f g h = f h
answer-is (Ok false) f g h = g h

module _ (folder : List File) (classes : List FolderClass) (known : KnownFile) (is : IsKnown folder known) where
  pub no-class : known.kind ≡ kinds.NoClass → IsOfForm folder classes known.file.now
  no-class e class read = absurd (subst (IsKindOf folder known.file.now) e is class read)

  pub neither : known.kind ≡ kinds.Other → IsOutOfForm folder classes known.file.now
  neither e =
      let (spells, game, mixin) = subst (IsKindOf folder known.file.now) e is in
      (spells, not_thin game mixin)

  pub a-thin : (class : Bor ClassFile) → known.kind ≡ kinds.Thin class → IsThinAs folder Game known.file.now class.now
  a-thin class e = subst (IsKindOf folder known.file.now) e is

  pub a-mixin : (class : Bor ClassFile) (target : Option (List ℕ)) → known.kind ≡ kinds.Mixin class target → IsThinAs folder Mixin known.file.now class.now × IsTargetOf class.now target
  a-mixin class target e = subst (IsKindOf folder known.file.now) e is

-- what is found of names
pub alone-or : (tables : Tables) (file : FolderClass) (class : ClassFile) (found : Bool) → is_elsewhere (place_of tables.names file.name) file.path ≡ false → found ≡ names_mixin tables file class → MatchBool (not found) (StandsAlone tables file class) (Clashes tables file class)
alone-or tables file class true once is = named (sym is)
alone-or tables file class false once is = record { once = once; unnamed = sym is }
