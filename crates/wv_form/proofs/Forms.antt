-- Class files that have the form, or lack something of it, by what is looked up.
use Rattle.std.proofs.Common.{◌≡◌, ◌&&◌, inl, inr, ℕ, Bool, true, false, not, IsTrue, List, Contains, Option, Some, None, bytes_eq, refl, ap, sym, ◌∙◌, subst, true≢false, map}
use Rattle.std.proofs.lemmas.Bool.{cases_Bool}
use Rattle.wv_base.specs.declared.class_file.ClassFile.{ClassFile}
use Rattle.wv_base.specs.Folder.{File}
use Rattle.wv_classes.specs.declared.class_read.ClassRead.TheVariants.{Class}
use Rattle.wv_classes.specs.declared.folder_class.FolderClass.{FolderClass}
use Rattle.wv_classes.specs.Refusal.{IsTextOf}
use Rattle.wv_classes.specs.Roots.{has}
use Rattle.wv_model.specs.PlainCode.{Game, Mixin}
use Rattle.wv_form.specs.declared.kinds.KnownFile.{KnownFile}
use Rattle.wv_form.specs.declared.tables.Tables.{Tables}
use Rattle.wv_form.specs.FileForm.{IsThinFile, IsCandidate, HasTarget, TargetsFile, ShareTarget, NamesFile}
use Rattle.wv_form.specs.Form.{HasForm, LacksForm, twice, no_target, shared, names_mixin, IsOfForm, IsOutOfForm}
use Rattle.wv_form.specs.Kinds.{IsThinAs, IsTargetOf, AreKnown}
use Rattle.wv_form.specs.NamedClasses.{named_classes}
use Rattle.wv_form.specs.Placing.{is_elsewhere, place_of}
use Rattle.wv_form.specs.Tables.{AreTables, is_right, StandsAlone, Clashes, elsewhere, named}
use Rattle.wv_form.proofs.KnownFiles.{same-class, one-target_name, twice-known, known-twice, candidate-known, known-candidate, mixin-known, known-mixin, shared-known, known-shared}
use Rattle.wv_form.proofs.OneTarget.{thin-apart}
use Rattle.wv_form.proofs.Others.{left, right, some-other, none-other}
use Rattle.wv_form.proofs.PlaceTables.{same-text, texts-apart}

-- two texts that can't differ are the same
not-other : (a b : List ℕ) → ((a ≡ b → ⊥) → ⊥) → a ≡ b
not-other a b h = elim (cases_Bool (bytes_eq a b)) [
  | inl same ↦ same-text a b same
  | inr other ↦ absurd (h (texts-apart a b other))
]

not-true : (b : Bool) → not b ≡ true → b ≡ false
not-true true e = sym e
not-true false e = refl

wrong-of : (b c : Bool) → b ≡ true → (b && not c) ≡ false → c ≡ true
wrong-of true true e f = refl
wrong-of true false e f = sym f
wrong-of false c e f = absurd (true≢false (sym e))

module _ (folder : List File) (classes : List FolderClass) (files : List KnownFile) (tables : Tables) (known : AreKnown folder classes files) (are : AreTables files tables) (file : FolderClass) (class : ClassFile) where
  -- ---- The name, and the names of mixins

  one-path : StandsAlone tables file class → (other : FolderClass) → Contains classes other → other.name ≡ file.name → other.path ≡ file.path
  one-path stands other found same = not-other other.path file.path (λ differs.
      let apart = known-twice folder classes files known other file.path found differs in
      true≢false (sym ((are.names other.name file.path).1 apart) ∙ ap (λ n. is_elsewhere (place_of tables.names n) file.path) same ∙ stands.once))

  no-mixin : StandsAlone tables file class → file.read ≡ Class class → (mixin : FolderClass) → Contains classes mixin → IsThinFile folder Mixin mixin → NamesFile file mixin → mixin.name ≡ file.name
  no-mixin stands read mixin found thin (class', read', (units, among, spells)) = not-other mixin.name file.name (λ differs.
      none-other tables.mixins file.name (named_classes class) units mixin.name stands.unnamed
      (subst (λ (c : ClassFile). Contains (named_classes c) units) (same-class file class' class read' read) among)
      (record { spells = spells; there = (are.mixins mixin.name).1 (known-mixin folder classes files known mixin found thin); differs = differs }))

  pub clash : file.read ≡ Class class → Clashes tables file class → IsOutOfForm folder classes file
  clash read (elsewhere t) =
      let (other, found, same, differs) = twice-known folder classes files known file.name file.path ((are.names file.name file.path).0 t) in
      ((class, read), twice other found same differs)
  clash read (named t) =
      let (units, among, (text, is)) = some-other tables.mixins file.name (named_classes class) t in
      let (mixin, found, thin, same) = mixin-known folder classes files known text ((are.mixins text).0 is.there) in (
        (class, read),
        names_mixin mixin found thin
            (class, read, (units, among, subst (IsTextOf units) (sym same) is.spells))
            (λ e. is.differs (sym same ∙ e)),
      )

  -- ---- Thin classes

  pub thin-formed : IsThinAs folder Game file class → StandsAlone tables file class → IsOfForm folder classes file
  thin-formed (read, thin) stands = λ class' read'. record {
    thin = inl thin;
    once = one-path stands;
    targets = λ mixin. absurd (thin-apart folder file thin mixin);
    alone = λ mixin. absurd (thin-apart folder file thin mixin);
    names = no-mixin stands read;
  }

  -- ---- Thin mixins

  module _ (thin : IsThinAs folder Mixin file class) where
    -- a class file of the folder may be that of the target
    has-target : (name : List ℕ) → HasTarget class name → has tables.candidates name ≡ true → (other : FolderClass) × Contains classes other × IsCandidate folder other × TargetsFile file other
    has-target name on there =
        let (other, found, candidate, same) = candidate-known folder classes files known name ((are.candidates name).0 there) in
        (other, found, candidate, (class, thin.0, subst (HasTarget class) (sym same) on))

    target-there : (name : List ℕ) → HasTarget class name → (other : FolderClass) → Contains classes other → IsCandidate folder other → TargetsFile file other → has tables.candidates name ≡ true
    target-there name on other found candidate targets =
        ap (has tables.candidates) (one-target_name file class name other.name thin.0 on targets)
        ∙ (are.candidates other.name).1 (known-candidate folder classes files known other found candidate)

    alone-there : (name : List ℕ) → HasTarget class name → is_elsewhere (place_of tables.targets name) file.path ≡ false → (other : FolderClass) → Contains classes other → IsThinFile folder Mixin other → ShareTarget file other → other.path ≡ file.path
    alone-there name on alone other found mixin (mine, read, (theirs, read', (shared_name, on', on''))) = not-other other.path file.path (λ differs.
        let same : name ≡ shared_name = one-target_name file class name shared_name thin.0 on (mine, read, on') in
        let apart = known-shared folder classes files known other shared_name file.path found mixin (theirs, read', on'') differs in
        true≢false (sym ((are.targets shared_name file.path).1 apart) ∙ ap (λ n. is_elsewhere (place_of tables.targets n) file.path) (sym same) ∙ alone))

    pub mixin-formed : (target : Option (List ℕ)) → IsTargetOf class target → is_right tables target file.path ≡ true → StandsAlone tables file class → IsOfForm folder classes file
    mixin-formed None on is stands = absurd (true≢false (sym is))
    mixin-formed (Some name) on is stands = λ class' read'. record {
      thin = inr thin.1;
      once = one-path stands;
      targets = λ mixin. has-target name on (left (has tables.candidates name) (not (is_elsewhere (place_of tables.targets name) file.path)) is);
      alone = λ mixin. alone-there name on (not-true (is_elsewhere (place_of tables.targets name) file.path) (right (has tables.candidates name) (not (is_elsewhere (place_of tables.targets name) file.path)) is));
      names = no-mixin stands thin.0;
    }

    pub mixin-lacks : (target : Option (List ℕ)) → IsTargetOf class target → is_right tables target file.path ≡ false → IsOutOfForm folder classes file
    mixin-lacks None none wrong = ((class, thin.0), no_target thin.1 (λ other found candidate (class', read', on'). none other.name (subst (λ (c : ClassFile). HasTarget c other.name) (same-class file class' class read' thin.0) on')))
    mixin-lacks (Some name) on wrong = elim (cases_Bool (has tables.candidates name)) [
      | inr absent ↦ ((class, thin.0), no_target thin.1 (λ other found candidate targets. true≢false (sym (target-there name on other found candidate targets) ∙ absent)))
      | inl there ↦
          let apart : is_elsewhere (place_of tables.targets name) file.path ≡ true = wrong-of (has tables.candidates name) (is_elsewhere (place_of tables.targets name) file.path) there wrong in
          let (other, found, mixin, (theirs, read', on'), differs) = shared-known folder classes files known name file.path ((are.targets name file.path).0 apart) in
          ((class, thin.0), shared thin.1 other found mixin (class, thin.0, (theirs, read', (name, on, on'))) differs)
    ]
