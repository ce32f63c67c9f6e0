-- The classes that are written, each with its mixin, and their files.
use Rattle.std.proofs.Common.{◌≡◌, ◌⊎◌, ℕ, ◌+◌, List, [], ◌∷◌, map, AllPairs, Contains, Option, Some, None, cond, refl, ap, sym, ◌∙◌, subst, arith, IsPermutation}
use Rattle.std.specs.List.{AllByRecursion, AllZip, count_by}
use Rattle.std.proofs.lemmas.List.Sums.{sum_by-cons}
use Rattle.std.proofs.lemmas.List.Sorted.{Contains-permutation, IsPermutation-map, IsPermutation-sym}
use Rattle.wv_base.specs.Folder.{File, IsPathBefore}
use Rattle.wv_classes.specs.declared.loaded_class.LoadedClass.{LoadedClass}
use Rattle.wv_config.specs.declared.loaded.Configs.{Configs}
use Rattle.wv_front.specs.declared.order.AppliedMixin.{AppliedMixin}
use Rattle.wv_merge.specs.declared.overwriting.Overwriting.{Overwriting}
use Rattle.wv_merge.specs.ThinClass.{IsReadThin}
use Rattle.wv_model.specs.PlainCode.{Mixin}
use Rattle.wv_weave.specs.declared.outgoing.Outgoing.{Outgoing}
use Rattle.wv_weave.specs.Merging.{IsEditOf}
use Rattle.wv_weave.specs.Outgoing.{IsContentFrom, IsFileFrom, is_changed}
use Rattle.wv_weave.specs.Woven.{IsContentOf, IsFileOf, is_edited}
use Rattle.wv_weave.specs.WrittenClasses.{HasItsMixin, IsAppliedTo, WrittenClass, class_of, written_path}
use Rattle.wv_weave.proofs.KeptClasses.{IsGoing, class_of_going}

module _ (folder : List File) (configs : Configs) (loaded : List LoadedClass) (mixins : List AppliedMixin)
    (thin : (target class : LoadedClass) → IsAppliedTo loaded mixins target class → IsReadThin Mixin class.class) where
  abbrev as-written : (class : LoadedClass) (edit : Option Overwriting) → IsEditOf loaded mixins class edit → WrittenClass
  as-written class None h = record { class = class; mixin = None }
  as-written class (Some overwriting) (mixin, applied, is) = record { class = class; mixin = Some mixin }

  written-class : (class : LoadedClass) (edit : Option Overwriting) (h : IsEditOf loaded mixins class edit) → (as-written class edit h).class ≡ class
  written-class class None h = refl
  written-class class (Some overwriting) (mixin, applied, is) = refl

  written-mixin : (class : LoadedClass) (edit : Option Overwriting) (h : IsEditOf loaded mixins class edit) → HasItsMixin loaded mixins (as-written class edit h)
  written-mixin class None h = h
  written-mixin class (Some overwriting) (mixin, applied, is) = applied

  written-edited : (o : Outgoing) (edit : Option Overwriting) (h : IsEditOf loaded mixins o.class edit) → is_edited (as-written o.class edit h) ≡ is_changed (record o { overwriting = edit })
  written-edited o None h = refl
  written-edited o (Some overwriting) (mixin, applied, is) = refl

  written-content : (class : LoadedClass) (edit : Option Overwriting) (h : IsEditOf loaded mixins class edit) (content : List ℕ) → IsContentFrom folder class edit content
      → IsContentOf folder (as-written class edit h).class (as-written class edit h).mixin content
  written-content class None h content from = from
  written-content class (Some overwriting) (mixin, applied, is) content from = from mixin.class (thin class mixin applied) is

  abbrev pub written-of : (os : List Outgoing) → AllByRecursion (IsGoing configs loaded mixins) os → List WrittenClass
  written-of [] h = []
  written-of (o ∷ os) (one, more) = as-written o.class o.overwriting one.edit ∷ written-of os more

  pub written-classes : (os : List Outgoing) (h : AllByRecursion (IsGoing configs loaded mixins) os) → map class_of (written-of os h) ≡ map class_of_going os
  written-classes [] h = refl
  written-classes (o ∷ os) (one, more) =
      ap (λ c. c ∷ map class_of (written-of os more)) (written-class o.class o.overwriting one.edit) ∙ ap (λ cs. o.class ∷ cs) (written-classes os more)

  pub written-each : (os : List Outgoing) (h : AllByRecursion (IsGoing configs loaded mixins) os) → AllByRecursion (HasItsMixin loaded mixins) (written-of os h)
  written-each [] h = tt
  written-each (o ∷ os) (one, more) = (written-mixin o.class o.overwriting one.edit, written-each os more)

  pub written-count : (os : List Outgoing) (h : AllByRecursion (IsGoing configs loaded mixins) os) → count_by is_changed os ≡ count_by is_edited (written-of os h)
  written-count [] h = refl
  written-count (o ∷ os) (one, more) =
      sum_by-cons (λ (x : Outgoing). cond (is_changed x) 1 0) o os
      ∙ ap (λ b. cond b 1 0 + count_by is_changed os) (sym (written-edited o o.overwriting one.edit))
      ∙ ap (λ n. cond (is_edited (as-written o.class o.overwriting one.edit)) 1 0 + n) (written-count os more)
      ∙ sym (sum_by-cons (λ (w : WrittenClass). cond (is_edited w) 1 0) (as-written o.class o.overwriting one.edit) (written-of os more))

  pub written-files : (os : List Outgoing) (h : AllByRecursion (IsGoing configs loaded mixins) os) (files : List File) → AllZip (IsFileFrom folder) os files → AllZip (IsFileOf folder) (written-of os h) files
  written-files [] h [] zip = tt
  written-files [] h (file ∷ files) zip = elim zip [ ]
  written-files (o ∷ os) h [] zip = elim zip [ ]
  written-files (o ∷ os) (one, more) (file ∷ files) ((path, content), later) = (
    (path ∙ one.path ∙ ap written_path (sym (written-class o.class o.overwriting one.edit)), written-content o.class o.overwriting one.edit file.1 content),
    written-files os more files later,
  )
