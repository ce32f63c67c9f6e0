-- The files that a folder is woven to do what its classes do under its mixins.
use Rattle.std.proofs.Common.{◌≡◌, ◌≢◌, ◌⊎◌, inl, inr, ℕ, Bool, true, List, [], ◌∷◌, length, get_or, map, AllPairs, Contains, Option, Some, None, bytes_eq, refl, ap, sym, ◌∙◌, subst, arith}
use Rattle.std.specs.List.{AllByRecursion, AllZip, find}
use Rattle.std.proofs.lemmas.Bool.{cases_order}
use Rattle.std.proofs.lemmas.List.{get_or_default}
use Rattle.std.proofs.lemmas.List.Elements.{All-contains, All-from_recursion}
use Rattle.std.proofs.lemmas.Slice.Eq.{bytes_eq-Decides}
use Rattle.wv_base.specs.declared.class_file.ClassFile.{ClassFile}
use Rattle.wv_base.specs.declared.side.Side.{Side}
use Rattle.wv_base.specs.Folder.{File, content_of}
use Rattle.wv_class.specs.Meaning.{Spells}
use Rattle.wv_class.proofs.OneMeaning.{one_class}
use Rattle.wv_classes.specs.declared.loaded_class.LoadedClass.{LoadedClass}
use Rattle.wv_classes.specs.LoadedClass.{IsLoadedClass}
use Rattle.wv_classes.specs.Refusal.{IsTextOf}
use Rattle.wv_form.specs.FileForm.{HasTarget}
use Rattle.wv_front.specs.declared.order.AppliedMixin.{AppliedMixin}
use Rattle.wv_front.proofs.Grown.{stands-one}
use Rattle.wv_merge.specs.Applied.{applied}
use Rattle.wv_merge.specs.declared.overwriting.Overwriting.{Overwriting}
use Rattle.wv_merge.specs.ThinClass.{IsReadThin}
use Rattle.wv_merge.specs.Written.{IsWritten}
use Rattle.wv_model.specs.FirstMeaning as model
use Rattle.wv_model.specs.MemberTable.{Applied, Becomes, HasOneMethod, IsTable, IsTableOf, mixin_of}
use Rattle.wv_model.specs.PlainCode.{Game, Mixin}
use Rattle.wv_model.specs.PlainMethod.{HasPlainMethods}
use Rattle.wv_model.proofs.FirstMeaning.{written_correspond}
use Rattle.wv_weave.specs.declared.outgoing.Outgoing.{Outgoing}
use Rattle.wv_weave.specs.Formed.{AreFormed, IsThinLoaded}
use Rattle.wv_weave.specs.Meaning.{IsFileOf, IsMixinOf, class_in}
use Rattle.wv_weave.specs.Merging.{IsEditOf}
use Rattle.wv_weave.specs.Outgoing.{IsContentFrom, IsFileFrom}
use Rattle.wv_weave.specs.Overwrites.{Joins}
use Rattle.wv_weave.specs.WrittenClasses.{IsAppliedTo}
use Rattle.wv_weave.proofs.FirstFound.{found-none, found-some}
use Rattle.wv_weave.proofs.KeptClasses.{class_of_going}
use Rattle.wv_weave.proofs.Names.{one-text}
use Rattle.wv_weave.proofs.OneTarget.{one-target}
use Rattle.wv_weave.proofs.Zips.{zip-left, zip-right}
use Rattle.wv_weave.proofs.ThinPlain.{either-plain}

-- ---- The mixins as the hook machine knows them

module _ (loaded : List LoadedClass) where
  -- an applied mixin has a thin class, and a target
  pub record IsTargeting (mixin : AppliedMixin) : Type 0 where
    pub class : LoadedClass
    pub target : LoadedClass
    pub joins : Joins loaded mixin class target
    pub thin : IsReadThin Mixin class.class

  abbrev pub models-of : (mixins : List AppliedMixin) → AllByRecursion IsTargeting mixins → List Applied
  models-of [] h = []
  models-of (mixin ∷ mixins) (one, more) = applied one.target.class one.class.class ∷ models-of mixins more

  pub are-models : (mixins : List AppliedMixin) (h : AllByRecursion IsTargeting mixins) → AllZip (IsMixinOf loaded) mixins (models-of mixins h)
  are-models [] h = tt
  are-models (mixin ∷ mixins) (one, more) = ((one.class, one.target, one.joins, refl), are-models mixins more)

  pub single-methods : (mixins : List AppliedMixin) (h : AllByRecursion IsTargeting mixins) → AllByRecursion (λ (m : Applied). HasOneMethod m.methods) (models-of mixins h)
  single-methods [] h = tt
  single-methods (mixin ∷ mixins) (one, more) = (method one.class.class one.thin, single-methods mixins more)
    where
      method : (class : ClassFile) → IsReadThin Mixin class → HasOneMethod class.methods
      method class h = h.1.1.1.of_role.0

-- the target of a mixin has one name
pub one-target_name : (class : ClassFile) (a b : List ℕ) → HasTarget class a → HasTarget class b → a ≡ b
one-target_name class a b (t, targets, text) (u, targets', text') =
    one-text t a b text (subst (λ n. IsTextOf n b) (sym (one-target class t u targets targets')) text')

-- of classes with names apart one has this name
pub one-loaded_name : (loaded : List LoadedClass) → AllPairs (λ (c later : LoadedClass). c.name ≢ later.name) loaded
    → (c d : LoadedClass) → Contains loaded c → Contains loaded d → c.name ≡ d.name → c ≡ d
one-loaded_name loaded distinct c d (i, inside, at) (j, inside', at') same = elim (cases_order i j) [
  | inl equal ↦ sym at ∙ get_or_default loaded i c d inside ∙ ap (λ k. get_or loaded k d) equal ∙ at'
  | inr (inl below) ↦ absurd (distinct i j c below inside' (ap (λ (x : LoadedClass). x.name) at ∙ same ∙ sym (ap (λ (x : LoadedClass). x.name) (get_or_default loaded j c d inside' ∙ at'))))
  | inr (inr above) ↦ absurd (distinct j i d above inside (ap (λ (x : LoadedClass). x.name) at' ∙ sym same ∙ sym (ap (λ (x : LoadedClass). x.name) (get_or_default loaded i d c inside ∙ at))))
]

-- ---- What each class becomes

module _ (folder : List File) (side : Side) (loaded : List LoadedClass) (mixins : List AppliedMixin) (models : List Applied)
    (formed : AreFormed loaded) (are : AllZip (IsMixinOf loaded) mixins models)
    (loads : (class : LoadedClass) → Contains loaded class → IsLoadedClass folder side class)
    (thin_mixin : (target class : LoadedClass) → IsAppliedTo loaded mixins target class → IsReadThin Mixin class.class)
    (thin_game : (target class : LoadedClass) → IsAppliedTo loaded mixins target class → IsReadThin Game target.class) where
  own : (class : LoadedClass) → Contains loaded class → IsThinLoaded class
  own class there = All-contains IsThinLoaded loaded class (All-from_recursion IsThinLoaded loaded formed.thin) there

  -- classes of one name have one path name
  same-name : (class other : LoadedClass) → Contains loaded class → Contains loaded other → other.class.name ≡ class.class.name → other.name ≡ class.name
  same-name class other there there' same =
      one-text other.class.name other.name class.name (own other there').own.name (subst (λ n. IsTextOf n class.name) (sym same) (own class there).own.name)

  -- a model whose target has the class's name is of a mixin that is applied to the class
  applies : (class : LoadedClass) → Contains loaded class → (model : Applied) → Contains models model → model.target ≡ class.class.name
      → (mixin : LoadedClass) × IsAppliedTo loaded mixins class mixin × (model ≡ applied class.class mixin.class)
  applies class there model in_models same = from (zip-right (IsMixinOf loaded) mixins models are model in_models)
    where
      from : (mixin : AppliedMixin) × Contains mixins mixin × IsMixinOf loaded mixin model → (mixin : LoadedClass) × IsAppliedTo loaded mixins class mixin × (model ≡ applied class.class mixin.class)
      from (entry, in_mixins, (mixin, target, joins, is)) =
          let named : target.class.name ≡ class.class.name = sym (ap (λ (m : Applied). m.target) is) ∙ same in (
            mixin,
            (entry, in_mixins, record { class_is = joins.class_is; among = there; names = subst (HasTarget mixin.class) (same-name class target there joins.among named) joins.names }),
            is ∙ ap (λ n. record { name = mixin.class.name; target = n; methods = mixin.class.methods }) named,
          )

  -- without a mixin a class stays
  none-of : (class : LoadedClass) → Contains loaded class → ((mixin : LoadedClass) → IsAppliedTo loaded mixins class mixin → ⊥) → mixin_of models class.class ≡ None
  none-of class there fails = found-none (λ (m : Applied). bytes_eq m.target class.class.name) models (λ model in_models same.
      let found = applies class there model in_models ((bytes_eq-Decides model.target class.class.name).0 same) in fails found.0 found.1)

  -- with one it has that mixin
  some-of : (class mixin : LoadedClass) → Contains loaded class → IsAppliedTo loaded mixins class mixin → mixin_of models class.class ≡ Some (applied class.class mixin.class)
  some-of class mixin there (entry, in_mixins, joins) = by (zip-left (IsMixinOf loaded) mixins models are entry in_mixins)
    where
      mixin-there : (other : LoadedClass) → IsAppliedTo loaded mixins class other → Contains loaded other
      mixin-there other (e, in_e, j) = (e.class_place, j.class_is.0, j.class_is.1)

      same-model : (model : Applied) → Contains models model → bytes_eq model.target class.class.name ≡ true → model ≡ applied class.class mixin.class
      same-model model in_models same =
          let found = applies class there model in_models ((bytes_eq-Decides model.target class.class.name).0 same) in
          let one : found.0 ≡ mixin = formed.alone found.0 mixin (mixin-there found.0 found.1) (mixin-there mixin (entry, in_mixins, joins))
          (thin_mixin class found.0 found.1) (thin_mixin class mixin (entry, in_mixins, joins)) class.name found.1.2.names joins.names in
          found.2 ∙ ap (λ (c : LoadedClass). applied class.class c.class) one

      -- the target of that mixin is the class
      same-target : (model : Applied) → IsMixinOf loaded entry model → model.target ≡ class.class.name
      same-target model (other, target, j, is) =
          let same : other ≡ mixin = stands-one loaded entry.class_place entry.class_place other mixin refl j.class_is joins.class_is in
          let names : HasTarget mixin.class target.name = subst (λ (c : LoadedClass). HasTarget c.class target.name) same j.names in
          let name : target.name ≡ class.name = one-target_name mixin.class target.name class.name names joins.names in
          ap (λ (m : Applied). m.target) is ∙ ap (λ (c : LoadedClass). c.class.name) (one-loaded_name loaded formed.distinct target class j.among there name)

      by : (model : Applied) × Contains models model × IsMixinOf loaded entry model → mixin_of models class.class ≡ Some (applied class.class mixin.class)
      by (model, in_models, is) = found-some (λ (m : Applied). bytes_eq m.target class.class.name) models model (applied class.class mixin.class) in_models
          ((bytes_eq-Decides model.target class.class.name).1 (same-target model is)) same-model

  -- the class that a file spells, and what it is of the folder's class
  pub record IsWrittenAs (class : LoadedClass) (content : List ℕ) (written : ClassFile) : Type 0 where
    pub spelled : Spells content written
    pub plain : HasPlainMethods written
    pub becomes : Becomes models class.class written

  same-content : (a b : List ℕ) → Some a ≡ Some b → a ≡ b
  same-content a b e = cc

  written-as : (class : LoadedClass) → Contains loaded class → (edit : Option Overwriting) → IsEditOf loaded mixins class edit
      → (content : List ℕ) → IsContentFrom folder class edit content → (written : ClassFile) × IsWrittenAs class content written
  written-as class there None alone content at = (
    class.class,
    record {
      spelled = read (loads class there);
      plain = either-plain class.class (own class there).thin;
      becomes = record { same_name = refl; table = subst (λ m. IsTableOf m class.class.methods class.class.methods) (sym (none-of class there alone)) refl };
    },
  )
    where
      read : IsLoadedClass folder side class → Spells content class.class
      read (bytes, is, spelled, own_class) = subst (λ b. Spells b class.class) (same-content bytes content (sym is.1 ∙ at)) spelled
  written-as class there (Some overwriting) (mixin, is_applied, is) content from =
      made (from mixin.class (thin_mixin class mixin is_applied) is)
    where
      made : IsWritten class.class mixin.class content → (written : ClassFile) × IsWrittenAs class content written
      made w = (
        w.class,
        record {
          spelled = w.spelled;
          plain = w.plain;
          becomes = record {
            same_name = ap (λ (c : ClassFile). c.name) w.others;
            table = subst (λ m. IsTableOf m class.class.methods w.class.methods) (sym (some-of class mixin there is_applied)) w.table;
          };
        },
      )

  -- and of all of them
  pub record AreWrittenAs (os : List Outgoing) (files : List File) (written : List ClassFile) : Type 0 where
    pub files_of : AllZip IsFileOf files written
    pub becomes : AllZip (Becomes models) (map class_in (map class_of_going os)) written

  pub all-written : (os : List Outgoing) → AllByRecursion (λ (o : Outgoing). Contains loaded o.class × IsEditOf loaded mixins o.class o.overwriting) os
      → (files : List File) → AllZip (IsFileFrom folder) os files → (written : List ClassFile) × AreWrittenAs os files written
  all-written [] h [] zip = ([], record { files_of = tt; becomes = tt })
  all-written [] h (file ∷ files) zip = elim zip [ ]
  all-written (o ∷ os) h [] zip = elim zip [ ]
  all-written (o ∷ os) ((there, edit), more) (file ∷ files) ((path, content), later) =
      with (written-as o.class there o.overwriting edit file.1 content) (all-written os more files later)
    where
      with : (written : ClassFile) × IsWrittenAs o.class file.1 written → (written : List ClassFile) × AreWrittenAs os files written
          → (written : List ClassFile) × AreWrittenAs (o ∷ os) (file ∷ files) written
      with (w, is) (ws, are) = (
        w ∷ ws,
        record {
          files_of = ((is.spelled, is.plain), are.files_of);
          becomes = (is.becomes, are.becomes);
        },
      )

-- files spell one list of classes
pub one-written : (files : List File) (written others : List ClassFile) → AllZip IsFileOf files written → AllZip IsFileOf files others → others ≡ written
one-written [] [] [] h k = refl
one-written [] [] (o ∷ others) h k = elim k [ ]
one-written [] (w ∷ written) others h k = elim h [ ]
one-written (file ∷ files) [] others h k = elim h [ ]
one-written (file ∷ files) (w ∷ written) [] h k = elim k [ ]
one-written (file ∷ files) (w ∷ written) (o ∷ others) (one, more) (one', more') =
    ap (λ c. c ∷ others) (one_class file.1 o w one'.0 one.0) ∙ ap (λ cs. w ∷ cs) (one-written files written others more more')
