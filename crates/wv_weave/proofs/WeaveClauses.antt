-- What `weave` answers: the files are those of the folder, and do what they have to.
use Rattle.std.proofs.Common.{◌≡◌, ◌≢◌, ◌↔◌, ◌⊎◌, inl, inr, ℕ, suc, List, [], ◌∷◌, length, get_or, map, All, AllPairs, Contains, Option, Some, None, refl, ap, sym, ◌∙◌, subst, arith, IsPermutation}
use Rattle.std.specs.List.{AllByRecursion, AllZip, count_by}
use Rattle.std.proofs.lemmas.List.{get_or-map, get_or_default, length-map}
use Rattle.std.proofs.lemmas.List.Elements.{All-contains, All-from_recursion, recursion_from_All}
use Rattle.std.proofs.lemmas.List.Sorted.{All-permutation, Contains-permutation, IsPermutation-map, IsPermutation-sym}
use Rattle.wv_base.specs.declared.side.Side.{Side}
use Rattle.wv_base.specs.Folder.{File, IsPathBefore, content_of}
use Rattle.wv_classes.specs.declared.loaded_class.LoadedClass.{LoadedClass}
use Rattle.wv_classes.specs.LoadedClass.{IsLoadedClass}
use Rattle.wv_config.specs.declared.loaded.Configs.{Configs}
use Rattle.wv_front.specs.declared.order.AppliedMixin.{AppliedMixin}
use Rattle.wv_front.specs.Marked.{AreMarked, IsMarked}
use Rattle.wv_front.specs.MixinOrder.{IsApplied, StandsAt}
use Rattle.wv_merge.specs.declared.overwriting.Overwriting.{Overwriting}
use Rattle.wv_merge.specs.ThinClass.{IsReadThin}
use Rattle.wv_model.specs.FirstMeaning as model
use Rattle.wv_model.specs.MemberTable.{Applied}
use Rattle.wv_model.specs.PlainCode.{Game, Mixin}
use Rattle.wv_model.proofs.FirstMeaning.{written_correspond}
use Rattle.wv_resolve.specs.Resolution.{IsOrderedBy}
use Rattle.wv_resolve.proofs.OneMods.{contains-cases}
use Rattle.wv_weave.specs.declared.front.Front.{Front}
use Rattle.wv_weave.specs.declared.outgoing.Outgoing.{Outgoing}
use Rattle.wv_weave.specs.declared.weaver.Woven.{Woven}
use Rattle.wv_weave.specs.FolderMixins.{HasMixins}
use Rattle.wv_weave.specs.Formed.{AreFormed, HasThinTarget}
use Rattle.wv_weave.specs.Meaning.{AreUnwoven, MeansFolder, class_in}
use Rattle.wv_weave.specs.Merging.{AreEdits, HasPlace, IsEditOf}
use Rattle.wv_weave.specs.Outgoing.{AreKept, CanBeWritten, HasBytes, IsFileFrom, is_changed, path_of}
use Rattle.wv_weave.specs.Overwrites.{Joins}
use Rattle.wv_weave.specs.Woven.{IsWoven}
use Rattle.wv_weave.specs.WrittenClasses.{AreWrittenClasses, IsAppliedTo, IsMixinName, class_of, written_path}
use Rattle.wv_weave.proofs.KeptClasses.{IsGoing, class_of_going, kept-all, kept-apart, kept-each, sorted-strictly}
use Rattle.wv_weave.proofs.Targets.{joins-one, marked-thin, thin-target}
use Rattle.wv_weave.proofs.WovenMeaning.{IsTargeting, all-written, are-models, models-of, one-written, single-methods}
use Rattle.wv_weave.proofs.WrittenList.{written-classes, written-count, written-each, written-files, written-of}

module _ (folder : List File) (side : Side) (configs : Configs) (loaded : List LoadedClass) (mixins : List AppliedMixin)
    (has : HasMixins folder side configs loaded mixins) (marked : AreMarked loaded mixins) (formed : AreFormed loaded) where
  is-marked : (mixin : AppliedMixin) → Contains mixins mixin → IsMarked loaded mixin
  is-marked mixin there = All-contains (IsMarked loaded) mixins mixin (All-from_recursion (IsMarked loaded) mixins marked) there

  -- a mixin that is applied is thin, and so is its target
  thin-mixin : (target class : LoadedClass) → IsAppliedTo loaded mixins target class → IsReadThin Mixin class.class
  thin-mixin target class (mixin, there, joins) = marked-thin loaded formed mixin class (is-marked mixin there) joins.class_is

  thin-game : (target class : LoadedClass) → IsAppliedTo loaded mixins target class → IsReadThin Game target.class
  thin-game target class (mixin, there, joins) = by (thin-target loaded formed mixin class (is-marked mixin there) joins.class_is)
    where
      by : HasThinTarget loaded class → IsReadThin Game target.class
      by (second, in_loaded, thin, names) =
          let one = joins-one loaded formed mixin class target class second joins (record { class_is = joins.class_is; among = in_loaded; names = names }) in
          subst (λ (c : LoadedClass). IsReadThin Game c.class) one.1 thin

  loads : (class : LoadedClass) → Contains loaded class → IsLoadedClass folder side class
  loads class there = All-contains (IsLoadedClass folder side) loaded class has.classes_are.each there

  -- each applied mixin has its class and its target
  pub all-targeting : AllByRecursion (IsTargeting loaded) mixins
  all-targeting = recursion_from_All (IsTargeting loaded) mixins (λ k d inside.
      let mixin = get_or mixins k d in
      let there : Contains mixins mixin = (k, inside, get_or_default mixins k mixin d inside) in
      targeting mixin there)
    where
      targeting : (mixin : AppliedMixin) → Contains mixins mixin → IsTargeting loaded mixin
      targeting mixin there = with ((has.applied mixin).0 there).named.names.class ((has.applied mixin).0 there).named.names.of_class
        where
          with : (class : LoadedClass) → StandsAt loaded mixin.class_place class → IsTargeting loaded mixin
          with class stands = by (thin-target loaded formed mixin class (is-marked mixin there) stands)
            where
              by : HasThinTarget loaded class → IsTargeting loaded mixin
              by (target, in_loaded, thin, names) = record {
                class = class;
                target = target;
                joins = record { class_is = stands; among = in_loaded; names = names };
                thin = marked-thin loaded formed mixin class (is-marked mixin there) stands;
              }

  pub all-placed : AllByRecursion (HasPlace loaded) mixins
  all-placed = recursion_from_All (HasPlace loaded) mixins (λ k d inside.
      let mixin = get_or mixins k d in
      let there : Contains mixins mixin = (k, inside, get_or_default mixins k mixin d inside) in
      placed mixin ((has.applied mixin).0 there))
    where
      placed : (mixin : AppliedMixin) → IsApplied configs.used.items loaded side mixin → HasPlace loaded mixin
      placed mixin applied = (applied.named.names.class, applied.named.names.of_class)

  module _ (edits : List (Option Overwriting)) (are : AreEdits loaded mixins edits) (kept outgoing : List Outgoing)
      (are_kept : AreKept configs loaded edits kept) (sorted : IsOrderedBy path_of kept outgoing) where
    kept-going : AllByRecursion (IsGoing configs loaded mixins) kept
    kept-going = kept-each configs loaded mixins loaded edits kept (λ class there. there) are are_kept

    pub going : AllByRecursion (IsGoing configs loaded mixins) outgoing
    going = recursion_from_All (IsGoing configs loaded mixins) outgoing
        (All-permutation (IsGoing configs loaded mixins) kept outgoing sorted.same (All-from_recursion (IsGoing configs loaded mixins) kept kept-going))

    -- the paths ascend
    pub ascending : AllPairs (λ (o later : Outgoing). IsPathBefore o.path later.path) outgoing
    ascending = sorted-strictly kept outgoing sorted (kept-apart configs loaded edits kept are_kept formed.distinct)

    -- each class has its bytes, or a mixin
    can-one : (class : LoadedClass) → Contains loaded class → (edit : Option Overwriting) → IsEditOf loaded mixins class edit → HasBytes folder class edit
    can-one class there None alone = by (loads class there)
      where
        by : IsLoadedClass folder side class → (content : List ℕ) × (content_of class.path folder ≡ Some content)
        by (content, is, spelled, own_class) = (content, is.1)
    can-one class there (Some overwriting) (mixin, applied, is) = (thin-game class mixin applied, (mixin.class, thin-mixin class mixin applied, is))

    can-all : (os : List Outgoing) → AllByRecursion (IsGoing configs loaded mixins) os → AllByRecursion (CanBeWritten folder) os
    can-all [] h = tt
    can-all (o ∷ os) (one, more) = (can-one o.class one.among o.overwriting one.edit, can-all os more)

    pub writable : AllByRecursion (CanBeWritten folder) outgoing
    writable = can-all outgoing going

    -- the classes that go out are those that are no mixins
    ordered-paths : (os : List Outgoing) → AllByRecursion (IsGoing configs loaded mixins) os → AllPairs (λ (o later : Outgoing). IsPathBefore o.path later.path) os
        → AllPairs (λ (c later : LoadedClass). IsPathBefore (written_path c) (written_path later)) (map class_of_going os)
    ordered-paths os h pairs i j d below inside =
        let long = length-map os class_of_going in
        let o : Outgoing = record { path = written_path d; class = d; overwriting = None } in
        let first = get_or os i o in
        let second = get_or os j o in
        let all = All-from_recursion (IsGoing configs loaded mixins) os h in
        let at : get_or (map class_of_going os) i d ≡ first.class = get_or-map class_of_going os i o d (omega arith) in
        let at' : get_or (map class_of_going os) j d ≡ second.class = get_or-map class_of_going os j o d (omega arith) in
        let path : first.path ≡ written_path first.class = (all i o (omega arith)).path in
        let path' : second.path ≡ written_path second.class = (all j o (omega arith)).path in
        subst (λ (c : LoadedClass). IsPathBefore (written_path c) (written_path (get_or (map class_of_going os) j d))) (sym at)
        (subst (λ (c : LoadedClass). IsPathBefore (written_path first.class) (written_path c)) (sym at')
        (subst (λ p. IsPathBefore p (written_path second.class)) path (subst (IsPathBefore first.path) path' (pairs i j o below (omega arith)))))

    no-listed : (os : List Outgoing) → AllByRecursion (IsGoing configs loaded mixins) os → (class : LoadedClass) → Contains (map class_of_going os) class
        → Contains loaded class × (IsMixinName configs class.name → ⊥)
    no-listed [] h class (k, inside, at) = absurd (omega arith)
    no-listed (o ∷ os) (one, more) class there = elim (contains-cases o.class (map class_of_going os) class there) [
      | inl same ↦ (subst (Contains loaded) same one.among, subst (λ (c : LoadedClass). IsMixinName configs c.name → ⊥) same one.no_mixin)
      | inr later ↦ no-listed os more class later
    ]

    pub written-exact : AreWrittenClasses configs loaded (map class_of_going outgoing)
    written-exact = record {
      ordered = ordered-paths outgoing going ascending;
      exact = λ class. (
        no-listed outgoing going class,
        λ (there, unlisted). Contains-permutation (map class_of_going kept) (map class_of_going outgoing) class
            (IsPermutation-map class_of_going kept outgoing sorted.same) (kept-all configs loaded edits kept are_kept class there unlisted),
      );
    }

    module _ (woven : Woven) (files : AllZip (IsFileFrom folder) outgoing woven.files) where
      pub is-woven : woven.edited ≡ count_by is_changed outgoing → woven.mixins ≡ length mixins → woven.hooks ≡ 0 → IsWoven folder side woven
      is-woven edited count hooks = record {
        configs = configs;
        loaded = loaded;
        applied = mixins;
        has_mixins = has;
        written = written-of folder configs loaded mixins thin-mixin outgoing going;
        are_written = record {
          classes = subst (AreWrittenClasses configs loaded) (sym (written-classes folder configs loaded mixins thin-mixin outgoing going)) written-exact;
          each = written-each folder configs loaded mixins thin-mixin outgoing going;
        };
        files = written-files folder configs loaded mixins thin-mixin outgoing going woven.files files;
        edited = edited ∙ written-count folder configs loaded mixins thin-mixin outgoing going;
        mixins = count;
        hooks = hooks;
      }

      abbrev models : List Applied
      models = models-of loaded mixins all-targeting

      each-edit : (os : List Outgoing) → AllByRecursion (IsGoing configs loaded mixins) os → AllByRecursion (λ (o : Outgoing). Contains loaded o.class × IsEditOf loaded mixins o.class o.overwriting) os
      each-edit [] h = tt
      each-edit (o ∷ os) (one, more) = ((one.among, one.edit), each-edit os more)

      pub means-folder : MeansFolder folder side woven.files
      means-folder =
          let all = all-written folder side loaded mixins models formed (are-models loaded mixins all-targeting) loads thin-mixin thin-game outgoing (each-edit outgoing going) woven.files files in
          record {
            classes = map class_in (map class_of_going outgoing);
            mixins = models;
            unwoven = record {
              configs = configs;
              loaded = loaded;
              entries = mixins;
              has_mixins = has;
              kept = map class_of_going outgoing;
              are_kept = written-exact;
              classes_are = refl;
              mixins_are = are-models loaded mixins all-targeting;
            };
            written = all.0;
            files_of = all.1.files_of;
            only = λ others h. one-written woven.files all.0 others all.1.files_of h;
            means = written_correspond (map class_in (map class_of_going outgoing)) models all.0 (record { single = single-methods loaded mixins all-targeting; each = all.1.becomes });
          }

-- there is an edit, or none, for each class
pub edits-long : (loaded : List LoadedClass) (mixins : List AppliedMixin) (edits : List (Option Overwriting)) → AreEdits loaded mixins edits → length loaded ≡ length edits
edits-long loaded mixins edits are = as-long loaded edits are
  where
    as-long : (cs : List LoadedClass) (es : List (Option Overwriting)) → AllZip (IsEditOf loaded mixins) cs es → length cs ≡ length es
    as-long [] [] zip = refl
    as-long [] (e ∷ es) zip = elim zip [ ]
    as-long (c ∷ cs) [] zip = elim zip [ ]
    as-long (c ∷ cs) (e ∷ es) (one, more) = ap suc (as-long cs es more)
