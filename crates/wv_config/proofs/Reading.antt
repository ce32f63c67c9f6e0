-- What configurations say, as they are read in turn, or the first rule that they break.
use Rattle.std.proofs.Common.{◌≡◌, ◌⊎◌, inl, inr, ℕ, ◌<◌, Bool, true, false, true≢false, List, [], ◌∷◌, ◌++◌, length, get_or, take, map, All, Any, Option, Some, None, MatchOption, IfSome, IsSomeAnd, ap, sym, ◌∙◌, subst, arith}
use Rattle.std.specs.Borrow.{Bor}
use Rattle.std.specs.Option.{option_and_then}
use Rattle.std.specs.Prelude.{codes}
use Rattle.std.proofs.lemmas.Bool.{cases_Bool}
use Rattle.std.proofs.lemmas.List.{get_or-map, length-map, map-append, map-id, take-map}
use Rattle.std.proofs.lemmas.List.Elements.{All-contains, All-push, All-weaker}
use Rattle.std.proofs.lemmas.List.Quantifiers.{Any-push, all_pairs_push}
use Rattle.wv_base.specs.declared.broken.Broken.{Broken}
use Rattle.wv_base.specs.declared.rule.Rule.TheVariants.{RefmapBad}
use Rattle.wv_base.specs.Folder.{File, IsPathBefore}
use Rattle.wv_resolve.proofs.Folders.{any-push_cases}
use Rattle.wv_resolve.proofs.Lists.{any-append, all-before}
use Rattle.wv_resolve.proofs.Paths.{not-before_itself, before-step}
use Rattle.wv_config.specs.declared.config.Config.{Config}
use Rattle.wv_config.specs.declared.loaded.LoadedConfig.{LoadedConfig}
use Rattle.wv_config.specs.declared.naming.Entry.{Entry}
use Rattle.wv_config.specs.declared.refmap.Refmap.{Refmap}
use Rattle.wv_config.specs.Config.{IsConfig, IsConfigBroken}
use Rattle.wv_config.specs.Refmap.{IsRefmap}
use Rattle.wv_config.specs.Entries.{entries_at, AreChosen}
use Rattle.wv_config.specs.Fault.{broken_at}
use Rattle.wv_config.specs.Finding.{IsLoadedOf, AreLoadedOf, IsFlawAt, IsFlawAmong, IsBrokenBefore, IsFirstFlaw, AreRead}
use Rattle.wv_config.specs.Loading.{IsReadFrom}
use Rattle.wv_config.specs.Reading.{refmap_content, refmap_of, IsConfigAt, IsRefmapOf, IsConfigFlaw, IsRefmapFlaw, IsFlaw}
use Rattle.wv_config.proofs.OneConfig.{same_config}
use Rattle.wv_config.proofs.Refusals.{config-not_broken, same_refusal}

-- ---- One configuration

none-some : {A : Type 0} (x : A) → None ≡ Some x → ⊥
none-some x e = cc

some-same : {A : Type 0} (x y : A) → Some x ≡ Some y → x ≡ y
some-same x y e = cc

module _ (files : List File) (path : List ℕ) where
  pub one-config_at : (config other : Config) → IsConfigAt files path config → IsConfigAt files path other → config ≡ other
  one-config_at config other (content, there, is) (content', there', is') =
      let same : content ≡ content' = some-same content content' (sym there ∙ there') in
      same_config content' config other (subst (λ (c : List ℕ). IsConfig c config) same is) is'

  config-not_flawed : (config : Config) (broken : Broken) → IsConfigAt files path config → IsConfigFlaw files path broken → ⊥
  config-not_flawed config broken (content, there, is) (inl (none, told)) = none-some content (sym none ∙ there)
  config-not_flawed config broken (content, there, is) (inr (content', there', flaw)) =
      let same : content ≡ content' = some-same content content' (sym there ∙ there') in
      config-not_broken path content' config broken (subst (λ (c : List ℕ). IsConfig c config) same is) flaw

  pub one-config_flaw : (broken other : Broken) → IsConfigFlaw files path broken → IsConfigFlaw files path other → broken ≡ other
  one-config_flaw broken other (inl (none, told)) (inl (none', told')) = told ∙ sym told'
  one-config_flaw broken other (inl (none, told)) (inr (content, there, flaw)) = absurd (none-some content (sym none ∙ there))
  one-config_flaw broken other (inr (content, there, flaw)) (inl (none, told)) = absurd (none-some content (sym none ∙ there))
  one-config_flaw broken other (inr (content, there, flaw)) (inr (content', there', flaw')) =
      let same : content ≡ content' = some-same content content' (sym there ∙ there') in
      same_refusal path content' broken other (subst (λ (c : List ℕ). IsConfigBroken path c broken) same flaw) flaw'

  module _ (folder : List ℕ) where
    one-refmap_flaw : (config : Config) (broken other : Broken) → IsRefmapFlaw files folder config broken → IsRefmapFlaw files folder config other → broken ≡ other
    one-refmap_flaw config broken other (name, content, at, there, flaw) (name', content', at', there', flaw') =
        let same : name ≡ name' = some-same name name' (sym at ∙ at') in
        flaw.told ∙ ap (λ n. broken_at RefmapBad (folder ++ n) (codes "-")) same ∙ sym flaw'.told

    pub one-flaw : (broken other : Broken) → IsFlaw files folder path broken → IsFlaw files folder path other → broken ≡ other
    one-flaw broken other (inl g) (inl h) = one-config_flaw broken other g h
    one-flaw broken other (inl g) (inr (config, at, h)) = absurd (config-not_flawed config broken at g)
    one-flaw broken other (inr (config, at, g)) (inl h) = absurd (config-not_flawed config other at h)
    one-flaw broken other (inr (config, at, g)) (inr (config', at', h)) =
        one-refmap_flaw config' broken other (subst (λ (c : Config). IsRefmapFlaw files folder c broken) (one-config_at config config' at at') g) h

    refmap-not_flawed : (config : Config) (refmap : Refmap) (broken : Broken) → IsRefmapOf (refmap_of files folder config) refmap → IsRefmapFlaw files folder config broken → ⊥
    refmap-not_flawed config refmap broken is (name, content, at, there, flaw) =
        let named : refmap_of files folder config ≡ Some content = subst (λ (o : Option (List ℕ)). option_and_then (λ n. refmap_content files (folder ++ n)) o ≡ Some content) (sym at) there in
        let read : IsRefmap content refmap = subst (λ (o : Option (List ℕ)). IsRefmapOf o refmap) named is in
        flaw.no_refmap read.file read.is_file

-- a configuration that was read breaks no rule
pub read-not_flawed : (files : List File) (folder : List ℕ) (config : LoadedConfig) (broken : Broken) → IsReadFrom files folder config → IsFlaw files folder config.path broken → ⊥
read-not_flawed files folder config broken read (inl h) = config-not_flawed files config.path config.config broken read.says h
read-not_flawed files folder config broken read (inr (other, at, h)) =
    refmap-not_flawed files config.path folder config.config config.refmap broken read.refmap (subst (λ (c : Config). IsRefmapFlaw files folder c broken) (one-config_at files config.path other config.config at read.says) h)

loaded-not_flawed : (files : List File) (entry : Entry) (config : LoadedConfig) (broken : Broken) → IsLoadedOf files entry config → IsFlawAt files entry broken → ⊥
loaded-not_flawed files entry config broken is flaw = read-not_flawed files entry.folder.now config broken is.read (subst (λ (p : List ℕ). IsFlaw files entry.folder.now p broken) (sym is.path) flaw)

-- ---- The order of broken rules

not-before_self : (broken : Broken) → IsBrokenBefore broken broken → ⊥
not-before_self broken (inl less) = omega arith
not-before_self broken (inr same) = not-before_itself broken.place.file same.1

before-all : (broken other third : Broken) → IsBrokenBefore broken other → IsBrokenBefore other third → IsBrokenBefore broken third
before-all broken other third (inl g) (inl h) = inl (omega arith)
before-all broken other third (inl g) (inr h) = let same = h.0 in inl (omega arith)
before-all broken other third (inr g) (inl h) = let same = g.0 in inl (omega arith)
before-all broken other third (inr g) (inr h) = inr (g.0 ∙ h.0, before-step broken.place.file other.place.file third.place.file g.1 h.1)

-- ---- All so far

cases-used : (entry : Entry) → (entry.is_used ≡ true) ⊎ (entry.is_used ≡ false)
cases-used entry = cases_Bool entry.is_used

module _ (files : List File) where
  -- where all were read, none is flawed
  none-among : (entries : List Entry) (used others : List LoadedConfig) (broken : Broken) → AreRead files entries used others → IsFlawAmong files entries broken → ⊥
  none-among entries used others broken are (k, e, inside, at, flaw) = elim (cases-used e) [
    | inl yes_used ↦ not_here used (All-contains (λ (x : Entry). x.is_used ≡ true → Any (IsLoadedOf files x) used) entries e are.used_read.all (k, inside, at) yes_used)
    | inr not_used ↦ not_here others (All-contains (λ (x : Entry). x.is_used ≡ false → Any (IsLoadedOf files x) others) entries e are.others_read.all (k, inside, at) not_used)
  ]
    where
      not_here : (configs : List LoadedConfig) → Any (IsLoadedOf files e) configs → ⊥
      not_here configs there = loaded-not_flawed files e there.1 broken there.4 flaw

  module _ (done : List Entry) (next : Entry) where
    abbrev More : List Entry
    More = done ++ next ∷ []

    cases : (broken : Broken) → IsFlawAmong files More broken → IsFlawAmong files done broken ⊎ IsFlawAt files next broken
    cases broken h = any-push_cases (λ e. IsFlawAt files e broken) done next h

    -- one more of this kind
    loaded-push : (used : Bool) (configs : List LoadedConfig) (config : LoadedConfig) → All (λ e. IsPathBefore e.path next.path) done → next.is_used ≡ used → IsLoadedOf files next config → AreLoadedOf files used done configs → AreLoadedOf files used More (configs ++ config ∷ [])
    loaded-push used configs config behind kind is h = record {
      ordered = all_pairs_push (λ c later. IsPathBefore c.path later.path) configs config h.ordered (λ k d inside. before (get_or configs k d) (h.each k d inside));
      each = All-push (λ c. Any (λ e. (e.is_used ≡ used) × IsLoadedOf files e c) More) configs config
          (All-weaker (λ c. Any (λ e. (e.is_used ≡ used) × IsLoadedOf files e c) done) (λ c. Any (λ e. (e.is_used ≡ used) × IsLoadedOf files e c) More) (λ c one. any-append (λ e. (e.is_used ≡ used) × IsLoadedOf files e c) done (next ∷ []) one) configs h.each)
          (Any-push (λ e. (e.is_used ≡ used) × IsLoadedOf files e config) done next (kind, is));
      all = All-push (λ e. e.is_used ≡ used → Any (IsLoadedOf files e) (configs ++ config ∷ [])) done next
          (All-weaker (λ e. e.is_used ≡ used → Any (IsLoadedOf files e) configs) (λ e. e.is_used ≡ used → Any (IsLoadedOf files e) (configs ++ config ∷ [])) (λ e there as_used. any-append (IsLoadedOf files e) configs (config ∷ []) (there as_used)) done h.all)
          (λ _. Any-push (IsLoadedOf files next) configs config is);
    }
      where
        before : (c : LoadedConfig) → Any (λ e. (e.is_used ≡ used) × IsLoadedOf files e c) done → IsPathBefore c.path config.path
        before c (k, e, inside, at, one) =
            subst (λ (p : List ℕ). IsPathBefore p config.path) (sym one.1.path)
            (subst (IsPathBefore e.path) (sym is.path) (All-contains (λ (x : Entry). IsPathBefore x.path next.path) done e behind (k, inside, at)))

    -- one more of the other kind
    loaded-same : (used : Bool) (configs : List LoadedConfig) → (next.is_used ≡ used → ⊥) → AreLoadedOf files used done configs → AreLoadedOf files used More configs
    loaded-same used configs other h = record {
      ordered = h.ordered;
      each = All-weaker (λ c. Any (λ e. (e.is_used ≡ used) × IsLoadedOf files e c) done) (λ c. Any (λ e. (e.is_used ≡ used) × IsLoadedOf files e c) More) (λ c one. any-append (λ e. (e.is_used ≡ used) × IsLoadedOf files e c) done (next ∷ []) one) configs h.each;
      all = All-push (λ e. e.is_used ≡ used → Any (IsLoadedOf files e) configs) done next h.all (λ same. absurd (other same));
    }

    module _ (config : LoadedConfig) (is : IsLoadedOf files next config) where
      first-stays : (broken : Broken) → IsFirstFlaw files done broken → IsFirstFlaw files More broken
      first-stays broken h = record {
        here = any-append (λ e. IsFlawAt files e broken) done (next ∷ []) h.here;
        first = λ other among before. elim (cases other among) [
          | inl earlier ↦ h.first other earlier before
          | inr here ↦ loaded-not_flawed files next config other is here
        ];
      }

      module _ (behind : All (λ e. IsPathBefore e.path next.path) done) (used others : List LoadedConfig) where
        pub add-used : (first : Option Broken) → next.is_used ≡ true → MatchOption first (AreRead files done used others) (IsFirstFlaw files done) → MatchOption first (AreRead files More (used ++ config ∷ []) others) (IsFirstFlaw files More)
        add-used None kind h = record {
          used_read = loaded-push true used config behind kind is h.used_read;
          others_read = loaded-same false others (λ not. true≢false (sym kind ∙ not)) h.others_read;
        }
        add-used (Some broken) kind h = first-stays broken h

        pub add-other : (first : Option Broken) → next.is_used ≡ false → MatchOption first (AreRead files done used others) (IsFirstFlaw files done) → MatchOption first (AreRead files More used (others ++ config ∷ [])) (IsFirstFlaw files More)
        add-other None kind h = record {
          used_read = loaded-same true used (λ not. true≢false (sym not ∙ kind)) h.used_read;
          others_read = loaded-push false others config behind kind is h.others_read;
        }
        add-other (Some broken) kind h = first-stays broken h

    module _ (broken : Broken) (flaw : IsFlawAt files next broken) (used others : List LoadedConfig) where
      as-new : (other : Broken) → IsFlawAt files next other → other ≡ broken
      as-new other h = one-flaw files next.path next.folder.now other broken h flaw

      -- one that comes before the first so far
      pub add-first : (first : Option Broken) → MatchOption first (AreRead files done used others) (IsFirstFlaw files done) → IfSome first (IsBrokenBefore broken) → IsFirstFlaw files More broken
      add-first None h before = record {
        here = Any-push (λ e. IsFlawAt files e broken) done next flaw;
        first = λ other among less. elim (cases other among) [
          | inl earlier ↦ none-among done used others other h earlier
          | inr here ↦ not-before_self broken (subst (λ (b : Broken). IsBrokenBefore b broken) (as-new other here) less)
        ];
      }
      add-first (Some first) h before = record {
        here = Any-push (λ e. IsFlawAt files e broken) done next flaw;
        first = λ other among less. elim (cases other among) [
          | inl earlier ↦ h.first other earlier (before-all other broken first less before)
          | inr here ↦ not-before_self broken (subst (λ (b : Broken). IsBrokenBefore b broken) (as-new other here) less)
        ];
      }

      -- one that doesn't
      pub add-later : (first : Option Broken) → MatchOption first (AreRead files done used others) (IsFirstFlaw files done) → IsSomeAnd first (λ f. IsBrokenBefore broken f → ⊥) → MatchOption first (AreRead files More used others) (IsFirstFlaw files More)
      add-later None h not = absurd not
      add-later (Some first) h not = record {
        here = any-append (λ e. IsFlawAt files e first) done (next ∷ []) h.here;
        first = λ other among less. elim (cases other among) [
          | inl earlier ↦ h.first other earlier less
          | inr here ↦ not (subst (λ (b : Broken). IsBrokenBefore b first) (as-new other here) less)
        ];
      }

-- ---- The loop over the entries

module _ (references : List (Bor Entry)) (i : ℕ) (next : Bor Entry) (inside : i < length references) (at : next ≡ get_or references i next) where
  next-at : next.now ≡ get_or (entries_at references) i next.now
  next-at = ap (λ (e : Bor Entry). e.now) at ∙ sym (get_or-map (λ (e : Bor Entry). e.now) references i next next.now inside)

  within : i < length (entries_at references)
  within = omega (arith, length-map references (λ (e : Bor Entry). e.now))

  pub entries-before : (entries : List Entry) → AreChosen entries (entries_at references) → All (λ e. IsPathBefore e.path next.now.path) (take i (entries_at references))
  entries-before entries are = all-before (λ (e later : Entry). IsPathBefore e.path later.path) (entries_at references) i next.now are.ordered within next-at

-- the entries that a loop has given
pub yielded-more : (references : List (Bor Entry)) (next : Bor Entry) → entries_at (references ++ next ∷ []) ≡ entries_at references ++ next.now ∷ []
yielded-more references next = map-append (λ (e : Bor Entry). e.now) references (next ∷ [])

pub yielded-before : (all yielded : List (Bor Entry)) (next : Bor Entry) → map (λ e. e) yielded ≡ take (length yielded) all → length yielded < length all → next ≡ get_or all (length yielded) next → (entries : List Entry) → AreChosen entries (entries_at all) → All (λ e. IsPathBefore e.path next.now.path) (entries_at yielded)
yielded-before all yielded next so_far inside at entries are =
    subst (All (λ e. IsPathBefore e.path next.now.path))
    (take-map (λ (e : Bor Entry). e.now) (length yielded) all ∙ ap entries_at (sym so_far ∙ map-id yielded))
    (entries-before all (length yielded) next inside at entries are)

pub yielded-all : (all yielded : List (Bor Entry)) → map (λ e. e) yielded ≡ all → entries_at yielded ≡ entries_at all
yielded-all all yielded end = ap entries_at (sym (map-id yielded) ∙ end)
