-- The configurations that the mods name, and the first rule that they break, from what was read.
use Rattle.std.proofs.Common.{◌≡◌, inl, inr, ℕ, ◌<◌, Bool, true, false, true≢false, List, ◌++◌, length, get_or, All, AllPairs, Any, Contains, Some, Result, Ok, Err, IfOk, IfErr, OnOk, IsPermutation, refl, ap, sym, ◌∙◌, subst, arith, lit<}
use Rattle.std.specs.List.{slice_get}
use Rattle.std.specs.Borrow.{Bor}
use Rattle.std.specs.Cmp.{IsTotalOrder, IsStrictWeakOrder}
use Rattle.std.specs.Fn.{Called, ComparesAs}
use Rattle.std.specs.List.Sorted.{IsSortedByClosure}
use Rattle.std.specs.Cmp.Lexicographic.{slice_cmp}
use Rattle.std.specs.declared.cmp.Ordering.{Ordering}
use Rattle.std.specs.declared.cmp.Ordering.TheVariants.{Less, Equal, Greater}
use Rattle.std.specs.Ordering.{nat_cmp, int_cmp, ordering_then, ordering_reverse, is_eq, is_lt, eq_by_cmp, MatchOrdering}
use Rattle.std.proofs.lemmas.Bool.{cases_order}
use Rattle.std.proofs.lemmas.Cmp.{nat_list_cmp_total, nat_cmp_total, int_cmp_total, then_total, on_total, eq_by_cmp_equiv, tied_itself, ranked}
use Rattle.std.proofs.lemmas.List.Elements.{All-contains, All-weaker}
use Rattle.std.proofs.lemmas.Fn.{always_returns_same}
use Rattle.std.proofs.lemmas.List.Sorted.{All-permutation, Contains-permutation, ranks_by, sorted_far}
use Rattle.std.proofs.lemmas.Map.Keys.{IsDistinct-IsPermutation, IsDistinct-from_apart, apart_from_distinct}
use Rattle.wv_base.specs.declared.broken.Broken.{Broken}
use Rattle.wv_base.specs.declared.rule.Rule.{Rule}
use Rattle.wv_base.specs.declared.rule.Rule.TheVariants.{ConfigMissing, ConfigBad, PluginNamed, RefmapBad}
use Rattle.wv_base.specs.declared.side.Side.{Side}
use Rattle.wv_base.specs.Folder.{File}
use Rattle.wv_base.specs.Rule.{number_of}
use Rattle.wv_mod.specs.FirstBroken.{IsKept, IsFirstBreak, here, behind}
use Rattle.wv_mod.specs.declared.mod_info.ModInfo.{ModInfo}
use Rattle.wv_mod.specs.declared.environment.Environment.{Environment}
use Rattle.wv_mod.specs.Environment.{IsFor}
use Rattle.wv_config.specs.declared.fault.ConfigFault.{ConfigFault}
use Rattle.wv_config.specs.declared.fault.ConfigFault.TheVariants as fault
use Rattle.wv_config.specs.declared.loaded.Configs.{Configs}
use Rattle.wv_config.specs.declared.loaded.LoadedConfig.{LoadedConfig}
use Rattle.wv_config.specs.declared.naming.Entry.{Entry}
use Rattle.wv_config.specs.Config.{IsConfigBroken, no_object, wrong_key, plugin}
use Rattle.wv_config.specs.Entries.{IsEntry, Stands, AreEntriesTo, AreChosen, AreNamed}
use Rattle.wv_config.specs.Fault.{IsFaultOf}
use Rattle.wv_config.specs.Finding.{IsLoadedOf, AreLoadedOf, IsFlawAt, IsFlawAmong, IsFirstFlaw, AreRead, AreReadOf, IsFirstFlawOf}
use Rattle.wv_config.specs.Loading.{IsReadFrom, IsRead, used_order, AreUsed, AreOthers, AreConfigs}
use Rattle.wv_config.specs.Naming.{folder_of, IsEarlier, Anywhere, IsNamed, IsNamedFor, IsFirstNaming, IsUsedAt, IsOtherAt, StandsAt}
use Rattle.wv_config.specs.Reading.{IsFlaw, BreaksRule, IsFirstConfigBroken, AreConfigsKept}
use Rattle.wv_config.proofs.Standing.{same-mod, same-mixin, are-named}
use Rattle.wv_config.proofs.Reading.{read-not_flawed}
use denote.Param.Members.{Mut}

-- ---- A configuration stands at one entry

one-place : (m p m' p' : ℕ) → (IsEarlier m p m' p' → ⊥) → (IsEarlier m' p' m p → ⊥) → (m ≡ m') × (p ≡ p')
one-place m p m' p' not not' = elim (cases_order m m') [
  | inl same ↦ elim (cases_order p p') [
    | inl same' ↦ (same, same')
    | inr (inl below) ↦ absurd (not (inr (same, below)))
    | inr (inr above) ↦ absurd (not' (inr (sym same, above)))
  ]
  | inr (inl below) ↦ absurd (not (inl below))
  | inr (inr above) ↦ absurd (not' (inl above))
]

first-one : (Fits : Environment → Type 0) (mods : List ModInfo) (path : List ℕ) (m p m' p' : ℕ) → IsFirstNaming Fits mods path m p → IsFirstNaming Fits mods path m' p' → (m ≡ m') × (p ≡ p')
first-one Fits mods path m p m' p' g h = one-place m p m' p' (h.first m p g.here) (g.first m' p' h.here)

module _ (side : Side) (mods : List ModInfo) where
  pub used-one : (path : List ℕ) (m p m' p' : ℕ) → IsUsedAt side mods path m p → IsUsedAt side mods path m' p' → (m ≡ m') × (p ≡ p')
  used-one path m p m' p' g h = first-one (IsFor side) mods path m p m' p' g h

  pub other-one : (path : List ℕ) (m p m' p' : ℕ) → IsOtherAt side mods path m p → IsOtherAt side mods path m' p' → (m ≡ m') × (p ≡ p')
  other-one path m p m' p' g h = first-one Anywhere mods path m p m' p' g.0 h.0

  stands-one : (path : List ℕ) (m p m' p' : ℕ) → StandsAt side mods path m p → StandsAt side mods path m' p' → (m ≡ m') × (p ≡ p')
  stands-one path m p m' p' (inl g) (inl h) = used-one path m p m' p' g h
  stands-one path m p m' p' (inl g) (inr h) = absurd (h.1 (m, p, g.here))
  stands-one path m p m' p' (inr g) (inl h) = absurd (g.1 (m', p', h.here))
  stands-one path m p m' p' (inr g) (inr h) = other-one path m p m' p' g h

  named-for_named : (path : List ℕ) → IsNamedFor side mods path → IsNamed mods path
  named-for_named path (m, p, names) = (
    m,
    p,
    record {
      info = names.info;
      entry = names.entry;
      mod_there = names.mod_there;
      entry_there = names.entry_there;
      is_path = names.is_path;
      fits = tt;
    },
  )

  stands-named : (path : List ℕ) (m p : ℕ) → StandsAt side mods path m p → IsNamed mods path
  stands-named path m p (inl used) = named-for_named path (m, p, used.here)
  stands-named path m p (inr other) = (m, p, other.0.here)

-- ---- The order of used configurations

total : IsTotalOrder used_order
total = then_total (on_total (λ (c : LoadedConfig). c.config.priority) int_cmp_total) (then_total (on_total (λ (c : LoadedConfig). c.mod_place) nat_cmp_total) (on_total (λ (c : LoadedConfig). c.place) nat_cmp_total))

nat_cmp-Equal : (x y : ℕ) → nat_cmp x y ≡ Equal → x ≡ y
nat_cmp-Equal x y e = subst (λ (o : Ordering). MatchOrdering o (x < y) (x ≡ y) (y < x)) e (ranked x y (nat_cmp x y) refl)

then-Equal : (o p : Ordering) → ordering_then o p ≡ Equal → (o ≡ Equal) × (p ≡ Equal)
then-Equal Less p e = let clash : Less ≡ Equal = e in cc
then-Equal Equal p e = (refl, e)
then-Equal Greater p e = let clash : Greater ≡ Equal = e in cc

same-places : (c d : LoadedConfig) → used_order c d ≡ Equal → (c.mod_place ≡ d.mod_place) × (c.place ≡ d.place)
same-places c d e =
    let inner = (then-Equal (int_cmp c.config.priority d.config.priority) (ordering_then (nat_cmp c.mod_place d.mod_place) (nat_cmp c.place d.place)) e).1 in
    let both = then-Equal (nat_cmp c.mod_place d.mod_place) (nat_cmp c.place d.place) inner in
    (nat_cmp-Equal c.mod_place d.mod_place both.0, nat_cmp-Equal c.place d.place both.1)

abbrev same-path : LoadedConfig → LoadedConfig → Bool
same-path c d = eq_by_cmp (slice_cmp nat_cmp) c.path d.path

true-false : (b : Bool) → b ≡ true → b ≡ false → ⊥
true-false b t f = true≢false (sym t ∙ f)

-- what a sort ensures whose closure compares in this order
pub sorted-used : {F E : Type 0} (g : Mut F (Bor LoadedConfig × (Bor LoadedConfig × Unit {0})) Ordering) (f : F) (used : List LoadedConfig) (r : Result (Unit {0}) E) → OnOk r (IsSortedByClosure g f used) → ((a : Bor LoadedConfig × (Bor LoadedConfig × Unit {0})) (o : Ordering) (f' : F) → Called g f a o f' → (o ≡ used_order a.0.now a.1.0.now) × (f' ≡ f)) → OnOk r (AllPairs (λ config later. used_order later config ≡ Less → ⊥) used)
sorted-used g f used (Err e) sorted says = tt
sorted-used {F} g f used (Ok x) sorted says = λ i j d below inside less.
    true-false (lt (get_or used j d) (get_or used i d)) (ap is_lt less) (sorted_far lt weak used (sorted lt weak compares) i j d (omega arith) inside)
  where
    lt : LoadedConfig → LoadedConfig → Bool
    lt a b = is_lt (used_order a b)

    weak : IsStrictWeakOrder lt
    weak = ranks_by total (λ c. c)

    compares : ComparesAs g lt f
    compares = always_returns_same _ _ _ (λ a o f' k. (ap is_lt (says a o f' k).0, (says a o f' k).1))

-- ---- What was read at the entries

module _ (files : List File) (side : Side) (mods : List ModInfo) (chosen : List Entry) (named : AreNamed side mods chosen) where
  entry-there : (e : Entry) → Contains chosen e → IsEntry side mods e × Stands side mods e
  entry-there e found = All-contains (λ (x : Entry). IsEntry side mods x × Stands side mods x) chosen e named.each found

  module _ (e : Entry) (found : Contains chosen e) (c : LoadedConfig) (is : IsLoadedOf files e c) where
    moved : (P : List ℕ → ℕ → ℕ → Type 0) → P e.path e.mod_place e.place → P c.path c.mod_place c.place
    moved P h = subst (λ a. P a c.mod_place c.place) (sym is.path) (subst (λ b. P e.path b c.place) (sym is.mod_place) (subst (P e.path e.mod_place) (sym is.place) h))

    read-there : IsRead files mods c
    read-there =
        let at = (entry-there e found).0 in
        (at.info, ap (slice_get mods) is.mod_place ∙ at.mod_there, subst (λ (f : List ℕ). IsReadFrom files f c) at.of.folder is.read)

    used-there : e.is_used ≡ true → IsUsedAt side mods c.path c.mod_place c.place
    used-there used = by (entry-there e found).1
      where
        by : Stands side mods e → IsUsedAt side mods c.path c.mod_place c.place
        by (inl (yes_used, at)) = moved (IsUsedAt side mods) at
        by (inr (unused, at)) = absurd (true-false e.is_used used unused)

    other-there : e.is_used ≡ false → IsOtherAt side mods c.path c.mod_place c.place
    other-there unused = by (entry-there e found).1
      where
        by : Stands side mods e → IsOtherAt side mods c.path c.mod_place c.place
        by (inl (used, at)) = absurd (true-false e.is_used used unused)
        by (inr (not_used, at)) = moved (IsOtherAt side mods) at

  -- two that were read at the same places have the same path
  places-path : (c d : LoadedConfig) (e f : Entry) → Contains chosen e → Contains chosen f → IsLoadedOf files e c → IsLoadedOf files f d → c.mod_place ≡ d.mod_place → c.place ≡ d.place → c.path ≡ d.path
  places-path c d e f in_e in_f is is' same_mod same_place =
      let at = (entry-there e in_e).0 in
      let at' = (entry-there f in_f).0 in
      let info = same-mod mods e.mod_place f.mod_place at.info at'.info (sym is.mod_place ∙ same_mod ∙ is'.mod_place) at.mod_there at'.mod_there in
      let mixin = same-mixin at.info at'.info e.place f.place at.mixin at'.mixin info (sym is.place ∙ same_place ∙ is'.place) at.entry_there at'.entry_there in
      is.path ∙ at.of.path ∙ ap (λ (i : ModInfo). folder_of i.path ++ at.mixin.config) info ∙ ap (λ x. folder_of at'.info.path ++ x.config) mixin ∙ sym at'.of.path ∙ sym is'.path

  -- ---- The used ones

  module _ (used : List LoadedConfig) (loaded : AreLoadedOf files true chosen used) (sorted : List LoadedConfig) (same : IsPermutation used sorted) (ordered : AllPairs (λ c later. used_order later c ≡ Less → ⊥) sorted) where
    abbrev FromEntry : LoadedConfig → Type 0
    FromEntry c = Any (λ e. (e.is_used ≡ true) × IsLoadedOf files e c) chosen

    each-sorted : All FromEntry sorted
    each-sorted = All-permutation (λ c. Any (λ e. (e.is_used ≡ true) × IsLoadedOf files e c) chosen) used sorted same loaded.each

    distinct : (i j : ℕ) (d : LoadedConfig) → i < j → j < length sorted → same-path (get_or sorted i d) (get_or sorted j d) ≡ false
    distinct i j d below inside = apart_from_distinct same-path sorted i j d
        (IsDistinct-IsPermutation same-path (λ x y. (eq_by_cmp_equiv nat_list_cmp_total).symm x.path y.path) used sorted same
        (IsDistinct-from_apart same-path used (λ i j d below inside. ap is_eq (loaded.ordered i j d below inside)))) below inside

    from-same : (c d : LoadedConfig) → FromEntry c → FromEntry d → used_order c d ≡ Equal → c.path ≡ d.path
    from-same c d (k, e, in_e, at_e, one) (l, f, in_f, at_f, other) equal =
        let places = same-places c d equal in
        places-path c d e f (k, in_e, at_e) (l, in_f, at_f) one.1 other.1 places.0 places.1

    strictly : (c d : LoadedConfig) → FromEntry c → FromEntry d → same-path c d ≡ false → (used_order d c ≡ Less → ⊥) → (o : Ordering) → used_order c d ≡ o → used_order c d ≡ Less
    strictly c d from from' apart not Less e = e
    strictly c d from from' apart not Equal e = absurd (true-false (same-path c d) (tied c d (from-same c d from from' e)) apart)
      where
        tied : (a b : LoadedConfig) → a.path ≡ b.path → same-path a b ≡ true
        tied a b e = ap (λ (p : List ℕ). is_eq (slice_cmp nat_cmp a.path p)) (sym e) ∙ ap is_eq (tied_itself nat_list_cmp_total a.path)
    strictly c d from from' apart not Greater e = absurd (not (total.antisymm d c ∙ ap ordering_reverse e))

    pub are-used : AreUsed files side mods sorted
    are-used = record {
      ordered = λ i j d below inside.
          let early : i < length sorted = omega arith in
          let c = get_or sorted i d in
          let later = get_or sorted j d in
          strictly c later (each-sorted i d early) (each-sorted j d inside) (distinct i j d below inside) (ordered i j d below inside) (used_order c later) refl;
      each = All-weaker (λ c. Any (λ e. (e.is_used ≡ true) × IsLoadedOf files e c) chosen) (λ c. IsUsedAt side mods c.path c.mod_place c.place × IsRead files mods c)
          (λ c from. (used-there from.1 (from.0, from.2, from.3) c from.4.1 from.4.0, read-there from.1 (from.0, from.2, from.3) c from.4.1)) sorted each-sorted;
      all = λ path named_for.
          let there = named.all path (named-for_named side mods path named_for) in
          let e = there.1 in
          let found : Contains chosen e = (there.0, there.2, there.3) in
          there-sorted path e there.4 (All-contains (λ (x : Entry). x.is_used ≡ true → Any (IsLoadedOf files x) used) chosen e loaded.all found (is-used path named_for e there.4 (entry-there e found).1));
    }
      where
        is-used : (path : List ℕ) → IsNamedFor side mods path → (e : Entry) → e.path ≡ path → Stands side mods e → e.is_used ≡ true
        is-used path named_for e at (inl (yes_used, stands)) = yes_used
        is-used path named_for e at (inr (unused, other)) = absurd (other.1 (subst (IsNamedFor side mods) (sym at) named_for))

        there-sorted : (path : List ℕ) (e : Entry) → e.path ≡ path → Any (IsLoadedOf files e) used → Any (λ (c : LoadedConfig). c.path ≡ path) sorted
        there-sorted path e at (k, c, inside, is_c, one) =
            let moved_to = Contains-permutation used sorted c same (k, inside, is_c) in
            (moved_to.0, c, moved_to.1, moved_to.2, one.path ∙ at)

  -- ---- The others

  pub are-others : (others : List LoadedConfig) → AreLoadedOf files false chosen others → AreOthers files side mods others
  are-others others loaded = record {
    ordered = loaded.ordered;
    each = All-weaker (λ c. Any (λ e. (e.is_used ≡ false) × IsLoadedOf files e c) chosen) (λ c. IsOtherAt side mods c.path c.mod_place c.place × IsRead files mods c)
        (λ c from. (other-there from.1 (from.0, from.2, from.3) c from.4.1 from.4.0, read-there from.1 (from.0, from.2, from.3) c from.4.1)) others loaded.each;
    all = λ path is_named not_for.
        let there = named.all path is_named in
        let e = there.1 in
        let found : Contains chosen e = (there.0, there.2, there.3) in
        there-too path e there.4 (All-contains (λ (x : Entry). x.is_used ≡ false → Any (IsLoadedOf files x) others) chosen e loaded.all found (is-other path not_for e there.4 (entry-there e found).1));
  }
    where
      is-other : (path : List ℕ) → (IsNamedFor side mods path → ⊥) → (e : Entry) → e.path ≡ path → Stands side mods e → e.is_used ≡ false
      is-other path not_for e at (inl (yes_used, stands)) = absurd (not_for (subst (IsNamedFor side mods) at (e.mod_place, e.place, stands.here)))
      is-other path not_for e at (inr (unused, other)) = unused

      there-too : (path : List ℕ) (e : Entry) → e.path ≡ path → Any (IsLoadedOf files e) others → Any (λ (c : LoadedConfig). c.path ≡ path) others
      there-too path e at (k, c, inside, is_c, one) = (k, c, inside, is_c, one.path ∙ at)

  -- ---- What they break

  at-entry : (e : Entry) → Stands side mods e → StandsAt side mods e.path e.mod_place e.place
  at-entry e (inl (used, stands)) = inl stands
  at-entry e (inr (unused, stands)) = inr stands

  breaks : (e : Entry) (broken : Broken) (rule : Rule) → Contains chosen e → IsFlawAt files e broken → broken.rule ≡ rule → BreaksRule files side mods rule broken
  breaks e broken rule found flaw of =
      let there = entry-there e found in
      record {
        folder = e.folder.now;
        path = e.path;
        named = record {
          mod_place = e.mod_place;
          place = e.place;
          stands = at-entry e there.1;
          info = there.0.info;
          mod_there = there.0.mod_there;
          in_folder = there.0.of.folder;
        };
        flaw = flaw;
        of = of;
      }

  among : (rule : Rule) (broken : Broken) → BreaksRule files side mods rule broken → IsFlawAmong files chosen broken
  among rule broken h =
      let there = named.all h.path (stands-named side mods h.path h.named.mod_place h.named.place h.named.stands) in
      let e = there.1 in
      let at = entry-there e (there.0, there.2, there.3) in
      let places = stands-one side mods e.path e.mod_place e.place h.named.mod_place h.named.place (at-entry e at.1) (subst (λ (p : List ℕ). StandsAt side mods p h.named.mod_place h.named.place) (sym there.4) h.named.stands) in
      let info = same-mod mods e.mod_place h.named.mod_place at.0.info h.named.info places.0 at.0.mod_there h.named.mod_there in
      let folder : h.folder ≡ e.folder.now = h.named.in_folder ∙ ap (λ (i : ModInfo). folder_of i.path) (sym info) ∙ sym at.0.of.folder in
      (there.0, e, there.2, there.3, subst (λ (f : List ℕ). IsFlaw files f e.path broken) folder (subst (λ (p : List ℕ). IsFlaw files h.folder p broken) (sym there.4) h.flaw))

  module _ (broken : Broken) (h : IsFirstFlaw files chosen broken) where
    smaller-kept : (rule : Rule) → number_of rule < number_of broken.rule → IsKept (BreaksRule files side mods rule)
    smaller-kept rule less other also = h.first other (among rule other also) (inl (subst (λ (r : Rule). number_of r < number_of broken.rule) (sym also.of) less))

    first-broken : (rule : Rule) → broken.rule ≡ rule → IsFirstBreak (BreaksRule files side mods rule) broken
    first-broken rule of =
        let there = h.here in
        record {
          here = breaks there.1 broken rule (there.0, there.2, there.3) there.4 of;
          first = λ other also before. h.first other (among rule other also) (inr (ap number_of (also.of ∙ sym of), before));
        }

    by-missing : broken.rule ≡ ConfigMissing → IsFirstConfigBroken files side mods broken
    by-missing of = here (first-broken ConfigMissing of)

    by-bad : broken.rule ≡ ConfigBad → IsFirstConfigBroken files side mods broken
    by-bad of = behind (smaller-kept ConfigMissing (rw of (lit< tt))) (here (first-broken ConfigBad of))

    by-plugin : broken.rule ≡ PluginNamed → IsFirstConfigBroken files side mods broken
    by-plugin of = behind (smaller-kept ConfigMissing (rw of (lit< tt))) (behind (smaller-kept ConfigBad (rw of (lit< tt))) (here (first-broken PluginNamed of)))

    by-refmap : broken.rule ≡ RefmapBad → IsFirstConfigBroken files side mods broken
    by-refmap of = behind (smaller-kept ConfigMissing (rw of (lit< tt))) (behind (smaller-kept ConfigBad (rw of (lit< tt))) (behind (smaller-kept PluginNamed (rw of (lit< tt))) (here (first-broken RefmapBad of))))

    rule-told : (other : Broken) → broken ≡ other → broken.rule ≡ other.rule
    rule-told other told = ap (λ (b : Broken). b.rule) told

    by-config : (path content : List ℕ) → IsConfigBroken path content broken → IsFirstConfigBroken files side mods broken
    by-config path content (no_object none told) = by-bad (ap (λ (b : Broken). b.rule) told)
    by-config path content (wrong_key value key text first told) = by-bad (ap (λ (b : Broken). b.rule) told)
    by-config path content (plugin value config text of there told) = by-plugin (ap (λ (b : Broken). b.rule) told)

    by-flaw : (folder path : List ℕ) → IsFlaw files folder path broken → IsFirstConfigBroken files side mods broken
    by-flaw folder path (inl (inl (none, told))) = by-missing (ap (λ (b : Broken). b.rule) told)
    by-flaw folder path (inl (inr (content, there, flaw))) = by-config path content flaw
    by-flaw folder path (inr (config, at, (name, content, at', there, flaw))) = by-refmap (ap (λ (b : Broken). b.rule) flaw.told)

    first-of : IsFirstConfigBroken files side mods broken
    first-of = let there = h.here in by-flaw there.1.folder.now there.1.path there.4

  pub flaw-fault : (f : ConfigFault) → IsFaultOf (IsFirstFlaw files chosen) f → IsFaultOf (IsFirstConfigBroken files side mods) f
  flaw-fault fault.Memory h = tt
  flaw-fault (fault.Broken broken) h = first-of broken h

-- ---- Configurations that are loaded break nothing

module _ (files : List File) (side : Side) (mods : List ModInfo) (configs : Configs) (are : AreConfigs files side mods configs) where
  -- a configuration that was read at the entry of another breaks nothing there
  read-kept : (folder path : List ℕ) (m p : ℕ) (info : ModInfo) (broken : Broken) (c : LoadedConfig) → c.path ≡ path → IsRead files mods c → (c.mod_place ≡ m) × (c.place ≡ p) → slice_get mods m ≡ Some info → folder ≡ folder_of info.path → IsFlaw files folder path broken → ⊥
  read-kept folder path m p info broken c at (info', there', read) places there in_folder flaw =
      let same : info' ≡ info = same-mod mods c.mod_place m info' info places.0 there' there in
      let folders : folder ≡ folder_of info'.path = in_folder ∙ ap (λ (i : ModInfo). folder_of i.path) (sym same) in
      read-not_flawed files (folder_of info'.path) c broken read
      (subst (λ (f : List ℕ). IsFlaw files f c.path broken) folders (subst (λ (q : List ℕ). IsFlaw files folder q broken) (sym at) flaw))

  none-broken : (rule : Rule) → IsKept (BreaksRule files side mods rule)
  none-broken rule broken h = by h.named.stands
    where
      by : StandsAt side mods h.path h.named.mod_place h.named.place → ⊥
      by (inl used) =
          let (k, c, inside, is_c, at) = are.used.all h.path (h.named.mod_place, h.named.place, used.here) in
          let one = All-contains (λ (x : LoadedConfig). IsUsedAt side mods x.path x.mod_place x.place × IsRead files mods x) configs.used.items c are.used.each (k, inside, is_c) in
          read-kept h.folder h.path h.named.mod_place h.named.place h.named.info broken c at one.1
          (used-one side mods h.path c.mod_place c.place h.named.mod_place h.named.place (subst (λ (q : List ℕ). IsUsedAt side mods q c.mod_place c.place) at one.0) used)
          h.named.mod_there h.named.in_folder h.flaw
      by (inr other) =
          let (k, c, inside, is_c, at) = are.others.all h.path (h.named.mod_place, h.named.place, other.0.here) other.1 in
          let one = All-contains (λ (x : LoadedConfig). IsOtherAt side mods x.path x.mod_place x.place × IsRead files mods x) configs.others.items c are.others.each (k, inside, is_c) in
          read-kept h.folder h.path h.named.mod_place h.named.place h.named.info broken c at one.1
          (other-one side mods h.path c.mod_place c.place h.named.mod_place h.named.place (subst (λ (q : List ℕ). IsOtherAt side mods q c.mod_place c.place) at one.0) other)
          h.named.mod_there h.named.in_folder h.flaw

  pub loaded-kept : AreConfigsKept files side mods
  loaded-kept = (none-broken ConfigMissing, (none-broken ConfigBad, (none-broken PluginNamed, (none-broken RefmapBad, tt))))

-- ---- What was answered

module _ (files : List File) (entries chosen : List Entry) (are : AreChosen entries chosen) where
  pub all-read : (r : Result Configs ConfigFault) → IfOk r (λ configs. AreRead files chosen configs.used.items configs.others.items) → IfOk r (AreReadOf files entries)
  all-read (Ok configs) h = (chosen, are, h)
  all-read (Err f) h = tt

  pub all-flawed : (r : Result Configs ConfigFault) → IfErr r (IsFaultOf (IsFirstFlaw files chosen)) → IfErr r (IsFaultOf (IsFirstFlawOf files entries))
  all-flawed (Ok configs) h = tt
  all-flawed (Err fault.Memory) h = tt
  all-flawed (Err (fault.Broken broken)) h = (chosen, are, h)

module _ (files : List File) (side : Side) (mods : List ModInfo) (entries : List Entry) (h : AreEntriesTo side mods (length mods) 0 entries) where
  pub configs-fault : (f : ConfigFault) → IsFaultOf (IsFirstFlawOf files entries) f → IsFaultOf (IsFirstConfigBroken files side mods) f
  configs-fault fault.Memory flaw = tt
  configs-fault (fault.Broken broken) (chosen, are, first) = flaw-fault files side mods chosen (are-named side mods entries h chosen are) (fault.Broken broken) first

  pub configs-loaded : (configs sorted : Configs) → AreReadOf files entries configs → IsPermutation configs.used.items sorted.used.items → AllPairs (λ config later. used_order later config ≡ Less → ⊥) sorted.used.items → configs.others.items ≡ sorted.others.items → AreConfigs files side mods sorted
  configs-loaded configs sorted (chosen, are, read) same ordered others =
      let named = are-named side mods entries h chosen are in
      record {
        used = are-used files side mods chosen named configs.used.items read.used_read sorted.used.items same ordered;
        others = subst (AreOthers files side mods) others (are-others files side mods chosen named configs.others.items read.others_read);
      }
