-- The configurations that mods name are loaded in one way, or one rule is the first that they break.
use Rattle.std.proofs.Common.{◌≡◌, inl, inr, ℕ, zero, suc, ◌<◌, List, [], ◌∷◌, ◌++◌, length, get_or, map, All, AllPairs, Any, Contains, Option, Some, None, refl, ap, sym, ◌∙◌, subst, arith, codes}
use Rattle.std.specs.List.{AllZip}
use Rattle.std.specs.declared.cmp.Ordering.{Ordering}
use Rattle.std.specs.declared.cmp.Ordering.TheVariants.{Less, Equal}
use Rattle.std.specs.Ordering.{nat_cmp, int_cmp, ordering_then}
use Rattle.std.specs.Cmp.{IsTotalOrder}
use Rattle.std.proofs.lemmas.Cmp.{nat_cmp_total, int_cmp_total, then_total, on_total, tied_itself}
use Rattle.std.proofs.lemmas.List.{get_or-map, length-map}
use Rattle.std.proofs.lemmas.List.Elements.{All-contains, All-head, All-tail}
use Rattle.wv_base.specs.declared.broken.Broken.{Broken}
use Rattle.wv_base.specs.declared.rule.Rule.{Rule}
use Rattle.wv_base.specs.declared.rule.Rule.TheVariants.{RefmapBad}
use Rattle.wv_base.specs.declared.side.Side.{Side}
use Rattle.wv_base.specs.Folder.{File, IsPathBefore}
use Rattle.wv_mod.specs.declared.mod_info.ModInfo.{ModInfo}
use Rattle.wv_resolve.proofs.FirstRule.{IsOneAt, one-first_of, kept-not_first}
use Rattle.wv_resolve.proofs.OneMods.{same-ordered}
use Rattle.wv_resolve.proofs.Paths.{not-both_before}
use Rattle.wv_config.specs.declared.config.Config.{Config}
use Rattle.wv_config.specs.declared.loaded.Configs.{Configs}
use Rattle.wv_config.specs.declared.loaded.LoadedConfig.{LoadedConfig}
use Rattle.wv_config.specs.declared.refmap.Refmap.{Refmap}
use Rattle.wv_config.specs.Config.{IsConfigBroken, no_object, wrong_key, plugin}
use Rattle.wv_config.specs.Fault.{broken_at}
use Rattle.wv_config.specs.Loading.{IsRead, AreUsed, AreOthers, AreConfigs, IsSameAs, AreSame}
use Rattle.wv_config.specs.Naming.{folder_of, IsUsedAt, IsOtherAt}
use Rattle.wv_config.specs.Reading.{IsFlaw, IsConfigAt, IsConfigFlaw, IsRefmapFlaw, IsRefmapOf, refmap_of, BreaksRule, config_rules, IsFirstConfigBroken, AreConfigsKept}
use Rattle.wv_config.specs.Refmap.{text_in, text_within}
use Rattle.wv_config.proofs.Outcome.{used-one, other-one}
use Rattle.wv_config.proofs.Standing.{same-mod}
use Rattle.wv_config.proofs.Reading.{one-config_at, one-config_flaw}
use Rattle.wv_config.proofs.Refusals.{same_object}

-- ---- What is kept is not refused

pub kept-not_refused : (files : List File) (side : Side) (mods : List ModInfo) (broken : Broken) → AreConfigsKept files side mods → IsFirstConfigBroken files side mods broken → ⊥
kept-not_refused files side mods broken kept first = kept-not_first (BreaksRule files side mods) config_rules broken kept first

-- ---- One rule is the first

config-broken_path : (path content : List ℕ) (broken : Broken) → IsConfigBroken path content broken → broken.place.file ≡ path
config-broken_path path content broken (no_object none told) = ap (λ (b : Broken). b.place.file) told
config-broken_path path content broken (wrong_key value key text first told) = ap (λ (b : Broken). b.place.file) told
config-broken_path path content broken (plugin value config text of there told) = ap (λ (b : Broken). b.place.file) told

config-broken_rule : (path content : List ℕ) (broken : Broken) → IsConfigBroken path content broken → broken.rule ≡ RefmapBad → ⊥
config-broken_rule path content broken (no_object none told) of = let rule = ap (λ (b : Broken). b.rule) told in cc
config-broken_rule path content broken (wrong_key value key text first told) of = let rule = ap (λ (b : Broken). b.rule) told in cc
config-broken_rule path content broken (plugin value config text of' there told) of = let rule = ap (λ (b : Broken). b.rule) told in cc

flaw-path : (files : List File) (path : List ℕ) (broken : Broken) → IsConfigFlaw files path broken → broken.place.file ≡ path
flaw-path files path broken (inl (none, told)) = ap (λ (b : Broken). b.place.file) told
flaw-path files path broken (inr (content, there, flaw)) = config-broken_path path content broken flaw

flaw-rule : (files : List File) (path : List ℕ) (broken : Broken) → IsConfigFlaw files path broken → broken.rule ≡ RefmapBad → ⊥
flaw-rule files path broken (inl (none, told)) of = let rule = ap (λ (b : Broken). b.rule) told in cc
flaw-rule files path broken (inr (content, there, flaw)) of = config-broken_rule path content broken flaw of

refmap-rule : (files : List File) (folder : List ℕ) (config : Config) (broken : Broken) → IsRefmapFlaw files folder config broken → broken.rule ≡ RefmapBad
refmap-rule files folder config broken (name, content, at, there, flaw) = ap (λ (b : Broken). b.rule) flaw.told

one-refmap_bad : (files : List File) (folder folder' : List ℕ) (config config' : Config) (broken other : Broken) → IsRefmapFlaw files folder config broken → IsRefmapFlaw files folder' config' other → broken.place.file ≡ other.place.file → broken ≡ other
one-refmap_bad files folder folder' config config' broken other (name, content, at, there, flaw) (name', content', at', there', flaw') same =
    let paths : folder ++ name ≡ folder' ++ name' = sym (ap (λ (b : Broken). b.place.file) flaw.told) ∙ same ∙ ap (λ (b : Broken). b.place.file) flaw'.told in
    flaw.told ∙ ap (λ p. broken_at RefmapBad p (codes "-")) paths ∙ sym flaw'.told

module _ (files : List File) (side : Side) (mods : List ModInfo) where
  rule-one : (rule : Rule) → IsOneAt (BreaksRule files side mods rule)
  rule-one rule broken other g h same = by g.flaw h.flaw
    where
      by : IsFlaw files g.folder g.path broken → IsFlaw files h.folder h.path other → broken ≡ other
      by (inl a) (inl b) =
          let paths : g.path ≡ h.path = sym (flaw-path files g.path broken a) ∙ same ∙ flaw-path files h.path other b in
          one-config_flaw files h.path broken other (subst (λ (p : List ℕ). IsConfigFlaw files p broken) paths a) b
      by (inl a) (inr (config, at, b)) = absurd (flaw-rule files g.path broken a (g.of ∙ sym h.of ∙ refmap-rule files h.folder config other b))
      by (inr (config, at, a)) (inl b) = absurd (flaw-rule files h.path other b (h.of ∙ sym g.of ∙ refmap-rule files g.folder config broken a))
      by (inr (config, at, a)) (inr (config', at', b)) = one-refmap_bad files g.folder h.folder config config' broken other a b same

  pub one-first_broken : (broken other : Broken) → IsFirstConfigBroken files side mods broken → IsFirstConfigBroken files side mods other → broken ≡ other
  one-first_broken broken other g h = one-first_of (BreaksRule files side mods) rule-one config_rules broken other g h

-- ---- One list of used ones, one list of others

-- what a configuration says, but for its refmap
abbrev key : LoadedConfig → List ℕ × (ℕ × (ℕ × Config))
key c = (c.path, (c.mod_place, (c.place, c.config)))

pairs-map : (R : List ℕ × (ℕ × (ℕ × Config)) → List ℕ × (ℕ × (ℕ × Config)) → Type 0) (xs : List LoadedConfig) → AllPairs (λ c d. R (key c) (key d)) xs → AllPairs R (map key xs)
pairs-map R [] pairs i j e below inside = absurd (omega arith)
pairs-map R (x ∷ xs) pairs i j e below inside =
    let later : j < length (x ∷ xs) = omega (arith, length-map (x ∷ xs) key) in
    subst (λ a. R a (get_or (map key (x ∷ xs)) j e)) (sym (get_or-map key (x ∷ xs) i x e (omega arith)))
    (subst (R (key (get_or (x ∷ xs) i x))) (sym (get_or-map key (x ∷ xs) j x e later)) (pairs i j x below later))

contains-map : (xs : List LoadedConfig) (z : List ℕ × (ℕ × (ℕ × Config))) → Contains (map key xs) z → Any (λ c. key c ≡ z) xs
contains-map [] z (k, inside, at) = absurd (omega arith)
contains-map (x ∷ xs) z (zero, inside, at) = (0, x, omega arith, refl, at)
contains-map (x ∷ xs) z (suc k, inside, at) = let (j, c, within, is, same) = contains-map xs z (k, omega arith, at) in (suc j, c, omega arith, is, same)

map-contains : (xs : List LoadedConfig) (z : List ℕ × (ℕ × (ℕ × Config))) → Any (λ c. key c ≡ z) xs → Contains (map key xs) z
map-contains xs z (k, c, inside, at, same) = (k, omega (arith, length-map xs key), get_or-map key xs k c z inside ∙ ap key at ∙ same)

same-keys : (R : List ℕ × (ℕ × (ℕ × Config)) → List ℕ × (ℕ × (ℕ × Config)) → Type 0) → ((a b : List ℕ × (ℕ × (ℕ × Config))) → R a b → R b a → ⊥) → (xs ys : List LoadedConfig) → AllPairs (λ c d. R (key c) (key d)) xs → AllPairs (λ c d. R (key c) (key d)) ys → ((c : LoadedConfig) → Contains xs c → Any (λ d. key d ≡ key c) ys) → ((c : LoadedConfig) → Contains ys c → Any (λ d. key d ≡ key c) xs) → map key xs ≡ map key ys
same-keys R one_way xs ys pairs pairs' within within' = same-ordered R one_way (map key xs) (map key ys) (pairs-map R xs pairs) (pairs-map R ys pairs') (into xs ys within) (into ys xs within')
  where
    into : (xs ys : List LoadedConfig) → ((c : LoadedConfig) → Contains xs c → Any (λ d. key d ≡ key c) ys) → (z : List ℕ × (ℕ × (ℕ × Config))) → Contains (map key xs) z → Contains (map key ys) z
    into xs ys within z found =
        let (k, c, inside, at, same) = contains-map xs z found in
        subst (Contains (map key ys)) same (map-contains ys (key c) (within c (k, inside, at)))

-- the refmap of one content has one text at each reference
one-refmap : (o : Option (List ℕ)) (refmap other : Refmap) → IsRefmapOf o refmap → IsRefmapOf o other → (class reference : List ℕ) → text_in refmap class reference ≡ text_in other class reference
one-refmap None refmap other g h class reference = g class reference ∙ sym (h class reference)
one-refmap (Some content) refmap other g h class reference =
    g.texts class reference ∙ ap (λ file. text_within file class reference) (same_object content g.file h.file g.is_file.text h.is_file.text) ∙ sym (h.texts class reference)

module _ (files : List File) (mods : List ModInfo) where
  same-as : (c d : LoadedConfig) → key c ≡ key d → IsRead files mods c → IsRead files mods d → IsSameAs c d
  same-as c d same (info, there, read) (info', there', read') =
      let path : c.path ≡ d.path = ap (λ k. k.0) same in
      let at_mod : c.mod_place ≡ d.mod_place = ap (λ k. k.1.0) same in
      let at_place : c.place ≡ d.place = ap (λ k. k.1.1.0) same in
      let says : c.config ≡ d.config = ap (λ k. k.1.1.1) same in
      let one : info ≡ info' = same-mod mods c.mod_place d.mod_place info info' at_mod there there' in
      let content : refmap_of files (folder_of info.path) c.config ≡ refmap_of files (folder_of info'.path) d.config = ap (λ (i : ModInfo). refmap_of files (folder_of i.path) c.config) one ∙ ap (refmap_of files (folder_of info'.path)) says in
      record {
        path = path;
        mod_place = at_mod;
        place = at_place;
        says = says;
        refmap = one-refmap (refmap_of files (folder_of info'.path) d.config) c.refmap d.refmap (subst (λ (o : Option (List ℕ)). IsRefmapOf o c.refmap) content read.refmap) read'.refmap;
      }

  same-lists : (xs ys : List LoadedConfig) → map key xs ≡ map key ys → All (IsRead files mods) xs → All (IsRead files mods) ys → AllZip IsSameAs xs ys
  same-lists [] [] e reads reads' = tt
  same-lists [] (y ∷ ys) e reads reads' = cc
  same-lists (x ∷ xs) [] e reads reads' = cc
  same-lists (x ∷ xs) (y ∷ ys) e reads reads' =
      let heads : key x ≡ key y = cc in
      let tails : map key xs ≡ map key ys = cc in (
        same-as x y heads (All-head (IsRead files mods) x xs reads) (All-head (IsRead files mods) y ys reads'),
        same-lists xs ys tails (All-tail (IsRead files mods) x xs reads) (All-tail (IsRead files mods) y ys reads'),
      )

  -- what was read at one path and places has one key
  one-key : (c d : LoadedConfig) → c.path ≡ d.path → (c.mod_place ≡ d.mod_place) × (c.place ≡ d.place) → IsRead files mods c → IsRead files mods d → key c ≡ key d
  one-key c d path places read read' =
      let says : c.config ≡ d.config = one-config_at files d.path c.config d.config (subst (λ (p : List ℕ). IsConfigAt files p c.config) path read.2.says) read'.2.says in
      λ i. (path i, (places.0 i, (places.1 i, says i)))

-- the order of used ones, by what they say
key_order : List ℕ × (ℕ × (ℕ × Config)) → List ℕ × (ℕ × (ℕ × Config)) → Ordering
key_order k l = ordering_then (int_cmp k.1.1.1.priority l.1.1.1.priority) (ordering_then (nat_cmp k.1.0 l.1.0) (nat_cmp k.1.1.0 l.1.1.0))

total : IsTotalOrder key_order
unfolding key_order
total = then_total (on_total (λ (k : List ℕ × (ℕ × (ℕ × Config))). k.1.1.1.priority) int_cmp_total) (then_total (on_total (λ (k : List ℕ × (ℕ × (ℕ × Config))). k.1.0) nat_cmp_total) (on_total (λ (k : List ℕ × (ℕ × (ℕ × Config))). k.1.1.0) nat_cmp_total))

not-less_equal : (o : Ordering) → o ≡ Less → o ≡ Equal → ⊥
not-less_equal o e f = let clash : Less ≡ Equal = sym e ∙ f in cc

order-one_way : (k l : List ℕ × (ℕ × (ℕ × Config))) → key_order k l ≡ Less → key_order l k ≡ Less → ⊥
order-one_way k l before after = not-less_equal (key_order k k) (total.trans k l k before after) (tied_itself total k)

module _ (files : List File) (side : Side) (mods : List ModInfo) where
  used-within : (used other : List LoadedConfig) → AreUsed files side mods used → AreUsed files side mods other → (c : LoadedConfig) → Contains used c → Any (λ d. key d ≡ key c) other
  used-within used other g h c found =
      let one = All-contains (λ (x : LoadedConfig). IsUsedAt side mods x.path x.mod_place x.place × IsRead files mods x) used c g.each found in
      let (k, d, inside, is_d, at) = h.all c.path (c.mod_place, c.place, one.0.here) in
      let two = All-contains (λ (x : LoadedConfig). IsUsedAt side mods x.path x.mod_place x.place × IsRead files mods x) other d h.each (k, inside, is_d) in
      let places = used-one side mods c.path d.mod_place d.place c.mod_place c.place (subst (λ (p : List ℕ). IsUsedAt side mods p d.mod_place d.place) at two.0) one.0 in
      (k, d, inside, is_d, one-key files mods d c at places two.1 one.1)

  one-used : (used other : List LoadedConfig) → AreUsed files side mods used → AreUsed files side mods other → AllZip IsSameAs used other
  unfolding key_order
  one-used used other g h =
      same-lists files mods used other
      (same-keys (λ k l. key_order k l ≡ Less) order-one_way used other g.ordered h.ordered (used-within used other g h) (used-within other used h g))
      (λ k d inside. (g.each k d inside).1)
      (λ k d inside. (h.each k d inside).1)

  others-within : (others other : List LoadedConfig) → AreOthers files side mods others → AreOthers files side mods other → (c : LoadedConfig) → Contains others c → Any (λ d. key d ≡ key c) other
  others-within others other g h c found =
      let one = All-contains (λ (x : LoadedConfig). IsOtherAt side mods x.path x.mod_place x.place × IsRead files mods x) others c g.each found in
      let (k, d, inside, is_d, at) = h.all c.path (c.mod_place, c.place, one.0.0.here) one.0.1 in
      let two = All-contains (λ (x : LoadedConfig). IsOtherAt side mods x.path x.mod_place x.place × IsRead files mods x) other d h.each (k, inside, is_d) in
      let places = other-one side mods c.path d.mod_place d.place c.mod_place c.place (subst (λ (p : List ℕ). IsOtherAt side mods p d.mod_place d.place) at two.0) one.0 in
      (k, d, inside, is_d, one-key files mods d c at places two.1 one.1)

  one-others : (others other : List LoadedConfig) → AreOthers files side mods others → AreOthers files side mods other → AllZip IsSameAs others other
  one-others others other g h =
      same-lists files mods others other
      (same-keys (λ k l. IsPathBefore k.0 l.0) (λ k l. not-both_before k.0 l.0) others other g.ordered h.ordered (others-within others other g h) (others-within other others h g))
      (λ k d inside. (g.each k d inside).1)
      (λ k d inside. (h.each k d inside).1)

  pub one-loading : (configs other : Configs) → AreConfigs files side mods configs → AreConfigs files side mods other → AreSame configs other
  one-loading configs other g h = record {
    used = one-used configs.used.items other.used.items g.used h.used;
    others = one-others configs.others.items other.others.items g.others h.others;
  }
