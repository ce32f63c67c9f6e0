-- The names of listed classes, as the configurations are gone over.
use Rattle.std.proofs.Common.{◌≡◌, ◌↔◌, inl, inr, ℕ, zero, suc, ◌+◌, ◌<◌, ◌≤◌, Bool, true, cond, IsTrue, List, [], ◌∷◌, ◌++◌, length, get_or, take, map, Any, Contains, Result, Ok, Err, OnOk, refl, ap, sym, ◌∙◌, subst, arith}
use Rattle.std.specs.List.{flat_map}
use Rattle.std.specs.Cmp.Lexicographic.{slice_cmp}
use Rattle.std.specs.Ordering.{nat_cmp, is_eq}
use Rattle.std.proofs.lemmas.Grind.{flat_map-append}
use Rattle.std.proofs.lemmas.List.{map-append, take_all}
use Rattle.std.proofs.lemmas.List.Elements.{Contains-append_cases, Contains-append_left, Contains-append_right}
use Rattle.wv_config.specs.declared.config.Config.{Config}
use Rattle.wv_config.specs.declared.loaded.Configs.{Configs}
use Rattle.wv_config.specs.declared.loaded.LoadedConfig.{LoadedConfig}
use Rattle.wv_config.specs.Slashes.{class_of}
use Rattle.wv_front.specs.Listed.{all_configs, class_names}
use Rattle.wv_resolve.proofs.Lists.{front-more, flat-more}
use Rattle.wv_weave.specs.declared.listed.ListedNames.{ListedNames}
use Rattle.wv_weave.specs.ListedNames.{GrowsBy, HasNames, has, listed_names}
use Rattle.wv_weave.specs.WrittenClasses.{IsMixinName}
use Rattle.wv_weave.proofs.ListedSets.{grows-both, grows-one, grown-names}

-- ---- What is asked

any-of-flat : {A B : Type 0} (f : A → List B) (xs : List A) (y : B) → Contains (flat_map f xs) y → Any (λ x. Contains (f x) y) xs
any-of-flat f [] y (k, inside, at) = absurd (omega arith)
any-of-flat f (x ∷ xs) y there = elim (Contains-append_cases (f x) (flat_map f xs) y there) [
  | inl here ↦ (0, x, omega arith, refl, here)
  | inr later ↦ let m = any-of-flat f xs y later in (suc m.0, m.1, omega (arith, m.2), m.3, m.4)
]

flat-of-any : {A B : Type 0} (f : A → List B) (xs : List A) (y : B) → Any (λ x. Contains (f x) y) xs → Contains (flat_map f xs) y
flat-of-any f [] y (k, x, inside, at, here) = absurd (omega arith)
flat-of-any f (x ∷ xs) y (zero, z, inside, at, here) = Contains-append_left (f x) (flat_map f xs) y (subst (λ w. Contains (f w) y) (sym at) here)
flat-of-any f (x ∷ xs) y (suc k, z, inside, at, here) = Contains-append_right (f x) (flat_map f xs) y (flat-of-any f xs y (k, z, omega arith, at, here))

abbrev pub names_of : LoadedConfig → List (List ℕ)
names_of loaded = class_names loaded.config

-- the set has the names of mixins
pub has-mixins : (configs : Configs) (listed : ListedNames) (name : List ℕ) (answer : Bool) → answer ≡ has listed name → HasNames (listed_names configs) listed → IsTrue answer ↔ IsMixinName configs name
has-mixins configs listed name answer is h = (
  λ t. any-of-flat names_of (all_configs configs) name ((h name).0 (sym is ∙ t)),
  λ mixin. is ∙ (h name).1 (flat-of-any names_of (all_configs configs) name mixin),
)

-- ---- What is gone over

module _ (in_package : List ℕ) (entries : List (List ℕ)) (i : ℕ) where
  pub entry-more : (old between new : ListedNames) (entry key : List ℕ) → i < length entries → entry ≡ get_or entries i entry → key ≡ class_of in_package entry
      → ((text : List ℕ) → has new text ≡ cond (is_eq (slice_cmp nat_cmp key text)) true (has between text))
      → GrowsBy old between (map (class_of in_package) (take i entries)) → GrowsBy old new (map (class_of in_package) (take (i + 1) entries))
  entry-more old between new entry key inside at is updates h =
      subst (GrowsBy old new) (sym (ap (map (class_of in_package)) (front-more entries i entry inside at) ∙ map-append (class_of in_package) (take i entries) (entry ∷ [])))
      (grows-both old between new (map (class_of in_package) (take i entries)) (class_of in_package entry ∷ []) h
      (subst (λ name. GrowsBy between new (name ∷ [])) is (grows-one between new key updates)))

  pub entry-all : (old new : ListedNames) → length entries ≤ i → GrowsBy old new (map (class_of in_package) (take i entries)) → GrowsBy old new (map (class_of in_package) entries)
  entry-all old new past h = subst (λ all. GrowsBy old new (map (class_of in_package) all)) (take_all i entries past) h

-- the three lists of a configuration, one after the other
pub three-lists : (config : Config) (old one two new : ListedNames) → GrowsBy old one (map (class_of config.«package») config.mixins) → GrowsBy one two (map (class_of config.«package») config.client)
    → GrowsBy two new (map (class_of config.«package») config.server) → GrowsBy old new (class_names config)
three-lists config old one two new h g k =
    subst (GrowsBy old new) (sym (map-append name_of (config.mixins ++ config.client) config.server ∙ ap (λ front. front ++ map name_of config.server) (map-append name_of config.mixins config.client)))
    (grows-both old two new (map name_of config.mixins ++ map name_of config.client) (map name_of config.server)
    (grows-both old one two (map name_of config.mixins) (map name_of config.client) h g) k)
  where
    name_of : List ℕ → List ℕ
    name_of = class_of config.«package»

-- the last of them, of which a call tells
pub last-list : {E : Type 0} (config : Config) (old one two new : ListedNames) (r : Result (Unit {0}) E) → GrowsBy old one (map (class_of config.«package») config.mixins) → GrowsBy one two (map (class_of config.«package») config.client)
    → OnOk r (GrowsBy two new (map (class_of config.«package») config.server)) → OnOk r (GrowsBy old new (class_names config))
last-list config old one two new (Err e) h g k = tt
last-list config old one two new (Ok x) h g k = three-lists config old one two new h g k

module _ (configs : List LoadedConfig) (i : ℕ) where
  pub config-more : (old between new : ListedNames) (loaded : LoadedConfig) → i < length configs → loaded ≡ get_or configs i loaded → GrowsBy between new (class_names loaded.config)
      → GrowsBy old between (flat_map names_of (take i configs)) → GrowsBy old new (flat_map names_of (take (i + 1) configs))
  config-more old between new loaded inside at g h =
      subst (GrowsBy old new) (sym (flat-more names_of configs i loaded inside at)) (grows-both old between new (flat_map names_of (take i configs)) (class_names loaded.config) h g)

  pub config-all : (old new : ListedNames) → length configs ≤ i → GrowsBy old new (flat_map names_of (take i configs)) → GrowsBy old new (flat_map names_of configs)
  config-all old new past h = subst (λ all. GrowsBy old new (flat_map names_of all)) (take_all i configs past) h

-- the configurations that are used, and the others
pub all-listed : (configs : Configs) (old between new : ListedNames) → old.names.keys ≡ [] → GrowsBy old between (flat_map names_of configs.used.items) → GrowsBy between new (flat_map names_of configs.others.items)
    → HasNames (listed_names configs) new
all-listed configs old between new none h g =
    subst (λ names. HasNames names new) (sym (flat_map-append names_of configs.used.items configs.others.items))
    (grown-names old new (flat_map names_of configs.used.items ++ flat_map names_of configs.others.items) none
    (grows-both old between new (flat_map names_of configs.used.items) (flat_map names_of configs.others.items) h g))
