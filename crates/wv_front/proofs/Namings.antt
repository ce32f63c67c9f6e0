-- Namings: what an entry names, and what the entries of configurations name together.
use Rattle.std.proofs.Common.{◌≡◌, ◌↔◌, ◌⊎◌, inl, inr, ℕ, zero, suc, ◌<◌, List, [], ◌∷◌, ◌++◌, length, map, Contains, Some, None, Result, Ok, Err, OnOk, bytes_eq, refl, ap, sym, ◌∙◌, subst, arith}
use Rattle.std.specs.List.{position}
use Rattle.std.proofs.lemmas.List.{length-map}
use Rattle.std.proofs.lemmas.List.Quantifiers.{position-Some}
use Rattle.wv_base.specs.declared.side.Side.{Side}
use Rattle.wv_classes.specs.declared.loaded_class.LoadedClass.{LoadedClass}
use Rattle.wv_config.specs.declared.config.Config.{Config}
use Rattle.wv_config.specs.declared.loaded.LoadedConfig.{LoadedConfig}
use Rattle.wv_config.specs.Slashes.{class_of}
use Rattle.wv_front.specs.declared.order.AppliedMixin.{AppliedMixin}
use Rattle.wv_front.specs.Places.{loaded_name}
use Rattle.wv_front.specs.MixinOrder.{StandsAt, side_entries, entries_on, priority_of, NamesClass, IsNaming}
use Rattle.wv_front.specs.Naming.{Grows, IsOfSome, IsEntryNaming, AreEntryNamings, AreConfigNamings}
use Rattle.wv_front.proofs.Grown.{stands-one, grows-not, grows-push, grows-both, of-append}

some-same : (j k : ℕ) → Some j ≡ Some k → j ≡ k
some-same j k e = cc

none-some : (k : ℕ) → None ≡ Some k → ⊥
none-some k e = cc

-- ---- One naming

pub place-inside : (classes : List LoadedClass) (name : List ℕ) (place : ℕ) → position (bytes_eq name) (map loaded_name classes) ≡ Some place → place < length classes
place-inside classes name place some =
    let found = position-Some (bytes_eq name) (map loaded_name classes) place name some in
    let within = found.0 in
    omega (arith, length-map classes loaded_name)

-- an entry names one class, with one priority
names-one : (classes : List LoadedClass) (config : Config) (entry : List ℕ) (x y : AppliedMixin) → NamesClass classes config entry x → NamesClass classes config entry y → x.config_place ≡ y.config_place → x.entry_place ≡ y.entry_place → x ≡ y
names-one classes config entry x y h g by_config by_entry =
    let names : x.name ≡ y.name = h.of_name ∙ sym g.of_name in
    let places : x.class_place ≡ y.class_place = some-same x.class_place y.class_place (sym h.first ∙ ap (λ n. position (bytes_eq n) (map loaded_name classes)) names ∙ g.first) in
    let one : h.class ≡ g.class = stands-one classes x.class_place y.class_place h.class g.class places h.of_class g.of_class in
    let priorities : x.priority ≡ y.priority = h.of_priority ∙ ap (priority_of config) one ∙ sym g.of_priority in
    λ i. record {
      name = names i;
      class_place = places i;
      priority = priorities i;
      config_place = by_config i;
      entry_place = by_entry i;
    }

-- namings under one key's places are one
pub naming-one : (configs : List LoadedConfig) (classes : List LoadedClass) (side : Side) (x y : AppliedMixin) → IsNaming configs classes side x → IsNaming configs classes side y → x.config_place ≡ y.config_place → x.entry_place ≡ y.entry_place → x ≡ y
naming-one configs classes side x y h g by_config by_entry =
    let one : h.loaded ≡ g.loaded = stands-one configs x.config_place y.config_place h.loaded g.loaded by_config h.by_config g.by_config in
    let stands : StandsAt (entries_on side g.loaded.config) x.entry_place h.entry = subst (λ (l : LoadedConfig). StandsAt (entries_on side l.config) x.entry_place h.entry) one h.by_entry in
    let entries : h.entry ≡ g.entry = stands-one (entries_on side g.loaded.config) x.entry_place y.entry_place h.entry g.entry by_entry stands g.by_entry in
    names-one classes g.loaded.config g.entry x y
    (subst (λ (e : List ℕ). NamesClass classes g.loaded.config e x) entries (subst (λ (l : LoadedConfig). NamesClass classes l.config h.entry x) one h.names))
    g.names by_config by_entry

-- ---- An entry

entry-named : (classes : List LoadedClass) (config_place : ℕ) (config : Config) (entry_place : ℕ) (entry : List ℕ) (namings : List AppliedMixin) (mixin : AppliedMixin) → IsEntryNaming classes config_place config entry_place entry mixin → Grows namings (namings ++ mixin ∷ []) (IsEntryNaming classes config_place config entry_place entry)
entry-named classes config_place config entry_place entry namings mixin is =
    grows-push namings mixin (IsEntryNaming classes config_place config entry_place entry) is
    (λ x h. names-one classes config entry x mixin h.2 is.2 (h.0 ∙ sym is.0) (h.1 ∙ sym is.1))

some-stands : {A : Type 0} (xs : List A) (k : ℕ) → k < length xs → (x : A) × StandsAt xs k x
some-stands [] k inside = absurd (omega arith)
some-stands (x ∷ xs) zero inside = (x, (inside, refl))
some-stands (x ∷ xs) (suc k) inside =
    let (y, (within, at)) = some-stands xs k (omega arith) in
    (y, (inside, at))

pub entry-pushed : (classes : List LoadedClass) (config_place : ℕ) (config : Config) (entry_place : ℕ) (entry : List ℕ) (namings : List AppliedMixin) (mixin : AppliedMixin) (name : List ℕ) (class_place : ℕ) → mixin.name ≡ name → mixin.class_place ≡ class_place → mixin.config_place ≡ config_place → mixin.entry_place ≡ entry_place → name ≡ class_of config.«package» entry → position (bytes_eq name) (map loaded_name classes) ≡ Some class_place → ((class : LoadedClass) → StandsAt classes class_place class → mixin.priority ≡ priority_of config class) → Grows namings (namings ++ mixin ∷ []) (IsEntryNaming classes config_place config entry_place entry)
entry-pushed classes config_place config entry_place entry namings mixin name class_place is_name is_class is_config is_entry of_name first of_priority =
    let found = some-stands classes class_place (place-inside classes name class_place first) in
    entry-named classes config_place config entry_place entry namings mixin (
      is_config,
      is_entry,
      record {
        of_name = is_name ∙ of_name;
        first = ap (λ n. position (bytes_eq n) (map loaded_name classes)) is_name ∙ first ∙ ap Some (sym is_class);
        class = found.0;
        of_class = subst (λ (k : ℕ). StandsAt classes k found.0) (sym is_class) found.1;
        of_priority = of_priority found.0 found.1;
      },
    )

pub entry-unnamed : (classes : List LoadedClass) (config_place : ℕ) (config : Config) (entry_place : ℕ) (entry name : List ℕ) (namings : List AppliedMixin) → name ≡ class_of config.«package» entry → position (bytes_eq name) (map loaded_name classes) ≡ None → Grows namings namings (IsEntryNaming classes config_place config entry_place entry)
entry-unnamed classes config_place config entry_place entry name namings of_name none =
    grows-not namings (IsEntryNaming classes config_place config entry_place entry)
    (λ x h. none-some x.class_place (sym none ∙ ap (λ n. position (bytes_eq n) (map loaded_name classes)) (of_name ∙ sym h.2.of_name) ∙ h.2.first))

-- ---- A configuration

pub config-named : (classes : List LoadedClass) (side : Side) (config_place : ℕ) (config : Config) (entries : List (List ℕ)) (xs ys zs : List AppliedMixin) → entries ≡ side_entries side config → Grows xs ys (AreEntryNamings classes config_place config config.mixins 0) → Grows ys zs (AreEntryNamings classes config_place config entries (length config.mixins)) → Grows xs zs (AreConfigNamings classes side config_place config)
config-named classes side config_place config entries xs ys zs same g h =
    grows-both xs ys zs (AreEntryNamings classes config_place config config.mixins 0) (AreEntryNamings classes config_place config entries (length config.mixins)) (AreConfigNamings classes side config_place config) g h
    (λ x. subst (λ (es : List (List ℕ)). AreConfigNamings classes side config_place config x ↔ (AreEntryNamings classes config_place config config.mixins 0 x ⊎ AreEntryNamings classes config_place config es (length config.mixins) x)) (sym same)
    (of-append (IsEntryNaming classes config_place config) config.mixins (side_entries side config) x))

pub configs-named : {E : Type 0} (classes : List LoadedClass) (side : Side) (config_place : ℕ) (config : Config) (entries : List (List ℕ)) (xs ys zs : List AppliedMixin) (r : Result (Unit {0}) E) → entries ≡ side_entries side config → Grows xs ys (AreEntryNamings classes config_place config config.mixins 0) → OnOk r (Grows ys zs (AreEntryNamings classes config_place config entries (length config.mixins))) → OnOk r (Grows xs zs (AreConfigNamings classes side config_place config))
configs-named classes side config_place config entries xs ys zs (Err e) same g h = tt
configs-named classes side config_place config entries xs ys zs (Ok x) same g h = config-named classes side config_place config entries xs ys zs same g h

-- ---- All configurations

pub all-named : (configs : List LoadedConfig) (classes : List LoadedClass) (side : Side) (namings : List AppliedMixin) → Grows [] namings (IsOfSome (λ place loaded. AreConfigNamings classes side place loaded.config) configs) → (mixin : AppliedMixin) → Contains namings mixin ↔ IsNaming configs classes side mixin
all-named configs classes side namings grows mixin = (into, from)
  where
    in-nothing : Contains {X = AppliedMixin} [] mixin → ⊥
    in-nothing (k, inside, at) = omega arith

    into : Contains namings mixin → IsNaming configs classes side mixin
    into there = elim ((grows mixin).0 there) [
      | inl nothing ↦ absurd (in-nothing nothing)
      | inr (place, loaded, stands, (entry_place, entry, stands', is)) ↦ record {
        loaded = loaded;
        by_config = subst (λ (n : ℕ). StandsAt configs n loaded) (sym is.0) stands;
        entry = entry;
        by_entry = subst (λ (n : ℕ). StandsAt (entries_on side loaded.config) n entry) (sym is.1) stands';
        names = is.2;
      }
    ]

    from : IsNaming configs classes side mixin → Contains namings mixin
    from h = (grows mixin).1 (inr (mixin.config_place, h.loaded, h.by_config, (mixin.entry_place, h.entry, h.by_entry, (refl, refl, h.names))))
