-- What is known on the way to the mixins in their order: the namings so far, and the first of each class (our own).
use Rattle.std.specs.Prelude.{◌≡◌, ◌≢◌, ◌⊎◌, ◌↔◌, ◌<◌, ◌+◌, ℕ, List, map, All, Any, AllPairs, Contains, IsPermutation}
use Rattle.wv_base.specs.declared.side.Side.{Side}
use Rattle.wv_classes.specs.declared.loaded_class.LoadedClass.{LoadedClass}
use Rattle.wv_config.specs.declared.config.Config.{Config}
use Rattle.wv_front.specs.declared.order.AppliedMixin.{AppliedMixin}
use Rattle.wv_front.specs.declared.order.Namer.{Namer}
use Rattle.wv_front.specs.Places.{loaded_name}
use Rattle.wv_front.specs.Listing.{ArePlaces}
use Rattle.wv_front.specs.MixinOrder.{IsBefore, StandsAt, NamesClass, entries_on}

-- the list with just those behind it that have the property
abbrev pub Grows : {A : Type 0} → List A → List A → (A → Type 0) → Type 0
Grows {A} list more IsNew = (x : A) → Contains more x ↔ (Contains list x ⊎ IsNew x)

-- some element of the list is of the thing, at its place
abbrev pub IsOfSome : {A B : Type 0} → (ℕ → A → B → Type 0) → List A → B → Type 0
IsOfSome {A} IsOf list y = (k : ℕ) × (x : A) × StandsAt list k x × IsOf k x y

-- some of the first elements
abbrev pub IsOfFront : {A B : Type 0} → (ℕ → A → B → Type 0) → List A → ℕ → B → Type 0
IsOfFront {A} IsOf list many y = (k : ℕ) × (x : A) × (k < many) × StandsAt list k x × IsOf k x y

-- the table is that of the classes
abbrev pub ArePlacesOf : Namer → Type 0
ArePlacesOf namer = ArePlaces (map loaded_name namer.classes.now) namer.places.now

-- the entry of the configuration names this class, under a key of these places
abbrev pub IsEntryNaming : List LoadedClass → ℕ → Config → ℕ → List ℕ → AppliedMixin → Type 0
IsEntryNaming classes config_place config entry_place entry mixin =
    (mixin.config_place ≡ config_place) × (mixin.entry_place ≡ entry_place) × NamesClass classes config entry mixin

-- some of these entries names it, the first of which has the place `base`
abbrev pub AreEntryNamings : List LoadedClass → ℕ → Config → List (List ℕ) → ℕ → AppliedMixin → Type 0
AreEntryNamings classes config_place config entries base mixin =
    IsOfSome (λ place. IsEntryNaming classes config_place config (base + place)) entries mixin

-- some entry of the configuration names it on the side
abbrev pub AreConfigNamings : List LoadedClass → Side → ℕ → Config → AppliedMixin → Type 0
AreConfigNamings classes side config_place config mixin =
    IsOfSome (IsEntryNaming classes config_place config) (entries_on side config) mixin

-- the second isn't before the first
abbrev pub NotBefore : AppliedMixin → AppliedMixin → Type 0
NotBefore mixin later = IsBefore later mixin → ⊥

-- the same namings in order
pub record IsSortedOf (namings sorted : List AppliedMixin) : Type 0 where
  pub same : IsPermutation namings sorted
  pub ordered : AllPairs NotBefore sorted

-- of ordered namings one of each class, of those that none is before
pub record AreFirsts (namings mixins : List AppliedMixin) : Type 0 where
  pub each : All (Contains namings) mixins
  pub least : All (λ naming. Any (λ mixin. (mixin.class_place ≡ naming.class_place) × NotBefore mixin naming) mixins) namings
  pub ordered : AllPairs NotBefore mixins
  pub apart : AllPairs (λ mixin other. mixin.class_place ≢ other.class_place) mixins
