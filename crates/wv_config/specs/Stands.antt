-- What is read at a key of an object (our own).
use Rattle.std.specs.Prelude.{◌≡◌, ℕ, List, Option, Some, None}
use Rattle.serde_json.specs.Data.{Data}
use Rattle.serde_json.specs.Find.{get}
use Rattle.wv_json.specs.Kind.{IsObject}

-- what stands at the key is this value of the kind
abbrev pub IsThere : {A : Type 0} → (Data → A → Type 0) → Option Data → A → Type 0
IsThere OfKind None x = ⊥
IsThere OfKind (Some value) x = OfKind value x

-- nothing stands at the key, or this value of the kind
abbrev pub IsThereOrNone : {A : Type 0} → (Data → A → Type 0) → Option Data → Option A → Type 0
IsThereOrNone OfKind None None = Unit {0}
IsThereOrNone OfKind None (Some x) = ⊥
IsThereOrNone OfKind (Some value) None = ⊥
IsThereOrNone OfKind (Some value) (Some x) = OfKind value x

-- what stands at the key is this value of the kind, and where nothing stands there it is the default
abbrev pub IsOrElse : {A : Type 0} → (Data → A → Type 0) → A → Option Data → A → Type 0
IsOrElse OfKind default None x = x ≡ default
IsOrElse OfKind default (Some value) x = OfKind value x

-- what stands at the outer key, if anything, is an object, and this is read at the key within it
abbrev pub IsWithin : {A : Type 0} → (Option Data → A → Type 0) → List ℕ → Option Data → A → Type 0
IsWithin IsRead key None x = IsRead None x
IsWithin IsRead key (Some value) x = IsObject value × IsRead (get key value) x
