-- What stands at a key of a JSON object (RFC 8259, as serde_json reads it).
use Rattle.std.specs.Prelude.{Option, Some, None}
use Rattle.serde_json.specs.Data.{Data}
use Rattle.wv_json.specs.declared.field.Field.{Field}
use Rattle.wv_json.specs.declared.field.Field.TheVariants.{Absent, Is, Other}

-- what was found is the value that stands there, or nothing where it is of another kind
abbrev pub IsRead : {A : Type 0} → (Data → A → Type 0) → Data → Option A → Type 0
IsRead OfKind value (Some found) = OfKind value found
IsRead {A} OfKind value None = (other : A) → OfKind value other → ⊥

-- absent just where nothing stands at the key, and else what stands there or "of another kind"
abbrev pub IsField : {A : Type 0} → (Data → A → Type 0) → Option Data → Field A → Type 0
IsField OfKind None Absent = Unit {0}
IsField OfKind None (Is found) = ⊥
IsField OfKind None Other = ⊥
IsField OfKind (Some value) Absent = ⊥
IsField OfKind (Some value) (Is found) = OfKind value found
IsField {A} OfKind (Some value) Other = (other : A) → OfKind value other → ⊥
