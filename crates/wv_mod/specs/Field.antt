use Rattle.std.specs.Prelude.{◌≡◌, Option, Some, None}
use Rattle.serde_json.specs.Data.{Data}

-- what was found has the property, or nothing has it
abbrev pub IsFound : {A : Type 0} → (A → Type 0) → Option A → Type 0
IsFound Has (Some found) = Has found
IsFound {A} Has None = (other : A) → Has other → ⊥

-- a value of the kind stands there
abbrev pub IsRequired : {A : Type 0} → (Data → A → Type 0) → Option Data → A → Type 0
IsRequired OfKind (Some value) found = OfKind value found
IsRequired OfKind None found = ⊥

-- a value of the kind stands there, or nothing, which counts as the default
abbrev pub IsOptional : {A : Type 0} → (Data → A → Type 0) → A → Option Data → A → Type 0
IsOptional OfKind default (Some value) found = OfKind value found
IsOptional OfKind default None found = found ≡ default
