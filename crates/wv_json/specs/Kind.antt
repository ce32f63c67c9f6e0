-- JSON values by their kinds (RFC 8259, as serde_json reads it).
use Rattle.std.specs.Prelude.{◌≡◌, ◌⊎◌, ℕ, ℤ, Bool, FitsSigned, List, [], ◌∷◌, map}
use Rattle.std.specs.Int.{w32}
use Rattle.std.specs.Borrow.{Bor}
use Rattle.serde_json.specs.declared.value.Value.{Value}
use Rattle.serde_json.specs.Data.{Data, boolean, number, string, array, object, Members, no_members, member}
use Rattle.serde_json.specs.Find.{of_integer}
use Rattle.serde_json.specs.View.{view, items_of, items_view}

-- the value is this text
abbrev pub IsText : Data → List ℕ → Type 0
IsText value text = value ≡ string text

-- the value is this integer of 32 bits
abbrev pub IsNumber : Data → ℤ → Type 0
IsNumber value integer = (value ≡ number (of_integer integer)) × FitsSigned w32 integer

-- the value is this boolean
abbrev pub IsBoolean : Data → Bool → Type 0
IsBoolean value b = value ≡ boolean b

-- the value is the list of these items
abbrev pub IsList : Data → Bor (List Value) → Type 0
IsList value items = value ≡ array (items_view items.now)

-- the value is an object
abbrev pub IsObject : Data → Type 0
IsObject value = (members : Members) × (value ≡ object members)

-- the value is an object, this one
abbrev pub IsThisObject : Data → Bor Value → Type 0
IsThisObject value found = (value ≡ view found.now) × IsObject value

-- the value is the list of these texts
abbrev pub IsTexts : Data → List (List ℕ) → Type 0
IsTexts value texts = value ≡ array (items_of (map string texts))

-- the value is one text, or a list of texts
abbrev pub IsTextOrTexts : Data → List (List ℕ) → Type 0
IsTextOrTexts value texts = IsTexts value texts
    ⊎ ((text : List ℕ) × IsText value text × (texts ≡ text ∷ []))

-- the members are these keys, in their order, each with a value of the kind
abbrev pub AreMembers : {A : Type 0} → (Data → A → Type 0) → Members → List (List ℕ × A) → Type 0
AreMembers OfKind no_members [] = Unit {0}
AreMembers OfKind no_members (entry ∷ entries) = ⊥
AreMembers OfKind (member key value rest) [] = ⊥
AreMembers OfKind (member key value rest) (entry ∷ entries) = (entry.0 ≡ key) × OfKind value entry.1
    × AreMembers OfKind rest entries

-- the value is the object of these keys, in their order, each with a value of the kind
abbrev pub IsObjectOf : {A : Type 0} → (Data → A → Type 0) → Data → List (List ℕ × A) → Type 0
IsObjectOf OfKind value entries = (members : Members) × (value ≡ object members)
    × AreMembers OfKind members entries
