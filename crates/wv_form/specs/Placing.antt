-- Tables of where something stands (our own).
use Rattle.std.specs.Prelude.{◌≡◌, ◌↔◌, ◌||◌, ℕ, Bool, false, not, IsTrue, List, Contains, Option, Some, None, bytes_eq}
use Rattle.std.specs.Borrow.{Bor}
use Rattle.std.specs.BTreeMap.{BTreeMap, get_by}
use Rattle.std.specs.Cmp.Lexicographic.{slice_cmp}
use Rattle.std.specs.Ordering.{nat_cmp}
use Rattle.wv_form.specs.declared.placing.Place.{Place}

-- where something stands that stood there so far, and now stands at this path
abbrev pub placed : Option Place → Bor (List ℕ) → Place
placed None path = record { first = path; several = false }
placed (Some place) path = record { first = place.first; several = place.several || not (bytes_eq place.first.now path.now) }

-- whether something that stands there stands at another path than this one
abbrev pub is_elsewhere : Option Place → List ℕ → Bool
is_elsewhere None path = false
is_elsewhere (Some place) path = place.several || not (bytes_eq place.first.now path)

-- what is known of something
abbrev pub place_of : BTreeMap (Bor (List ℕ)) Place → List ℕ → Option Place
place_of table key = get_by (λ stored. slice_cmp nat_cmp key stored.now) table

-- of the pairs of a key and a path, one has this key and another path
abbrev pub StandsElsewhere : List (List ℕ × List ℕ) → (key path : List ℕ) → Type 0
StandsElsewhere pairs key path = (other : List ℕ) × Contains pairs (key, other) × (other ≡ path → ⊥)

-- the table tells of each key whether it stands at another path
abbrev pub TellsPlaces : List (List ℕ × List ℕ) → BTreeMap (Bor (List ℕ)) Place → Type 0
TellsPlaces pairs table =
    (key path : List ℕ) → IsTrue (is_elsewhere (place_of table key) path) ↔ StandsElsewhere pairs key path
