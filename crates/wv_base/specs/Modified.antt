-- Modified UTF-8, the spelling of names in class files (JVM Specification 4.4.7).
use Rattle.std.specs.Prelude.{◌≡◌, ℕ, ◌+◌, ◌/◌, ◌%◌, ◌^◌, ◌<◌, ◌≤◌, ◌&&◌, nat_lt, if◌then◌else◌, List, [], ◌∷◌, ◌++◌, length, take, Result, Ok, Err}
use Rattle.std.specs.List.{flat_map, AllByRecursion}

-- a unit's bytes: one for 1 to 7F, two for 0 and 80 to 7FF, three for 800 to FFFF
abbrev pub unit_spelling : ℕ → List ℕ
unit_spelling unit =
    if nat_lt 0 unit && nat_lt unit 0x80 then unit ∷ []
    else if nat_lt unit 0x800 then (0xC0 + unit / 64) ∷ (0x80 + unit % 64) ∷ []
    else (0xE0 + unit / 4096) ∷ (0x80 + unit / 64 % 64) ∷ (0x80 + unit % 64) ∷ []

-- a name's bytes: those of its units, one after the other
abbrev pub spelling : List ℕ → List ℕ
spelling name = flat_map unit_spelling name

-- a name is a list of UTF-16 units, and a surrogate may stand alone
abbrev pub IsName : List ℕ → Type 0
IsName name = AllByRecursion (λ unit. unit < 2 ^ 16) name

-- the bytes are those of a name
abbrev pub IsSpelling : List ℕ → Type 0
IsSpelling bytes = (name : List ℕ) × IsName name × (bytes ≡ spelling name)

-- the bytes of some name begin so
abbrev pub BeginsSpelling : List ℕ → Type 0
BeginsSpelling front = (more : List ℕ) × IsSpelling (front ++ more)

-- The bytes are no name's, and this is where that shows: each shorter front begins a name's bytes,
-- and none begins with one byte more, or the input ends here.
pub record IsFault (bytes : List ℕ) (at : ℕ) : Type 0 where
  pub within : at ≤ length bytes
  pub not_spelled : IsSpelling bytes → ⊥
  pub begins : (k : ℕ) → k ≤ at → BeginsSpelling (take k bytes)
  pub none : at < length bytes → BeginsSpelling (take (at + 1) bytes) → ⊥

-- what reading answers: the name that the bytes spell, or the place of the fault
abbrev pub Reads : List ℕ → Result (List ℕ) ℕ → Type 0
Reads bytes (Ok name) = IsName name × (bytes ≡ spelling name)
Reads bytes (Err at) = IsFault bytes at
