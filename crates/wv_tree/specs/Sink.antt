-- What a sink got. Our own.
use Rattle.std.specs.Prelude.{◌≡◌, ℕ, ◌+◌, ◌<◌, List, [], ◌++◌, length, take, Option, unwrap_or}
use Rattle.std.specs.Option.{option_map}

-- what was told before, if anything, and these bytes behind it
abbrev pub with_bytes : List ℕ → Option (List ℕ) → Option (List ℕ)
with_bytes bytes told = option_map (λ before. before ++ bytes) told

-- of the bytes, only so many first ones were added
abbrev pub AddsFirst : List ℕ → Option (List ℕ) → Option (List ℕ) → Type 0
AddsFirst bytes before now = (count : ℕ) × (now ≡ with_bytes (take count bytes) before)

-- what was told before and these bytes are together more than so many
abbrev pub IsOver : ℕ → List ℕ → Option (List ℕ) → Type 0
IsOver capacity bytes told = capacity < length (unwrap_or told []) + length bytes
